-- What the definitions say of all that a list contains, for members.
use Rattle.std.proofs.Common.{◌≡◌, ◌⊎◌, List, inl, inr, length, suc, ℕ}
use Rattle.git_defs.specs.Cones.{Cut, IsEdge}
use Rattle.git_defs.specs.Vectors.{IsPrimitive, Vector}
use Rattle.git_geometry.specs.Elimination.{IsPick}
use Rattle.git_geometry.specs.Generators.{Generates}
use Rattle.git_geometry.specs.Stages.{Exact}
use Rattle.git_lemmas.proofs.Members.{as_member, contained}
use Rattle.git_lemmas.specs.Members.{Member}

pub inside_at : {k : ℕ} {A R : List Vector} → Generates k A R → (r : Vector) → Member r R → Cut k A r
inside_at {R = R} g r m = g.inside r (contained R m)

pub edge_at : {k : ℕ} {A R : List Vector} → Exact k A R → (x : Vector) → Member x R → IsEdge k (Cut k A) x
edge_at {R = R} exact x m = exact.edges x (contained R m)

pub primitive_at : {k : ℕ} {A R : List Vector} → Exact k A R → (x : Vector) → Member x R → IsPrimitive x
primitive_at {R = R} exact x m = exact.primitive x (contained R m)

-- ---- picks
pub pick_by : (one : Vector) (others list : List Vector) → Member one list → ((x : Vector) → Member x list → (one ≡ x) ⊎ Member x others)
    → ((x : Vector) → Member x others → Member x list) → length list ≡ suc (length others) → IsPick one others list
pick_by one others list member split back size = record {
  member = contained list member;
  split = λ x c. elim (split x (as_member list c)) [ inl e ↦ inl e | inr m ↦ inr (contained others m) ];
  back = λ x c. contained list (back x (as_member others c));
  size = size;
}

pub pick_member : {one : Vector} {others list : List Vector} → IsPick one others list → Member one list
pick_member {list = list} p = as_member list p.member

pub pick_split : {one : Vector} {others list : List Vector} → IsPick one others list → (x : Vector) → Member x list → (one ≡ x) ⊎ Member x others
pick_split {others = others} {list = list} p x m = elim (p.split x (contained list m)) [ inl e ↦ inl e | inr c ↦ inr (as_member others c) ]

pub pick_back : {one : Vector} {others list : List Vector} → IsPick one others list → (x : Vector) → Member x others → Member x list
pick_back {others = others} {list = list} p x m = as_member list (p.back x (contained others m))
