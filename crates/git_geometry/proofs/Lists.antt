-- Members of lists that are joined, mapped, or taken apart into one member and the others.
use Rattle.std.proofs.Common.{◌≡◌, ◌⊎◌, ◌∷◌, ◌++◌, [], List, ap, inl, inr, map, refl, subst, suc}
use Rattle.git_lemmas.specs.Members.{Member}
use Rattle.git_defs.specs.Vectors.{Vector}
use Rattle.git_geometry.specs.Elimination.{IsPick}
use Rattle.git_geometry.proofs.Contained.{pick_by, pick_member, pick_split, pick_back}

pub member_left : (x : Vector) (us vs : List Vector) → Member x us → Member x (us ++ vs)
member_left x [] vs m = absurd m
member_left x (u ∷ us) vs (inl e) = inl e
member_left x (u ∷ us) vs (inr m) = inr (member_left x us vs m)

pub member_right : (x : Vector) (us vs : List Vector) → Member x vs → Member x (us ++ vs)
member_right x [] vs m = m
member_right x (u ∷ us) vs m = inr (member_right x us vs m)

pub member_either : (x : Vector) (us vs : List Vector) → Member x (us ++ vs) → Member x us ⊎ Member x vs
member_either x [] vs m = inr m
member_either x (u ∷ us) vs (inl e) = inl (inl e)
member_either x (u ∷ us) vs (inr m) = elim (member_either x us vs m) [ inl l ↦ inl (inr l) | inr r ↦ inr r ]

pub record Image (f : Vector → Vector) (vs : List Vector) (y : Vector) : Type 0 where
  pub from : Vector
  pub member : Member from vs
  pub is : f from ≡ y

pub image_of : (f : Vector → Vector) (vs : List Vector) (y : Vector) → Member y (map f vs) → Image f vs y
image_of f [] y m = absurd m
image_of f (v ∷ vs) y (inl e) = record { from = v; member = inl refl; is = e }
image_of f (v ∷ vs) y (inr m) = let r = image_of f vs y m in record { from = r.from; member = inr r.member; is = r.is }

pub map_member : (f : Vector → Vector) (vs : List Vector) (v : Vector) → Member v vs → Member (f v) (map f vs)
map_member f [] v m = absurd m
map_member f (u ∷ vs) v (inl e) = inl (ap f e)
map_member f (u ∷ vs) v (inr m) = inr (map_member f vs v m)

abbrev pub pairs : (Vector → Vector → Vector) → List Vector → List Vector → List Vector
pairs f [] S = []
pairs f (r ∷ R) S = map (f r) S ++ pairs f R S

pub pairs_all : (P : Vector → Type 0) (f : Vector → Vector → Vector) (R S : List Vector) → ((r s : Vector) → Member r R → Member s S → P (f r s))
    → (x : Vector) → Member x (pairs f R S) → P x
pairs_all P f [] S h x m = absurd m
pairs_all P f (r ∷ R) S h x m = elim (member_either x (map (f r) S) (pairs f R S) m) [
  | inl l ↦ (let i = image_of (f r) S x l in subst P i.is (h r i.from (inl refl) i.member))
  | inr n ↦ pairs_all P f R S (λ a b ma mb. h a b (inr ma) mb) x n
]

pub pairs_member : (f : Vector → Vector → Vector) (R S : List Vector) (r s : Vector) → Member r R → Member s S → Member (f r s) (pairs f R S)
pairs_member f [] S r s m n = absurd m
pairs_member f (q ∷ R) S r s (inl e) n = member_left (f r s) (map (f q) S) (pairs f R S) (subst (λ (u : Vector). Member (f u s) (map (f q) S)) e
    (map_member (f q) S s n))
pairs_member f (q ∷ R) S r s (inr m) n = member_right (f r s) (map (f q) S) (pairs f R S) (pairs_member f R S r s m n)

pub pick_first : (v : Vector) (vs : List Vector) → IsPick v vs (v ∷ vs)
pick_first v vs = pick_by v vs (v ∷ vs) (inl refl) (λ x m. m) (λ x m. inr m) refl

pub pick_later : (v r : Vector) (others vs : List Vector) → IsPick r others vs → IsPick r (v ∷ others) (v ∷ vs)
pick_later v r others vs p = pick_by r (v ∷ others) (v ∷ vs) (inr (pick_member p))
    (λ x m. elim m [ inl e ↦ inr (inl e) | inr n ↦ elim (pick_split p x n) [ inl e ↦ inl e | inr o ↦ inr (inr o) ] ])
    (λ x m. elim m [ inl e ↦ inl e | inr n ↦ inr (pick_back p x n) ]) (ap suc p.size)

pub pick_of : (u : Vector) (vs : List Vector) → Member u vs → (others : List Vector) × IsPick u others vs
pick_of u [] m = absurd m
pick_of u (v ∷ vs) (inl e) = (vs, subst (λ (w : Vector). IsPick w vs (v ∷ vs)) e (pick_first v vs))
pick_of u (v ∷ vs) (inr m) = let p = pick_of u vs m in (v ∷ p.0, pick_later v u p.0 vs p.1)

pub record Chosen (P : Vector → List Vector → Type 0) (vs : List Vector) : Type 0 where
  pub one : Vector
  pub others : List Vector
  pub holds : P one others
  pub pick : IsPick one others vs

pub record Fails (P : Vector → List Vector → Type 0) (r : Vector) (vs : List Vector) : Type 0 where
  pub others : List Vector
  pub pick : IsPick r others vs
  pub fails : P r others → ⊥

pub choose : (P : Vector → List Vector → Type 0) → ((r : Vector) (o : List Vector) → P r o ⊎ (P r o → ⊥)) → (vs : List Vector)
    → Chosen P vs ⊎ ((r : Vector) → Member r vs → Fails P r vs)
choose P test [] = inr (λ r m. absurd m)
choose P test (v ∷ vs) = elim (test v vs) [
  | inl hit ↦ inl (record { one = v; others = vs; holds = hit; pick = pick_first v vs })
  | inr miss ↦ elim (choose (λ r o. P r (v ∷ o)) (λ r o. test r (v ∷ o)) vs) [
    | inl c ↦ inl (record { one = c.one; others = v ∷ c.others; holds = c.holds; pick = pick_later v c.one c.others vs c.pick })
    | inr f ↦ inr (λ r m. elim m [
      | inl e ↦ record {
        others = vs;
        pick = subst (λ (u : Vector). IsPick u vs (v ∷ vs)) e (pick_first v vs);
        fails = subst (λ (u : Vector). P u vs → ⊥) e miss;
      }
      | inr n ↦ let g = f r n in record { others = v ∷ g.others; pick = pick_later v r g.others vs g.pick; fails = g.fails }
    ])
  ]
]
