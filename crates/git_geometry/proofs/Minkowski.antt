-- Finitely many vectors generate the cone that inequalities cut out, and finitely many inequalities cut out the cone of generators.
use Rattle.std.proofs.Common.{◌≡◌, ◌⊎◌, ◌∷◌, ◌++◌, [], List, arith, inl, inr, map, refl, subst, ℕ}
use Rattle.std.proofs.Math.IntN.{neg_ℤ, pos, ℤ}
use Rattle.std.proofs.lemmas.Int.{ints}
use Rattle.std.specs.Prelude.{◌<ℤ◌, ◌≤ℤ◌}
use borrow.Author.Differences.{up}
use Rattle.git_defs.proofs.Closed.{closed_cone, cone_closed, cone_has, sign_of}
use Rattle.git_defs.proofs.Linear.{dot-comm}
use Rattle.git_lemmas.specs.Members.{Member}
use Rattle.git_defs.proofs.Lengths.{OfLength, of_length_all}
use Rattle.git_defs.specs.Cones.{Cut, InCone, SameSet}
use Rattle.git_defs.specs.Vectors.{Vector, dot, units, zero_vector}
use Rattle.git_geometry.proofs.Blends.{blend_cut, one_more}
use Rattle.git_geometry.proofs.Cuts.{cut_closed, cut_more, cut_of, cut_with, side_at}
use Rattle.git_geometry.proofs.Farkas.{apart_side, farkas}
use Rattle.git_geometry.proofs.Lists.{image_of, map_member, member_either, member_left, member_right, pairs, pairs_all, pairs_member}
use Rattle.git_geometry.proofs.Signed.{signed_of_length}
use Rattle.git_geometry.proofs.Units.{units_of_length, units_span}
use Rattle.git_geometry.specs.Elimination.{signed}
use Rattle.git_geometry.specs.Generators.{Generates, IsCutOut, IsGenerated}
use Rattle.git_geometry.specs.Stages.{blend}
use Rattle.git_lemmas.proofs.Members.{as_member}
use Rattle.git_geometry.proofs.Contained.{inside_at}

-- ---- one inequality more
abbrev kept_by : (k : ℕ) (b r : Vector) → (pos 0 ≤ℤ dot b r) ⊎ (dot b r <ℤ pos 0) → Vector
kept_by k b r (inl up) = r
kept_by k b r (inr low) = zero_vector k

abbrev made_by : (k : ℕ) (b r s : Vector) → (pos 0 ≤ℤ dot b s) ⊎ (dot b s <ℤ pos 0) → (pos 0 ≤ℤ neg_ℤ (dot b r)) ⊎ (neg_ℤ (dot b r) <ℤ pos 0) → Vector
made_by k b r s (inl up) e = zero_vector k
made_by k b r s (inr low) (inl low2) = zero_vector k
made_by k b r s (inr low) (inr up) = blend b r s

kept_inside : (k : ℕ) (A : List Vector) (b r : Vector) → Cut k A r → (d : (pos 0 ≤ℤ dot b r) ⊎ (dot b r <ℤ pos 0)) → Cut k (b ∷ A) (kept_by k b r d)
kept_inside k A b r c (inl up) = cut_with b up c
kept_inside k A b r c (inr low) = (cut_closed k (b ∷ A)).none

made_inside : (k : ℕ) (A : List Vector) (b r s : Vector) → Cut k A r → Cut k A s
    → (d : (pos 0 ≤ℤ dot b s) ⊎ (dot b s <ℤ pos 0)) (e : (pos 0 ≤ℤ neg_ℤ (dot b r)) ⊎ (neg_ℤ (dot b r) <ℤ pos 0))
    → Cut k (b ∷ A) (made_by k b r s d e)
made_inside k A b r s cr cs (inl up) e = (cut_closed k (b ∷ A)).none
made_inside k A b r s cr cs (inr low) (inl low2) = (cut_closed k (b ∷ A)).none
made_inside k A b r s cr cs (inr low) (inr up) = blend_cut k A b r s cr cs (omega (arith, ints)) low

kept_is : (k : ℕ) (b r : Vector) → pos 0 ≤ℤ dot b r → (d : (pos 0 ≤ℤ dot b r) ⊎ (dot b r <ℤ pos 0)) → kept_by k b r d ≡ r
kept_is k b r h (inl up) = refl
kept_is k b r h (inr low) = absurd (omega (arith, ints))

made_is : (k : ℕ) (b r s : Vector) → pos 0 <ℤ dot b r → dot b s <ℤ pos 0
    → (d : (pos 0 ≤ℤ dot b s) ⊎ (dot b s <ℤ pos 0)) (e : (pos 0 ≤ℤ neg_ℤ (dot b r)) ⊎ (neg_ℤ (dot b r) <ℤ pos 0)) → made_by k b r s d e ≡ blend b r s
made_is k b r s h j (inl up) e = absurd (omega (arith, ints))
made_is k b r s h j (inr low) (inl low2) = absurd (omega (arith, ints))
made_is k b r s h j (inr low) (inr up) = refl

abbrev keeps : ℕ → Vector → Vector → Vector
keeps k b r = kept_by k b r (sign_of (dot b r))

abbrev makes : ℕ → Vector → Vector → Vector → Vector
makes k b r s = made_by k b r s (sign_of (dot b s)) (sign_of (neg_ℤ (dot b r)))

generates_more : (k : ℕ) (A R : List Vector) (b : Vector) → Generates k A R → Generates k (b ∷ A) (map (keeps k b) R ++ pairs (makes k b) R R)
generates_more k A R b s = record { inside = λ x m. inside x (as_member S m); all = all } where
  S : List Vector
  S = map (keeps k b) R ++ pairs (makes k b) R R

  inside : (x : Vector) → Member x S → Cut k (b ∷ A) x
  inside x m = elim (member_either x (map (keeps k b) R) (pairs (makes k b) R R) m) [
    | inl l ↦ (let i = image_of (keeps k b) R x l in subst (Cut k (b ∷ A)) i.is (kept_inside k A b i.from (inside_at s i.from i.member)
        (sign_of (dot b i.from))))
    | inr n ↦ pairs_all (Cut k (b ∷ A)) (makes k b) R R (λ r t mr mt. made_inside k A b r t (inside_at s r mr) (inside_at s t mt) (sign_of (dot b t))
        (sign_of (neg_ℤ (dot b r)))) x n
  ]

  have : OfLength k S
  have = record { each = λ x m. (inside x m).entries }

  all : (x : Vector) → Cut k (b ∷ A) x → InCone k S x
  all x c = one_more k (InCone k S) (cone_closed k S have) b R (record { each = λ r m. (inside_at s r m).entries })
      (λ r m up. cone_has k S r have (member_left r (map (keeps k b) R) (pairs (makes k b) R R)
      (subst (λ (u : Vector). Member u (map (keeps k b) R)) (kept_is k b r up (sign_of (dot b r))) (map_member (keeps k b) R r m))))
      (λ r t m n above below. cone_has k S (blend b r t) have (member_right (blend b r t) (map (keeps k b) R) (pairs (makes k b) R R)
      (subst (λ (u : Vector). Member u (pairs (makes k b) R R)) (made_is k b r t above below (sign_of (dot b t)) (sign_of (neg_ℤ (dot b r))))
      (pairs_member (makes k b) R R r t m n))))
      x (s.all x (cut_more k A b x c)) (side_at c b (inl refl))

-- a list that generates the cone that the inequalities cut out
pub record Generators (k : ℕ) (A : List Vector) : Type 0 where
  pub list : List Vector
  pub generates : Generates k A list

pub generators_of_length : (k : ℕ) (A R : List Vector) → Generates k A R → OfLength k R
generators_of_length k A R g = record { each = λ r m. (inside_at g r m).entries }

-- the cone and the list as equal sets, both ways
pub generators_same : (k : ℕ) (A R : List Vector) → Generates k A R → SameSet (Cut k A) (InCone k R)
generators_same k A R g x = (g.all x, closed_cone k (Cut k A) R x (cut_closed k A) (inside_at g))

pub generates_of_same : (k : ℕ) (A R : List Vector) → OfLength k R → SameSet (Cut k A) (InCone k R) → Generates k A R
generates_of_same k A R have same = record { inside = λ r m. (same r).1 (cone_has k R r have (as_member R m)); all = λ x c. (same x).0 c }

pub minkowski : (k : ℕ) (A : List Vector) → Generators k A
minkowski k [] = record {
  list = signed (units k);
  generates = record {
    inside = λ r m. cut_of ((signed_of_length k (units k) (units_of_length k)).each r (as_member (signed (units k)) m)) (λ a n. absurd n);
    all = λ x c. units_span k x c.entries;
  };
}
minkowski k (b ∷ A) = let m = minkowski k A in record {
  list = map (keeps k b) m.list ++ pairs (makes k b) m.list m.list;
  generates = generates_more k A m.list b m.generates;
}

-- ---- both ways of giving a cone
-- what no normal of a list breaks that generates the normals of a cone is in the cone
pub both_ways : (k : ℕ) (vs ns : List Vector) → OfLength k vs → OfLength k ns → ((n : Vector) → Cut k vs n → InCone k ns n) → (x : Vector)
    → Cut k ns x → InCone k vs x
both_ways k vs ns have ns_of_length all x c = elim (farkas k vs x have c.entries) [
  | inl h ↦ h
  | inr s ↦ (
      let cut : Cut k vs s.normal = cut_of s.entries (λ v m. subst (λ (z : ℤ). pos 0 ≤ℤ z) (dot-comm s.normal v) (apart_side s v m)) in
      let beside : Cut k (x ∷ []) s.normal = closed_cone k (Cut k (x ∷ [])) ns s.normal (cut_closed k (x ∷ []))
      (λ n m. cut_of (ns_of_length.each n m)
      (λ a o. elim o [
        | inl e ↦ subst (λ (u : Vector). pos 0 ≤ℤ dot u n) e (subst (λ (z : ℤ). pos 0 ≤ℤ z) (dot-comm n x) (side_at c n m))
        | inr p ↦ absurd p
      ])) (all s.normal cut) in
      let e = side_at beside x (inl refl) in let f = dot-comm s.normal x in let g = s.below in
      absurd (omega (arith, ints, f)))
]

-- generators of the normals of a cone have the cone's generators as the generators of their normals
pub generates_back : (k : ℕ) (vs ns : List Vector) → OfLength k vs → Generates k vs ns → Generates k ns vs
generates_back k vs ns have g = record {
  inside = λ v m. let q = as_member vs m in
      cut_of (have.each v q) (λ n o. subst (λ (z : ℤ). pos 0 ≤ℤ z) (dot-comm v n) (side_at (inside_at g n o) v q));
  all = both_ways k vs ns have (generators_of_length k vs ns g) g.all;
}

-- a list that generates the normals of a cone cuts out the cone
pub normals_cut : (k : ℕ) (vs ns : List Vector) → OfLength k vs → Generates k vs ns → SameSet (InCone k vs) (Cut k ns)
normals_cut k vs ns have g x =
    let back = generates_back k vs ns have g in
    (closed_cone k (Cut k ns) vs x (cut_closed k ns) (inside_at back), back.all x)

pub weyl : (k : ℕ) (vs : List Vector) → OfLength k vs → IsCutOut k (InCone k vs)
weyl k vs have = let m = minkowski k vs in record {
  inequalities = m.list;
  entries = of_length_all k m.list (generators_of_length k vs m.list m.generates);
  same = normals_cut k vs m.list have m.generates;
}

pub minkowski_generated : (k : ℕ) (A : List Vector) → IsGenerated k (Cut k A)
minkowski_generated k A = let m = minkowski k A in record {
  generators = m.list;
  entries = of_length_all k m.list (generators_of_length k A m.list m.generates);
  same = generators_same k A m.list m.generates;
}
