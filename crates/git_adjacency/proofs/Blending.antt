-- Blends added one after another, and vectors moved.
use Rattle.std.proofs.Common.{◌≡◌, ◌⊎◌, ℕ, ◌+◌, ◌<◌, List, [], ◌∷◌, ◌++◌, length, take, get_or, sym, subst, arith, inl, inr}
use Rattle.std.proofs.Math.IntN.{pos}
use Rattle.std.specs.Prelude.{◌↔◌, ◌<ℤ◌, All, Contains}
use Rattle.std.proofs.lemmas.List.Elements.{All-push, All-same, Contains-push, Contains-push_cases, Contains-append_left}
use Rattle.git_defs.specs.Vectors.{Vector, dot}
use Rattle.git_geometry.specs.Zeros.{Adjacent}
use Rattle.git_geometry.specs.Stages.{blend}
use Rattle.git_ints.specs.Content.{IsPrimitivePart}
use Rattle.git_adjacency.proofs.Makes.{makes_more, makes_skip}
use Rattle.git_adjacency.proofs.Nexts.{vectors_end, vector_at, vectors_long, vector_in, ray_in}
use Rattle.git_adjacency.specs.Making.{Makes}
use Rattle.git_adjacency.specs.Marks.{vectors}
use Rattle.git_adjacency.specs.Sides.{IsMarkedRay, HasAdded, IsMoved}
use Rattle.git_adjacency.specs.declared.ray.Ray.{Ray}

pub added_more : (upto all : List Vector) (b : Vector) (width : ℕ) (r : Vector) (below old out new : List Ray) (i : ℕ) (s : Ray) → i < length below → s ≡ get_or below i s
    → Contains all r → Contains all s.vector → pos 0 <ℤ dot b r → dot b s.vector <ℤ pos 0 → Makes upto all b r (take i (vectors below)) (vectors old) (vectors out)
    → HasAdded upto all b width r s.vector out new → Makes upto all b r (take (i + 1) (vectors below)) (vectors old) (vectors new)
added_more upto all b width r below old out new i s h is r_in s_in up low makes (inl a) =
    let e = vector_at below i s h is in
    let long = vectors_long below in
    subst (Makes upto all b r (take (i + 1) (vectors below)) (vectors old)) (sym (vectors_end out new a.ray a.is))
    (makes_more upto all (vectors below) b r (a.ray).vector (vectors old) (vectors out) i s.vector (omega (arith, h, long)) r_in (subst (Contains all) (sym e) s_in) up makes
    (subst (λ (u : Vector). dot b u <ℤ pos 0) (sym e) low) (subst (Adjacent upto all r) (sym e) a.adjacent) (subst (λ (u : Vector). IsPrimitivePart (blend b r u) (a.ray).vector) (sym e) a.part))
added_more upto all b width r below old out new i s h is r_in s_in up low makes (inr n) =
    let e = vector_at below i s h is in
    let long = vectors_long below in
    subst (λ (u : List Ray). Makes upto all b r (take (i + 1) (vectors below)) (vectors old) (vectors u)) (sym n.1)
    (makes_skip upto all (vectors below) b r (vectors old) (vectors out) i s.vector (omega (arith, h, long)) makes (λ a. n.0 (subst (Adjacent upto all r) e a)))

pub added_marked : (upto all : List Vector) (b : Vector) (width : ℕ) (r s : Vector) (out new : List Ray) → All (IsMarkedRay upto width) out → HasAdded upto all b width r s out new → All (IsMarkedRay upto width) new
added_marked upto all b width r s out new marked (inl a) = All-same (IsMarkedRay upto width) new (out ++ a.ray ∷ []) a.is (All-push (IsMarkedRay upto width) out a.ray marked a.marked)
added_marked upto all b width r s out new marked (inr n) = All-same (IsMarkedRay upto width) new out n.1 marked

pub moved_more : (left rest out out2 : List Ray) (ray : Ray) → left ≡ rest ++ ray ∷ [] → out2 ≡ out ++ ray ∷ [] → (x : Ray) → (Contains out2 x ⊎ Contains rest x) ↔ (Contains out x ⊎ Contains left x)
moved_more left rest out out2 ray e f x = (to, back) where
  to : (Contains out2 x ⊎ Contains rest x) → (Contains out x ⊎ Contains left x)
  to (inl c) = elim (Contains-push_cases out ray x (subst (λ (u : List Ray). Contains u x) f c)) [
    | inl d ↦ inl d
    | inr g ↦ inr (subst (λ (u : List Ray). Contains u x) (sym e) (subst (Contains (rest ++ ray ∷ [])) g (Contains-push rest ray)))
  ]
  to (inr c) = inr (subst (λ (u : List Ray). Contains u x) (sym e) (Contains-append_left rest (ray ∷ []) x c))

  back : (Contains out x ⊎ Contains left x) → (Contains out2 x ⊎ Contains rest x)
  back (inl c) = inl (subst (λ (u : List Ray). Contains u x) (sym f) (Contains-append_left out (ray ∷ []) x c))
  back (inr c) = elim (Contains-push_cases rest ray x (subst (λ (u : List Ray). Contains u x) e c)) [
    | inl d ↦ inr d
    | inr g ↦ inl (subst (λ (u : List Ray). Contains u x) (sym f) (subst (Contains (out ++ ray ∷ [])) g (Contains-push out ray)))
  ]

pub iff_through : {A B C : Type 0} → (A ↔ B) → (B ↔ C) → (A ↔ C)
iff_through f g = (λ a. g.0 (f.0 a), λ c. f.1 (g.1 c))

-- the vectors of what was moved
pub moved_vectors : (made above level mid out : List Ray) → IsMoved above made mid → IsMoved level mid out → (v : Vector)
    → Contains (vectors out) v ↔ (Contains (vectors made) v ⊎ (Contains (vectors above) v ⊎ Contains (vectors level) v))
moved_vectors made above level mid out p q v = (to, back) where
  in_of : (xs : List Ray) (r : Ray) → Contains xs r → r.vector ≡ v → Contains (vectors xs) v
  in_of xs r c e = subst (Contains (vectors xs)) e (vector_in xs r c)

  to : Contains (vectors out) v → Contains (vectors made) v ⊎ (Contains (vectors above) v ⊎ Contains (vectors level) v)
  to m =
      let r = ray_in out v m in
      elim ((q.each r.ray).0 r.member) [
        | inl c ↦ elim ((p.each r.ray).0 c) [ inl d ↦ inl (in_of made r.ray d r.is) | inr d ↦ inr (inl (in_of above r.ray d r.is)) ]
        | inr c ↦ inr (inr (in_of level r.ray c r.is))
      ]

  back : Contains (vectors made) v ⊎ (Contains (vectors above) v ⊎ Contains (vectors level) v) → Contains (vectors out) v
  back (inl m) = let r = ray_in made v m in in_of out r.ray ((q.each r.ray).1 (inl ((p.each r.ray).1 (inl r.member)))) r.is
  back (inr (inl m)) = let r = ray_in above v m in in_of out r.ray ((q.each r.ray).1 (inl ((p.each r.ray).1 (inr r.member)))) r.is
  back (inr (inr m)) = let r = ray_in level v m in in_of out r.ray ((q.each r.ray).1 (inr r.member)) r.is
