-- The chambers of a listing have one list of bunches at most.
use Rattle.std.proofs.Common.{◌≡◌, ◌∙◌, ◌<◌, ◌∷◌, [], List, ap, arith, inl, inr, refl, subst, sym, ℕ}
use Rattle.std.specs.List.{AllZip}
use Rattle.git_defs.specs.Vectors.{Vector, vector_sum}
use Rattle.git_cone_faces.specs.Faces.{on_wall}
use Rattle.git_lemmas.proofs.Members.{contains_member, member_contains}
use Rattle.git_lemmas.proofs.Sorting.{ascends_of_pairs, once}
use Rattle.git_machine.specs.Signatures.{Signature}
use Rattle.git_orbit.proofs.Signatures.{one_holding, one_signature}
use Rattle.git_listing.specs.Listings.{Chamber, Facet, Side, boundary, inner}
use Rattle.git_chamber.specs.Chambers.{crossing}
use Rattle.git_bunch.specs.Bunches.{AreBunches, AreSteps, BunchValue, IsBunch, IsStep, StepValue}
use Rattle.git_bunch.specs.Stable.{AreDescending, Family, Gained, Lost, Minimal, Wall}

-- a falling list is known by its members
pub one_falling : (P : ℕ → Type 0) (a b : List ℕ) → AreDescending P a → AreDescending P b → a ≡ b
one_falling P a b p q = once (λ (m n : ℕ). n < m) (λ x l. omega (arith, l)) (λ x y z l h. omega (arith, l, h)) a b
    (ascends_of_pairs (λ (m n : ℕ). n < m) a p.descending) (ascends_of_pairs (λ (m n : ℕ). n < m) b q.descending)
    (λ x m. contains_member x b ((q.each x).1 ((p.each x).0 (member_contains x a m))))
    (λ x m. contains_member x a ((p.each x).1 ((q.each x).0 (member_contains x b m))))

abbrev number_in : Side → ℕ
number_in boundary = 0
number_in (inner number matched) = number

module _ (F : Family) (cs : List Chamber) where
  one_step : (s : Signature) (rays : List Vector) (f : Facet) (x y : StepValue) → IsStep F cs s rays f x → IsStep F cs s rays f y → x ≡ y
  one_step s rays f x y p q =
      let a = p.change in
      let b = q.change in
      let n = f.normal in
      let other = one_signature F.fan (crossing F.fan.k rays n) a.other b.other a.leads b.leads in
      let middle = one_signature F.fan (vector_sum F.fan.k (on_wall n rays) ∷ []) a.middle b.middle a.at_wall b.at_wall in
      let normal = a.normal ∙ sym b.normal in
      let to : x.to ≡ y.to = ap number_in (sym p.named ∙ q.named) in
      let lost = one_falling (Lost F s b.other) x.lost y.lost (subst (λ (t : Signature). AreDescending (Lost F s t) x.lost) other a.lost) b.lost in
      let gained = one_falling (Gained F s b.other) x.gained y.gained (subst (λ (t : Signature). AreDescending (Gained F s t) x.gained) other a.gained) b.gained in
      let wall = one_falling (Wall F s b.other b.middle) x.wall y.wall
      (subst (λ (t : Signature). AreDescending (Wall F s b.other t) x.wall) middle (subst (λ (t : Signature). AreDescending (Wall F s t a.middle) x.wall) other a.wall)) b.wall in
      λ i. record { normal = normal i; to = to i; lost = lost i; gained = gained i; wall = wall i }

  one_steps : (s : Signature) (rays : List Vector) (fs : List Facet) (xs ys : List StepValue) → AreSteps F cs s rays fs xs → AreSteps F cs s rays fs ys → xs ≡ ys
  one_steps s rays [] xs ys p q = p ∙ sym q
  one_steps s rays (f ∷ fs) xs ys (inl p) (inl q) = one_steps s rays fs xs ys p.1 q.1
  one_steps s rays (f ∷ fs) xs ys (inl p) (inr q) = absurd (p.0 q.0)
  one_steps s rays (f ∷ fs) xs ys (inr p) (inl q) = absurd (q.0 p.0)
  one_steps s rays (f ∷ fs) xs ys (inr p) (inr q) =
      let here = one_step s rays f p.1 q.1 p.4 q.4 in
      let later = one_steps s rays fs p.2 q.2 p.5 q.5 in
      p.3 ∙ (λ i. here i ∷ later i) ∙ sym q.3

  one_bunch : (c : Chamber) (x y : BunchValue) → IsBunch F cs c x → IsBunch F cs c y → x ≡ y
  one_bunch c x y p q =
      let set = one_holding F.fan c.rays p.set q.set p.holding q.holding in
      let minimal = one_falling (Minimal F q.set) x.minimal y.minimal (subst (λ (s : Signature). AreDescending (Minimal F s) x.minimal) set p.minimal) q.minimal in
      let steps = one_steps q.set c.rays c.facets x.steps y.steps (subst (λ (s : Signature). AreSteps F cs s c.rays c.facets x.steps) set p.steps) q.steps in
      λ i. record { minimal = minimal i; steps = steps i }

  bunches_once : (ds : List Chamber) (xs ys : List BunchValue) → AllZip (IsBunch F cs) ds xs → AllZip (IsBunch F cs) ds ys → xs ≡ ys
  bunches_once [] [] [] p q = refl
  bunches_once [] [] (y ∷ ys) p q = absurd q
  bunches_once [] (x ∷ xs) ys p q = absurd p
  bunches_once (d ∷ ds) [] ys p q = absurd p
  bunches_once (d ∷ ds) (x ∷ xs) [] p q = absurd q
  bunches_once (d ∷ ds) (x ∷ xs) (y ∷ ys) p q =
      let here = one_bunch d x y p.0 q.0 in
      let later = bunches_once ds xs ys p.1 q.1 in
      λ i. here i ∷ later i

pub bunches_one : (F : Family) (cs : List Chamber) (a b : List BunchValue) → AreBunches F cs a → AreBunches F cs b → a ≡ b
bunches_one F cs a b p q = bunches_once F cs cs a b p q
