-- The runs of all masks end, or one is the first that stops.
use Rattle.std.proofs.Common.{◌≡◌, ◌⊎◌, ℕ, suc, List, [], ◌∷◌, ◌++◌, length, get_or, drop, arith, inl, inr, refl, sym, ap, subst, ◌∙◌, All}
use Rattle.std.proofs.Math.Seq.{get_or-append_seam}
use Rattle.std.proofs.lemmas.List.{length-append}
use Rattle.std.proofs.lemmas.List.Elements.{All-nil, All-cons}
use Rattle.git_algebra.specs.Polynomials.{Polynomial}
use Rattle.git_basis.specs.Stops.{Ends, StopsBySteps, StopsByDegree}
use Rattle.git_basis.specs.declared.step.Step.{Step}
use Rattle.git_basis.proofs.Goes.{stops}
use Rattle.git_basis.proofs.One.{one_by_steps, one_by_degree, ends_not_by_steps, ends_not_by_degree, steps_not_by_degree}
use Rattle.git_faces.specs.FaceVerdicts.{RunEnds, EndBefore, IsFirstStop, run_of}
use Rattle.git_faces.specs.Laws.{RunStops, HasFirstStop, AreSameStops}
use Rattle.git_faces.specs.declared.fault.FacesFault.{FacesFault}
use Rattle.git_faces.specs.declared.fault.FacesFault.TheVariants.{Steps, Degree, NoMemory}

module _ (generators : List Polynomial) (limit : ℕ) where
  more : (m : ℕ) (ms : List ℕ) → RunEnds generators limit m → HasFirstStop generators limit ms → HasFirstStop generators limit (m ∷ ms)
  more m ms ends f = record {
    mask = f.mask;
    before = record { front = m ∷ f.before.front; back = f.before.back; whole = ap (λ ns. m ∷ ns) f.before.whole; before = All-cons (RunEnds generators limit) m f.before.front ends f.before.before };
    stops = f.stops;
  }

  pub some : (masks : List ℕ) → All (RunEnds generators limit) masks ⊎ HasFirstStop generators limit masks
  some [] = inl (All-nil (RunEnds generators limit))
  some (m ∷ ms) = by (stops (run_of generators m) limit) (some ms) where
    by : ((steps : List Step) × Ends (run_of generators m) limit steps) ⊎ RunStops generators limit m → All (RunEnds generators limit) ms ⊎ HasFirstStop generators limit ms → All (RunEnds generators limit) (m ∷ ms) ⊎ HasFirstStop generators limit (m ∷ ms)
    by (inl e) (inl all) = inl (All-cons (RunEnds generators limit) m ms (record { steps = e.0; ends = e.1 }) all)
    by (inl e) (inr f) = inr (more m ms (record { steps = e.0; ends = e.1 }) f)
    by (inr s) rest = inr (record { mask = m; before = record { front = []; back = ms; whole = refl; before = All-nil (RunEnds generators limit) }; stops = s })

  ends_not_stops : (m : ℕ) → RunEnds generators limit m → RunStops generators limit m → ⊥
  ends_not_stops m e (inl s) = ends_not_by_steps (run_of generators m) limit e.steps s.0 e.ends s.1
  ends_not_stops m e (inr d) = ends_not_by_degree (run_of generators m) limit e.steps d.steps d.step e.ends d.stops

  at_seam : (front back : List ℕ) (m : ℕ) → All (RunEnds generators limit) (front ++ m ∷ back) → RunEnds generators limit m
  at_seam front back m all = subst (RunEnds generators limit) (get_or-append_seam front m back 0) (all (length front) 0 (let l = length-append front (m ∷ back) in omega (arith, l)))

  pub never_both : (masks : List ℕ) → All (RunEnds generators limit) masks → HasFirstStop generators limit masks → ⊥
  never_both masks all f = ends_not_stops f.mask (at_seam f.before.front f.before.back f.mask (subst (All (RunEnds generators limit)) f.before.whole all)) f.stops

  heads : (m n : ℕ) (ms ns : List ℕ) → m ∷ ms ≡ n ∷ ns → m ≡ n
  heads m n ms ns e = ap (λ (l : List ℕ). get_or l 0 0) e

  tails : (m n : ℕ) (ms ns : List ℕ) → m ∷ ms ≡ n ∷ ns → ms ≡ ns
  tails m n ms ns e = ap (λ (l : List ℕ). drop 1 l) e

  same : (m n : ℕ) (f g b c : List ℕ) → f ++ m ∷ b ≡ g ++ n ∷ c → All (RunEnds generators limit) f → All (RunEnds generators limit) g → RunStops generators limit m → RunStops generators limit n → m ≡ n
  same m n [] [] b c e all others s t = heads m n b c e
  same m n [] (x ∷ g) b c e all others s t = absurd (ends_not_stops m (subst (RunEnds generators limit) (sym (heads m x b (g ++ n ∷ c) e)) (others 0 0 (omega arith))) s)
  same m n (x ∷ f) [] b c e all others s t = absurd (ends_not_stops n (subst (RunEnds generators limit) (heads x n (f ++ m ∷ b) c e) (all 0 0 (omega arith))) t)
  same m n (x ∷ f) (y ∷ g) b c e all others s t = same m n f g b c (tails x y (f ++ m ∷ b) (g ++ n ∷ c) e) (λ k d h. all (suc k) d (omega arith)) (λ k d h. others (suc k) d (omega arith)) s t

  pub one : (masks : List ℕ) (m n : ℕ) → EndBefore generators limit masks m → EndBefore generators limit masks n → RunStops generators limit m → RunStops generators limit n → m ≡ n
  one masks m n a b s t = same m n a.front b.front a.back b.back (sym a.whole ∙ b.whole) a.before b.before s t

  pub one_fault : (masks : List ℕ) (f g : FacesFault) → IsFirstStop generators limit masks f → IsFirstStop generators limit masks g → AreSameStops f g
  one_fault masks (Steps m s) (Steps n t) a b =
      let e = one masks m n a.0 b.0 (inl (s.steps.items, a.1)) (inl (t.steps.items, b.1)) in
      (e, one_by_steps (run_of generators m) limit s.steps.items t.steps.items a.1 (subst (λ (k : ℕ). StopsBySteps (run_of generators k) limit t.steps.items) (sym e) b.1))
  one_fault masks (Steps m s) (Degree n t y) a b =
      let e = one masks m n a.0 b.0 (inl (s.steps.items, a.1)) (inr (record { steps = t.steps.items; step = y; stops = b.1 })) in
      steps_not_by_degree (run_of generators m) limit s.steps.items t.steps.items y a.1 (subst (λ (k : ℕ). StopsByDegree (run_of generators k) limit t.steps.items y) (sym e) b.1)
  one_fault masks (Steps m s) NoMemory a b = tt
  one_fault masks (Degree m s x) (Steps n t) a b =
      let e = one masks m n a.0 b.0 (inr (record { steps = s.steps.items; step = x; stops = a.1 })) (inl (t.steps.items, b.1)) in
      steps_not_by_degree (run_of generators m) limit t.steps.items s.steps.items x (subst (λ (k : ℕ). StopsBySteps (run_of generators k) limit t.steps.items) (sym e) b.1) a.1
  one_fault masks (Degree m s x) (Degree n t y) a b =
      let e = one masks m n a.0 b.0 (inr (record { steps = s.steps.items; step = x; stops = a.1 })) (inr (record { steps = t.steps.items; step = y; stops = b.1 })) in
      let d = one_by_degree (run_of generators m) limit s.steps.items t.steps.items x y a.1 (subst (λ (k : ℕ). StopsByDegree (run_of generators k) limit t.steps.items y) (sym e) b.1) in
      (e, d.0, d.1)
  one_fault masks (Degree m s x) NoMemory a b = tt
  one_fault masks NoMemory g a b = tt
