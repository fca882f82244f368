-- What was gone through, in the order of masks, and the first that is a fault.
use Rattle.std.proofs.Common.{◌≡◌, ℕ, List, [], ◌∷◌, ◌++◌, length, arith, sym, ap, subst, ◌∙◌, refl, All}
use Rattle.std.specs.Prelude.{IfSome}
use Rattle.std.specs.List.{AllZip}
use Rattle.std.proofs.lemmas.List.{append-nil, append_assoc}
use Rattle.std.proofs.lemmas.List.Elements.{All-nil, All-cons}
use Rattle.std.proofs.lemmas.Slice.Zip.{all_zipped_more}
use Rattle.git_algebra.specs.Polynomials.{Polynomial}
use Rattle.git_basis.specs.Stops.{StopsBySteps, StopsByDegree}
use Rattle.git_facecert.specs.declared.certificate.FaceVerdict.{FaceVerdict}
use Rattle.git_faces.specs.declared.fault.FacesFault.{FacesFault}
use Rattle.git_faces.specs.declared.fault.FacesFault.TheVariants.{Steps, Degree, NoMemory}
use Rattle.git_faces.specs.declared.judging.Found.{Found}
use Rattle.git_faces.specs.Dealing.{IsSeen}
use Rattle.git_faces.specs.FaceVerdicts.{RunEnds, IsFaceVerdict, IsOutcome, EndBefore, IsFirstStop, StopsAt, run_of}

pub record Progress (generators : List Polynomial) (limit : ℕ) (masks : List ℕ) (out : List FaceVerdict) (rest : List Found) : Type 0 where
  pub front : List ℕ
  pub back : List ℕ
  pub whole : masks ≡ front ++ back
  pub ended : AllZip (λ m v. IsFaceVerdict generators limit m v) front out
  pub left : AllZip (λ m f. IsSeen generators limit m f) back rest

pub begun : (generators : List Polynomial) (limit : ℕ) (masks : List ℕ) (out : List FaceVerdict) (rest : List Found) → out ≡ [] → AllZip (λ m f. IsSeen generators limit m f) masks rest
    → Progress generators limit masks out rest
begun generators limit masks out rest e h =
    record { front = []; back = masks; whole = refl; ended = subst (λ (vs : List FaceVerdict). AllZip (λ m v. IsFaceVerdict generators limit m v) [] vs) (sym e) tt; left = h }

-- the first of what is left
record Next (generators : List Polynomial) (limit : ℕ) (back : List ℕ) (f : Found) (next : List Found) : Type 0 where
  mask : ℕ
  others : List ℕ
  whole : back ≡ mask ∷ others
  here : IsSeen generators limit mask f
  there : AllZip (λ m g. IsSeen generators limit m g) others next

next_of : (generators : List Polynomial) (limit : ℕ) (back : List ℕ) (f : Found) (next : List Found) → AllZip (λ m g. IsSeen generators limit m g) back (f ∷ next) → Next generators limit back f next
next_of generators limit [] f next h = absurd h
next_of generators limit (m ∷ ms) f next h = record { mask = m; others = ms; whole = refl; here = h.0; there = h.1 }

-- verdicts show that the runs end
all_end : (generators : List Polynomial) (limit : ℕ) (masks : List ℕ) (vs : List FaceVerdict) → AllZip (λ m v. IsFaceVerdict generators limit m v) masks vs → All (RunEnds generators limit) masks
all_end generators limit [] vs h = All-nil (RunEnds generators limit)
all_end generators limit (m ∷ ms) [] h = absurd h
all_end generators limit (m ∷ ms) (v ∷ vs) h = All-cons (RunEnds generators limit) m ms h.0.run_ends (all_end generators limit ms vs h.1)

first_stop : (generators : List Polynomial) (limit mask : ℕ) (masks : List ℕ) (fault : FacesFault) → EndBefore generators limit masks mask → StopsAt generators limit mask fault → IsFirstStop generators limit masks fault
first_stop generators limit mask masks (Steps m trace) before stops =
    (subst (EndBefore generators limit masks) (sym stops.0) before, subst (λ n. StopsBySteps (run_of generators n) limit trace.steps.items) (sym stops.0) stops.1)
first_stop generators limit mask masks (Degree m trace step) before stops =
    (subst (EndBefore generators limit masks) (sym stops.0) before, subst (λ n. StopsByDegree (run_of generators n) limit trace.steps.items step) (sym stops.0) stops.1)
first_stop generators limit mask masks NoMemory before stops = tt

module _ (generators : List Polynomial) (limit : ℕ) (masks : List ℕ) (out : List FaceVerdict) (rest : List Found) (p : Progress generators limit masks out rest) where
  next_is : (f : Found) (next : List Found) → rest ≡ f ∷ next → Next generators limit p.back f next
  next_is f next e = next_of generators limit p.back f next (subst (λ (fs : List Found). AllZip (λ m g. IsSeen generators limit m g) p.back fs) e p.left)

  whole_is : (f : Found) (next : List Found) (n : Next generators limit p.back f next) → masks ≡ p.front ++ n.mask ∷ n.others
  whole_is f next n = p.whole ∙ ap (λ ms. p.front ++ ms) n.whole

  pub seen_next : (f : Found) (next : List Found) → rest ≡ f ∷ next → IfSome f.outcome (IsOutcome generators limit f.mask)
  seen_next f next e = let n = next_is f next e in subst (λ m. IfSome f.outcome (IsOutcome generators limit m)) (sym n.here.of_mask) n.here.outcome

  pub one_more : (f : Found) (v : FaceVerdict) (more : List FaceVerdict) (next : List Found) → rest ≡ f ∷ next → IsFaceVerdict generators limit f.mask v → more ≡ out ++ v ∷ [] → Progress generators limit masks more next
  one_more f v more next e is d =
      let n = next_is f next e in
      record {
        front = p.front ++ n.mask ∷ [];
        back = n.others;
        whole = whole_is f next n ∙ sym (append_assoc p.front (n.mask ∷ []) n.others);
        ended = subst (λ (vs : List FaceVerdict). AllZip (λ m w. IsFaceVerdict generators limit m w) (p.front ++ n.mask ∷ []) vs) (sym d)
            (all_zipped_more (λ m w. IsFaceVerdict generators limit m w) p.front out n.mask v p.ended (subst (λ m. IsFaceVerdict generators limit m v) n.here.of_mask is));
        left = n.there;
      }

  pub stops : (f : Found) (fault : FacesFault) (next : List Found) → rest ≡ f ∷ next → StopsAt generators limit f.mask fault → IsFirstStop generators limit masks fault
  stops f fault next e is =
      let n = next_is f next e in
      first_stop generators limit n.mask masks fault (record { front = p.front; back = n.others; whole = whole_is f next n; before = all_end generators limit p.front out p.ended }) (subst (λ m. StopsAt generators limit m fault) n.here.of_mask is)

  pub whole_list : rest ≡ [] → AllZip (λ m v. IsFaceVerdict generators limit m v) masks out
  whole_list e = subst (λ (ms : List ℕ). AllZip (λ m v. IsFaceVerdict generators limit m v) ms out) (sym (p.whole ∙ none p.back (subst (λ (fs : List Found). AllZip (λ m g. IsSeen generators limit m g) p.back fs) e p.left))) p.ended
    where
      none : (back : List ℕ) → AllZip (λ m g. IsSeen generators limit m g) back [] → p.front ++ back ≡ p.front
      none [] h = append-nil p.front
      none (x ∷ back) h = absurd h

pub no_length : {A : Type 0} (xs : List A) → length xs ≡ 0 → xs ≡ []
no_length [] e = refl
no_length (x ∷ xs) e = absurd (omega arith)
