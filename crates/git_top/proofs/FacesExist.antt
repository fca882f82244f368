-- Each input has an answer of `faces`.
use Rattle.std.proofs.Common.{ℕ, List, [], inl, inr, refl}
use Rattle.git_lemmas.proofs.Members.{all_member, contains_member}
use Rattle.git_base.specs.declared.status.Status.{Status}
use Rattle.git_base.specs.declared.status.Status.TheVariants as status
use Rattle.git_input.specs.Inputs.{InputValue}
use Rattle.git_grading.specs.Gradings.{IsGrading}
use Rattle.git_faces.specs.FullFaces.{AreFullFaces}
use Rattle.git_faces.specs.FaceVerdicts.{RunEnds}
use Rattle.git_faces.specs.Laws.{RunStops}
use Rattle.git_faces.proofs.FullLists.{some as full_list}
use Rattle.git_faces.proofs.FirstStops.{some as first_or_all}
use Rattle.git_replies.specs.Cases.{HasSome, Settles, says, certificates}
use Rattle.git_answers.specs.Verdicts.{StopsWith}
use Rattle.git_replies.specs.Lines.{stop_text}
use Rattle.git_answers.specs.Faces.{face_stops, certifies, faces_of}
use Rattle.git_replies.proofs.CaseLaws.{some_of}
use Rattle.git_fan.proofs.FullFaces.{first_full, runs_on}

-- how it stops
pub stop_of : (v : InputValue) (limit mask : ℕ) → RunStops v.generators limit mask → (s : Status) × StopsWith v limit mask s
stop_of v limit mask (inl s) = (status.Steps, inl (refl, (s.0, s.1)))
stop_of v limit mask (inr d) = (status.Degree, inr (refl, (d.steps, d.step, d.stops)))

stops_settle : (v : InputValue) (limit : ℕ) (masks : List ℕ) → AreFullFaces v.degrees.k v.degrees.columns masks → Settles (face_stops v limit)
stops_settle v limit masks are = elim (first_or_all v.generators limit masks) [
  | inl all ↦ inr (λ o h.
      let e = all_member (RunEnds v.generators limit) h.0 masks all (contains_member h.0 masks ((are.each h.0).1 h.1.holds.0)) in
      runs_on v limit h.0 e.steps e.ends h.1.holds.1.0 h.1.holds.1.1)
  | inr f ↦ (let s = stop_of v limit f.mask f.stops in
      inl (says s.0 (stop_text s.0 f.mask), (f.mask, first_full v limit masks f.mask s.0 are f.before s.1, (s.0, s.1, refl))))
]

pub faces_some : (v : InputValue) (limit : ℕ) → IsGrading v.degrees.k v.degrees.columns → HasSome (faces_of limit v)
faces_some v limit g =
    let full = full_list v.degrees.k v.degrees.columns g.matrix.lengths in
    some_of (face_stops v limit) certifies (stops_settle v limit full.0 full.1) (λ p. (record { status = status.Done; text = []; tail = certificates }, refl))
