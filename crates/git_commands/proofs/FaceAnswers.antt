-- The answer of `faces`: the certificates of all full faces, or the greatest face whose run stops.
use Rattle.std.proofs.Common.{◌≡◌, ℕ, List, [], refl, sym, ◌∙◌, inl, inr}
use Rattle.std.specs.Prelude.{IfOk, Result, Ok, Err}
use Rattle.std.specs.List.{AllZip}
use Rattle.std.proofs.lemmas.List.{append-nil}
use Rattle.git_base.specs.declared.faults.NoMemory.{NoMemory}
use Rattle.git_base.specs.declared.status.Status.{Status}
use Rattle.git_base.specs.declared.status.Status.TheVariants.{Done}
use Rattle.git_input.specs.Inputs.{InputValue}
use Rattle.git_facecert.specs.declared.certificate.FaceVerdict.{FaceVerdict}
use Rattle.git_certtext.specs.CertificateText.{certificates_text}
use Rattle.git_faces.specs.FullFaces.{AreFullFaces}
use Rattle.git_faces.specs.FaceVerdicts.{EndBefore, IsFaceVerdict}
use Rattle.git_replies.specs.Cases.{says, certificates}
use Rattle.git_answers.specs.Verdicts.{StopsWith}
use Rattle.git_replies.specs.Lines.{stop_text}
use Rattle.git_answers.specs.Ends.{spelled}
use Rattle.git_answers.specs.Faces.{faces_of}
use Rattle.git_replies.specs.declared.reply.Reply.{Reply}
use Rattle.git_fan.proofs.FullFaces.{first_full, all_end, all_verdicts}

module _ (v : InputValue) (limit : ℕ) (masks : List ℕ) (are : AreFullFaces v.degrees.k v.degrees.columns masks) where
  pub certified : (vs : List FaceVerdict) (text : List ℕ) → AllZip (IsFaceVerdict v.generators limit) masks vs → text ≡ certificates_text vs → spelled v (faces_of limit v) Done text
  certified vs text zip e = (
    record { status = Done; text = []; tail = certificates },
    inr ((λ o h. all_end v limit masks vs are zip h.0 h.1.holds), refl),
    refl,
    (certificates_text vs, (vs, all_verdicts v limit masks vs are zip, refl), e),
  )

  -- the line of a face whose run stops
  pub stopped : (mask : ℕ) (s : Status) (r : Result Reply NoMemory) → EndBefore v.generators limit masks mask → StopsWith v limit mask s → IfOk r (λ a. a.status ≡ s) → IfOk r (λ a. a.text.items ≡ stop_text s mask)
      → IfOk r (λ a. spelled v (faces_of limit v) a.status a.text.items)
  stopped mask s (Err e) before stops is spells = tt
  stopped mask s (Ok a) before stops is spells =
      (says s (stop_text s mask), inl (mask, first_full v limit masks mask s are before stops, (s, stops, refl)), sym is, ([], refl, spells ∙ sym (append-nil (stop_text s mask))))
