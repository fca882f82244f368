-- The line of a wide cone.
use Rattle.std.proofs.Common.{List, ℕ, inl, refl}
use Rattle.git_base.specs.declared.status.Status.{Status}
use Rattle.git_base.specs.declared.status.Status.TheVariants as statuses
use Rattle.git_orbit.specs.declared.orbit.ConesFault.{ConesFault}
use Rattle.git_orbit.specs.declared.orbit.ConesFault.TheVariants.{Wide, NoMemory}
use Rattle.git_input.specs.Inputs.{InputValue}
use Rattle.git_replies.specs.Lines.{wide_face_text}
use Rattle.git_answers.specs.Ends.{spelled}
use Rattle.git_answers.specs.Fan.{Options, after_verdicts}
use Rattle.git_answers.proofs.Replies.{plain}
use Rattle.git_input_cones.specs.InputCones.{IsWideFault}
use Rattle.git_fan.specs.Fans.{IsWideReply}

pub wide_reply : (v : InputValue) (n : Options) (s : Status) (text : List ℕ) (fault : ConesFault) → IsWideFault v fault → IsWideReply fault s text → spelled v (after_verdicts n v) s text
wide_reply v n s text (Wide mask at) first h = plain v (after_verdicts n v) statuses.Wide s text (wide_face_text mask at) (inl (mask, first.0, (at, first.1, refl))) h.0 h.1
wide_reply v n s text NoMemory first h = absurd h
