-- The answer of `faces` by cases.
use Rattle.std.specs.Prelude.{◌≡◌, ℕ, ◌≤◌, []}
use Rattle.git_base.specs.declared.status.Status.{Status}
use Rattle.git_base.specs.declared.status.Status.TheVariants.{Done}
use Rattle.git_input.specs.Inputs.{InputValue}
use Rattle.git_replies.specs.Cases.{Case, ◌otherwise◌, IsFirst, says, certificates}
use Rattle.git_answers.specs.Verdicts.{StopsAt, StopsWith}
use Rattle.git_replies.specs.Lines.{stop_text}

-- the run of a full face stops: the greatest such face is named
abbrev pub face_stops : InputValue → ℕ → Case
face_stops v limit o = (mask : ℕ) × IsFirst (λ m n. n ≤ m) (StopsAt v limit) mask × ((s : Status) × StopsWith v limit mask s × (o ≡ says s (stop_text s mask)))

-- the certificates of all full faces
abbrev pub certifies : Case
certifies o = o ≡ record { status = Done; text = []; tail = certificates }

abbrev pub faces_of : ℕ → InputValue → Case
faces_of limit v = face_stops v limit otherwise certifies
