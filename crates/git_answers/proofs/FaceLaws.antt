-- How runs of faces stop.
use Rattle.std.proofs.Common.{◌≡◌, ℕ, ◌≤◌, sym, ◌∙◌, inl, inr, arith}
use Rattle.git_base.specs.declared.status.Status.{Status}
use Rattle.git_basis.proofs.One.{steps_not_by_degree}
use Rattle.git_input.specs.Inputs.{InputValue}
use Rattle.git_replies.specs.Cases.{HasOne, IsFirst, says}
use Rattle.git_answers.specs.Verdicts.{StopsWith, StopsAt, start_at}
use Rattle.git_replies.specs.Lines.{stop_text}
use Rattle.git_answers.specs.Faces.{face_stops, certifies, faces_of}
use Rattle.git_replies.proofs.CaseLaws.{one_of, one_by, one_is, one_first}

-- a run stops in one way
pub one_stop : (v : InputValue) (limit mask : ℕ) → HasOne (StopsWith v limit mask)
one_stop v limit mask s t (inl a) (inl b) = a.0 ∙ sym b.0
one_stop v limit mask s t (inl a) (inr b) = absurd (steps_not_by_degree (start_at v mask) limit a.1.0 b.1.0 b.1.1 a.1.1 b.1.2)
one_stop v limit mask s t (inr a) (inl b) = absurd (steps_not_by_degree (start_at v mask) limit b.1.0 a.1.0 a.1.1 b.1.1 a.1.2)
one_stop v limit mask s t (inr a) (inr b) = a.0 ∙ sym b.0

pub down_same : (a b : ℕ) → b ≤ a → a ≤ b → a ≡ b
down_same a b l m = omega (arith, l, m)

pub first_stop_one : (v : InputValue) (limit : ℕ) (P : ℕ → Type 0) → HasOne (λ o. (mask : ℕ) × IsFirst (λ m n. n ≤ m) P mask × ((s : Status) × StopsWith v limit mask s × (o ≡ says s (stop_text s mask))))
first_stop_one v limit P =
    one_by (IsFirst (λ m n. n ≤ m) P) (λ mask o. (s : Status) × StopsWith v limit mask s × (o ≡ says s (stop_text s mask)))
    (one_first (λ m n. n ≤ m) P down_same)
    (λ mask. one_by (StopsWith v limit mask) (λ s o. o ≡ says s (stop_text s mask)) (one_stop v limit mask) (λ s. one_is (says s (stop_text s mask))))

pub faces_one : (v : InputValue) (limit : ℕ) → HasOne (faces_of limit v)
faces_one v limit = one_of (face_stops v limit) certifies (first_stop_one v limit (StopsAt v limit)) (λ p. one_is _)
