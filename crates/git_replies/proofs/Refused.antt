-- Too many bytes are refused.
use Rattle.std.proofs.Common.{◌≡◌, ℕ, ◌+◌, ◌<◌, List, length, Option, Some, None, replicate, refl, sym, ap, inl, arith}
use Rattle.std.specs.Prelude.{IfSome}
use Rattle.std.proofs.lemmas.List.{length-replicate}
use Rattle.git_base.specs.declared.status.Status.TheVariants.{BadInput}
use Rattle.git_limits.specs.declared.TheConstants.{INPUT_BYTES}
use Rattle.git_replies.specs.Cases.{says}
use Rattle.git_replies.specs.Refusals.{long_text}
use Rattle.git_replies.specs.Readings.{IsReading}
use Rattle.git_replies.specs.declared.reply.Reply as code
use Rattle.git_replies.specs.declared.reading.Reading.TheVariants.{Refused}

more_than : (n : ℕ) → (bytes : List ℕ) × (n < length bytes)
more_than n = (replicate (n + 1) 0, (let e = length-replicate {A = ℕ} (n + 1) 0 in omega (arith, e)))

-- more bytes than a limit that may have been left
pub long_left : (limit : ℕ) (left : Option (List ℕ)) → IfSome left (λ bs. limit < length bs) → (bytes : List ℕ) × IfSome left (λ bs. bs ≡ bytes) × (limit < length bytes)
long_left limit None long = let m = more_than limit in (m.0, tt, m.1)
long_left limit (Some bs) long = (bs, refl, long)

pub long_refused : (left : Option (List ℕ)) (a : code.Reply) → IfSome left (λ bs. INPUT_BYTES < length bs) → a.status ≡ BadInput → a.text.items ≡ long_text → IsReading left (Refused a)
long_refused left a long status spells = let b = long_left INPUT_BYTES left long in (b.0, b.1, (status, inl (b.2, ap (says BadInput) spells)))
