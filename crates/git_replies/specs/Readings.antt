-- What is read of a source.
use Rattle.std.specs.Prelude.{◌≡◌, ◌≤◌, ℕ, List, length, IfSome}
use Rattle.std.specs.declared.option.Option.{Option}
use Rattle.git_base.specs.declared.status.Status.{Status}
use Rattle.git_base.specs.declared.status.Status.TheVariants as statuses
use Rattle.git_limits.specs.declared.TheConstants.{INPUT_BYTES}
use Rattle.git_text.specs.Grammar.{IsInput}
use Rattle.git_replies.specs.Cases.{says}
use Rattle.git_replies.specs.Reads.{no_input}
use Rattle.git_replies.specs.declared.reply.Reply.{Reply}
use Rattle.git_replies.specs.declared.reply.Unanswered.{Unanswered}
use Rattle.git_replies.specs.declared.reply.Unanswered.TheVariants.{ReadFault, NoMemory}
use Rattle.git_replies.specs.declared.reading.Reading.{Reading}
use Rattle.git_replies.specs.declared.reading.Reading.TheVariants.{Input, Refused}

-- it is the answer to bytes that are no input
abbrev pub IsRefusal : List ℕ → Reply → Type 0
IsRefusal bytes a = (a.status ≡ statuses.BadInput) × no_input bytes (says statuses.BadInput a.text.items)

-- the input that the bytes are, or the answer to them
abbrev pub IsWhole : List ℕ → Reading → Type 0
IsWhole bytes (Input v) = (length bytes ≤ INPUT_BYTES) × IsInput bytes v
IsWhole bytes (Refused a) = IsRefusal bytes a

-- the same for the bytes that a source had left
abbrev pub IsReading : Option (List ℕ) → Reading → Type 0
IsReading left r = (bytes : List ℕ) × IfSome left (λ bs. bs ≡ bytes) × IsWhole bytes r

-- no input was read
abbrev pub IsRefused : Reading → Type 0
IsRefused (Input v) = ⊥
IsRefused (Refused a) = Unit {0}

-- the status where nothing is answered
abbrev pub IsUnanswered : Unanswered → Status → Type 0
IsUnanswered ReadFault s = s ≡ statuses.ReadFault
IsUnanswered NoMemory s = s ≡ statuses.NoMemory
