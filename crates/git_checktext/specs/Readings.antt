-- What is read of a source.
use Rattle.std.specs.Prelude.{◌≡◌, ℕ, List, IfSome}
use Rattle.std.specs.declared.option.Option.{Option}
use Rattle.git_base.specs.declared.status.Status.TheVariants.{BadInput}
use Rattle.git_replies.specs.Cases.{says}
use Rattle.git_replies.specs.declared.reply.Reply.{Reply}
use Rattle.git_checktext.specs.CheckText.{IsCheckText}
use Rattle.git_checktext.specs.Reads.{no_check_text}
use Rattle.git_checktext.specs.Views.{text_of}
use Rattle.git_checktext.specs.declared.reading.TextReading.{TextReading}
use Rattle.git_checktext.specs.declared.reading.TextReading.TheVariants.{Text, Refused}

-- it is the answer to bytes that are no check text
abbrev pub IsRefusal : List ℕ → Reply → Type 0
IsRefusal bytes a = (a.status ≡ BadInput) × no_check_text bytes (says BadInput a.text.items)

-- the check text that the bytes are, or the answer to them
abbrev pub IsWhole : List ℕ → TextReading → Type 0
IsWhole bytes (Text x) = IsCheckText bytes (text_of x)
IsWhole bytes (Refused a) = IsRefusal bytes a

-- the same for the bytes that a source had left
abbrev pub IsReading : Option (List ℕ) → TextReading → Type 0
IsReading left r = (bytes : List ℕ) × IfSome left (λ bs. bs ≡ bytes) × IsWhole bytes r

-- no check text was read
abbrev pub IsRefused : TextReading → Type 0
IsRefused (Text x) = ⊥
IsRefused (Refused a) = Unit {0}
