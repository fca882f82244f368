-- What the program replies, from what its commands do.
use Rattle.std.proofs.Common.{ℕ, Bool, List, [], Option, refl, inl, inr}
use Rattle.git_base.specs.declared.status.Status.{Status}
use Rattle.git_base.specs.declared.status.Status.TheVariants.{Usage}
use Rattle.git_words.specs.Words.{IsCommand}
use Rattle.git_words.specs.declared.commands.Sample.{Sample}
use Rattle.git_words.specs.declared.commands.Command.{Command}
use Rattle.git_words.specs.declared.commands.Command.TheVariants.{Make}
use Rattle.git_answers.specs.Ends.{over, Ends, whole, cut, unread, starved}
use Rattle.git_answers.proofs.Replies.{plain_of, more_replied, bytes_left}
use Rattle.git_commands.specs.Commands.{InputOf, command_answer, reply_of}
use Rattle.git_top.specs.Run.{answer_to, reply_to, InputFor, usage_text}

-- what the command replies is replied to the words that name it
pub command_replied : (words : List (List ℕ)) (c : Command) (left : Option (List ℕ)) → IsCommand words c → (s : Status) (text : List ℕ) → over left (reply_of c) s text → over left (reply_to words) s text
command_replied words c left is s text h =
    (h.0, h.1, more_replied (InputOf c h.0) (InputFor words h.0) (command_answer c h.0) (answer_to words h.0) s text (λ v told. (c, is, told)) (λ o a. inr ((λ p none. none.0 c is), (c, is, a))) h.2)

-- the words are no command
pub usage_replied : (words : List (List ℕ)) (left : Option (List ℕ)) → ((c : Command) → IsCommand words c → ⊥) → over left (reply_to words) Usage usage_text
usage_replied words left none =
    let b = bytes_left left in
    (b.0, b.1, plain_of (InputFor words b.0) (answer_to words b.0) Usage Usage usage_text usage_text (inl (none, refl)) refl refl)

-- what is made is read of no bytes
pub made_ends : (sample : Sample) (run : Bool) (left : Option (List ℕ)) (read write : Type 0) (old new : Option (List ℕ)) (result : Status) → Ends (reply_of (Make sample run) []) ⊥ write old new result
    → Ends (over left (reply_of (Make sample run))) read write old new result
made_ends sample run left read write old new result (whole text d a) = (let b = bytes_left left in whole text (b.0, b.1, d) a)
made_ends sample run left read write old new result (cut s text d front is rose) = (let b = bytes_left left in cut s text (b.0, b.1, d) front is rose)
made_ends sample run left read write old new result (unread is rose keeps) = absurd rose
made_ends sample run left read write old new result (starved is keeps) = starved is keeps
