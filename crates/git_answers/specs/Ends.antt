-- How a call ends that answers by cases.
use Rattle.std.specs.Prelude.{◌≡◌, ◌⊎◌, ℕ, List, [], ◌++◌, IfSome}
use Rattle.std.specs.declared.option.Option.{Option}
use Rattle.std.specs.Io.KnownBytes.{Keeps, Appends}
use Rattle.git_base.specs.Prefixes.{GrowsByPrefix}
use Rattle.git_base.specs.declared.status.Status.{Status}
use Rattle.git_base.specs.declared.status.Status.TheVariants.{ReadFault, WriteFault, NoMemory}
use Rattle.git_input.specs.Inputs.{InputValue}
use Rattle.git_replies.specs.Cases.{Tail, nothing, Outcome, Case}
use Rattle.git_answers.specs.Verdicts.{IsTail}

-- a status and its text
abbrev pub Reply : Type 1
Reply = Status → List ℕ → Type 0

-- a status and a text that one of the cases of an input gives, with any of the certificates that are to follow
abbrev pub spelled : InputValue → Case → Reply
spelled v cases s text = (o : Outcome) × cases o × (o.status ≡ s) × ((after : List ℕ) × IsTail v o.tail after × (text ≡ o.text ++ after))

-- the certificates that are to follow: those of such an input
abbrev pub IsTailOf : (InputValue → Type 0) → Tail → List ℕ → Type 0
IsTailOf IsTold tail text = ((tail ≡ nothing) × (text ≡ [])) ⊎ ((v : InputValue) × IsTold v × IsTail v tail text)

-- the same for cases that tell of such an input, or of none
abbrev pub spelled_of : (InputValue → Type 0) → Case → Reply
spelled_of IsTold cases s text = (o : Outcome) × cases o × (o.status ≡ s) × ((after : List ℕ) × IsTailOf IsTold o.tail after × (text ≡ o.text ++ after))

-- the answers to the bytes that the source had left, which are any bytes where it tells none
abbrev pub over : Option (List ℕ) → (List ℕ → Reply) → Reply
over left answer s text = (bytes : List ℕ) × IfSome left (λ bs. bs ≡ bytes) × answer bytes s text

-- the text was written whole and the status stands, or a write failed
abbrev pub WritesOr : Status → List ℕ → Option (List ℕ) → Option (List ℕ) → Type 0 → Status → Type 0
WritesOr status text old new write result = ((result ≡ status) × Appends old new text) ⊎ ((result ≡ WriteFault) × GrowsByPrefix old new text × write)

-- it wrote the text and ended with its status; or a write failed, and a front of the text was written; or a read failed
-- or memory ran out, and nothing was written
pub data Ends (due : Reply) (read write : Type 0) (old new : Option (List ℕ)) (result : Status) : Type 0 where
  whole : (text : List ℕ) → due result text → Appends old new text → Ends due read write old new result
  cut : (s : Status) → (text : List ℕ) → due s text → GrowsByPrefix old new text → result ≡ WriteFault → write → Ends due read write old new result
  unread : result ≡ ReadFault → read → Keeps old new → Ends due read write old new result
  starved : result ≡ NoMemory → Keeps old new → Ends due read write old new result
