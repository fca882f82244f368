-- The reply of a case, and of the cases before it.
use Rattle.std.proofs.Common.{◌≡◌, ℕ, ◌≤◌, List, [], length, inl, inr, refl, sym, ◌∙◌, subst, Result, Ok, Err, Option, Some, None}
use Rattle.std.proofs.lemmas.List.{append-nil}
use Rattle.std.specs.Prelude.{IfOk, IfSome}
use Rattle.git_base.specs.declared.status.Status.{Status}
use Rattle.git_limits.specs.declared.TheConstants.{INPUT_BYTES}
use Rattle.git_input.specs.Inputs.{InputValue}
use Rattle.git_text.specs.Grammar.{IsInput}
use Rattle.git_replies.specs.Cases.{Case, Outcome, Passes, ◌otherwise◌, says}
use Rattle.git_replies.specs.Reads.{reads}
use Rattle.git_answers.specs.Ends.{spelled, spelled_of, Reply, Ends, whole, cut, unread, starved, WritesOr}
use Rattle.git_replies.proofs.ReadLaws.{few_pass, input_passes}

module _ (v : InputValue) where
  -- a text with no certificates
  pub plain : (C : Case) (s t : Status) (text given : List ℕ) → C (says s given) → t ≡ s → text ≡ given → spelled v C t text
  plain C s t text given c status spelling = (says s given, c, sym status, ([], refl, spelling ∙ sym (append-nil given)))

  module _ {T E : Type 0} (status_of : T → Status) (bytes_of : T → List ℕ) where
    -- the case decides alone
    pub alone : (C : Case) (r : Result T E) (s : Status) (given : List ℕ) → C (says s given) → IfOk r (λ a. status_of a ≡ s) → IfOk r (λ a. bytes_of a ≡ given)
        → IfOk r (λ a. spelled v C (status_of a) (bytes_of a))
    alone C (Ok a) s given c status spelling = plain C s (status_of a) (bytes_of a) given c status spelling
    alone C (Err e) s given c status spelling = tt

    -- the first case decides
    pub decided : (C D : Case) (r : Result T E) (s : Status) (given : List ℕ) → C (says s given) → IfOk r (λ a. status_of a ≡ s) → IfOk r (λ a. bytes_of a ≡ given)
        → IfOk r (λ a. spelled v (C otherwise D) (status_of a) (bytes_of a))
    decided C D r s given c status spelling = alone (C otherwise D) r s given (inl c) status spelling

    -- it decides, with its certificates
    pub first : (C D : Case) (r : Result T E) → IfOk r (λ a. spelled v C (status_of a) (bytes_of a)) → IfOk r (λ a. spelled v (C otherwise D) (status_of a) (bytes_of a))
    first C D (Ok a) c = (c.0, inl c.1, c.2, c.3)
    first C D (Err e) c = tt

    -- it passes
    pub passed : (C D : Case) (r : Result T E) → Passes C → IfOk r (λ a. spelled v D (status_of a) (bytes_of a)) → IfOk r (λ a. spelled v (C otherwise D) (status_of a) (bytes_of a))
    passed C D (Ok a) p d = (d.0, inr (p, d.1), d.2, d.3)
    passed C D (Err e) p d = tt

-- an input that is not too long is answered by its cases
pub input_replied : (cases : InputValue → Case) (bytes : List ℕ) (v : InputValue) (s : Status) (text : List ℕ) → length bytes ≤ INPUT_BYTES → IsInput bytes v
    → spelled v (cases v) s text → spelled_of (IsInput bytes) (reads cases bytes) s text
input_replied cases bytes v s text few is c = (c.0, inr (few_pass bytes few, inr (input_passes bytes v is, (v, is, c.1))), c.2, (c.3.0, inr (v, is, c.3.1), c.3.2))

-- a text with no certificates, whatever is told
pub plain_of : (IsTold : InputValue → Type 0) (C : Case) (s t : Status) (text given : List ℕ) → C (says s given) → t ≡ s → text ≡ given → spelled_of IsTold C t text
plain_of IsTold C s t text given c status spelling = (says s given, c, sym status, ([], inl (refl, refl), spelling ∙ sym (append-nil given)))

-- the cases of an input that is told
pub told_replied : (IsTold : InputValue → Type 0) (C D : Case) (v : InputValue) (s : Status) (text : List ℕ) → IsTold v → ((o : Outcome) → C o → D o) → spelled v C s text → spelled_of IsTold D s text
told_replied IsTold C D v s text told gives c = (c.0, gives c.0 c.1, c.2, (c.3.0, inr (v, told, c.3.1), c.3.2))

-- more may be told, and the cases may be more
pub more_replied : (Few More : InputValue → Type 0) (C D : Case) (s : Status) (text : List ℕ) → ((v : InputValue) → Few v → More v) → ((o : Outcome) → C o → D o) → spelled_of Few C s text → spelled_of More D s text
more_replied Few More C D s text told gives (o, c, is, (after, inl none, spells)) = (o, gives o c, is, (after, inl none, spells))
more_replied Few More C D s text told gives (o, c, is, (after, inr (v, few, tail), spells)) = (o, gives o c, is, (after, inr (v, told v few, tail), spells))

-- bytes that may have been left
pub bytes_left : (left : Option (List ℕ)) → (bytes : List ℕ) × IfSome left (λ bs. bs ≡ bytes)
bytes_left None = ([], tt)
bytes_left (Some bs) = (bs, refl)

-- what is due may be weakened
pub ends_weaker : (due more : Reply) (read write : Type 0) (old new : Option (List ℕ)) (result : Status) → ((s : Status) (text : List ℕ) → due s text → more s text)
    → Ends due read write old new result → Ends more read write old new result
ends_weaker due more read write old new result f (whole text d a) = whole text (f result text d) a
ends_weaker due more read write old new result f (cut s text d front is rose) = cut s text (f s text d) front is rose
ends_weaker due more read write old new result f (unread is rose keeps) = unread is rose keeps
ends_weaker due more read write old new result f (starved is keeps) = starved is keeps

pub written : (due : Reply) (read write : Type 0) (old new : Option (List ℕ)) (status result : Status) (text : List ℕ) → due status text → WritesOr status text old new write result → Ends due read write old new result
written due read write old new status result text d (inl w) = whole text (subst (λ s. due s text) (sym w.0) d) w.1
written due read write old new status result text d (inr w) = cut status text d w.1 w.0 w.2
