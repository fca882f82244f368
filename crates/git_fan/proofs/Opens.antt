-- What is opened, behind cases that pass.
use Rattle.std.proofs.Common.{◌≡◌, ℕ, List, Result, Ok, Err, inl, inr}
use Rattle.std.specs.Prelude.{◌↔◌, IfOk}
use Rattle.git_base.specs.declared.status.Status.{Status}
use Rattle.git_input.specs.Inputs.{InputValue}
use Rattle.git_replies.specs.Cases.{Case, Outcome, Passes, ◌otherwise◌, says}
use Rattle.git_replies.proofs.CaseLaws.{later}
use Rattle.git_answers.specs.Ends.{spelled}
use Rattle.git_answers.specs.Fan.{Options, not_good, table_full}
use Rattle.git_answers.proofs.Replies.{plain}
use Rattle.git_chamber.specs.Views.{Graph}
use Rattle.git_facecert.specs.declared.certificate.FaceVerdict.{FaceVerdict}
use Rattle.git_fan.specs.Fans.{IsListed, IsOpened, IsOpenFan}
use Rattle.git_replies.specs.declared.reply.Reply.{Reply}
use Rattle.git_fan.specs.declared.opening.Opened.{Opened}
use Rattle.git_fan.specs.declared.opening.Opened.TheVariants.{Decided, Open}
use Rattle.git_fan.specs.declared.listing.Listed.{Listed}
use Rattle.git_fan.specs.declared.listing.Listed.TheVariants.{Refused, Chambers}

-- where the first of two cases passes, the second is left
pub left_of : (C D : Case) → Passes C → (o : Outcome) → (C otherwise D) o ↔ D o
left_of C D p o = ((λ x. later C D o p x), (λ y. inr (p, y)))

-- neither of two cases decides
pub neither : (C D : Case) → Passes C → Passes D → Passes (C otherwise D)
neither C D p q o (inl c) = p o c
neither C D p q o (inr d) = q o d.1

module _ (v : InputValue) where
  -- a case passes
  pub later_reply : (C D : Case) (s : Status) (text : List ℕ) → Passes C → spelled v D s text → spelled v (C otherwise D) s text
  later_reply C D s text p d = (d.0, inr (p, d.1), d.2, d.3)

  -- a case decides
  pub first_reply : (C D : Case) (s : Status) (text : List ℕ) → spelled v C s text → spelled v (C otherwise D) s text
  first_reply C D s text c = (c.0, inl c.1, c.2, c.3)

  -- a case decides, without certificates
  pub decides : (C D : Case) (s t : Status) (text given : List ℕ) → C (says s given) → t ≡ s → text ≡ given → spelled v (C otherwise D) t text
  decides C D s t text given c status spelling = first_reply C D t text (plain v C s t text given c status spelling)

  -- a case passes before what is opened
  pub opened_passed : {E : Type 0} (n : Options) (C D : Case) (r : Result Opened E) → Passes C → IfOk r (IsOpened v n D) → IfOk r (IsOpened v n (C otherwise D))
  opened_passed n C D (Ok (Decided a)) p h = later_reply C D a.status a.text.items p h
  opened_passed n C D (Ok (Open graph faces)) p h = record { graph = h.graph; verdicts = h.verdicts; small = h.small; room = h.room; rest = λ o. ((λ x. (h.rest o).0 (later C D o p x)), (λ x. inr (p, (h.rest o).1 x))) }
  opened_passed n C D (Err e) p h = tt

  -- a case decides wherever there is a reply
  pub decided_by : {E : Type 0} (C D : Case) (r : Result Reply E) (s : Status) (given : List ℕ) → IfOk r (λ a. C (says s given)) → IfOk r (λ a. a.status ≡ s) → IfOk r (λ a. a.text.items ≡ given) → IfOk r (λ a. spelled v (C otherwise D) a.status a.text.items)
  decided_by C D (Ok a) s given c status spelling = decides C D s a.status a.text.items given c status spelling
  decided_by C D (Err e) s given c status spelling = tt

  -- what is left of the cases decides for all of them
  pub listed_by : {E : Type 0} (n : Options) (C : Case) (g : Graph) (faces : List FaceVerdict) (r : Result Listed E) → IsOpenFan v n C g faces
      → IfOk r (IsListed v (table_full v n otherwise not_good v)) → IfOk r (IsListed v C)
  listed_by n C g faces (Ok (Refused a)) h d = (d.0, (h.rest d.0).1 d.1, d.2, d.3)
  listed_by n C g faces (Ok (Chambers graph verdicts listing)) h d = record { passes = λ o x. d.passes o ((h.rest o).0 x); graph = d.graph; verdicts = d.verdicts; listing = d.listing }
  listed_by n C g faces (Err e) h d = tt

  -- a case passes before chambers are listed
  pub listed_passed : {E : Type 0} (C D : Case) (r : Result Listed E) → Passes C → IfOk r (IsListed v D) → IfOk r (IsListed v (C otherwise D))
  listed_passed C D (Ok (Refused a)) p h = later_reply C D a.status a.text.items p h
  listed_passed C D (Ok (Chambers graph verdicts listing)) p h = record { passes = λ o x. h.passes o (later C D o p x); graph = h.graph; verdicts = h.verdicts; listing = h.listing }
  listed_passed C D (Err e) p h = tt
