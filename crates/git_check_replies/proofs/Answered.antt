-- What is answered of a check text, and of any bytes.
use Rattle.std.proofs.Common.{◌≡◌, ℕ, ◌+◌, List, sym, ap, ◌∙◌, subst, inl, inr}
use Rattle.git_base.specs.declared.status.Status.{Status}
use Rattle.git_base.specs.declared.status.Status.TheVariants as statuses
use Rattle.git_listing.proofs.ReadingLaws.{may_be_printed}
use Rattle.git_asked.specs.declared.finding.Reason.{Reason}
use Rattle.git_asked.specs.Findings.{FailsFirst}
use Rattle.git_check.specs.Checks.{IsChecked, section_of}
use Rattle.git_check.specs.Texts.{AsksText}
use Rattle.git_check.specs.declared.checked.Section.{Section}
use Rattle.git_check.specs.declared.checked.Checked.TheVariants.{Invalid, Valid}
use Rattle.git_check.proofs.Exact.{valid_exactly}
use Rattle.git_checktext.specs.CheckText.{CheckText, IsCheckText}
use Rattle.git_checktext.specs.Readings.{IsRefusal}
use Rattle.git_checktext.specs.Reads.{no_check_text}
use Rattle.git_checktext.proofs.Texts.{text_passes}
use Rattle.git_replies.specs.Cases.{Passes, says}
use Rattle.git_replies.specs.declared.reply.Reply as code
use Rattle.git_check_replies.specs.CheckLines.{invalid_text, valid_text}
use Rattle.git_check_replies.specs.CheckCases.{check_reply, checks, is_valid, lines_before}
use Rattle.git_check_replies.proofs.Sizes.{graded}

-- where a reason fails, the text is not valid
pub invalid_passes : (bytes : List ℕ) (x : CheckText) → IsCheckText bytes x → (reason : Reason) (line : ℕ) → FailsFirst (AsksText x.input x.listing x.certs) reason line → Passes (is_valid x)
invalid_passes bytes x is reason line f o h = f.fails ((valid_exactly x.input x.listing x.certs (graded bytes x is) (may_be_printed x.listing is.head.fits)).1 h.0 reason line)

same_answer : (a : code.Reply) (s : Status) (text : List ℕ) → a.status ≡ s → a.text.items ≡ text → says a.status a.text.items ≡ says s text
same_answer a s text e f = λ i. says (e i) (f i)

pub valid_answered : (x : CheckText) (a : code.Reply) → IsChecked x.input x.listing x.certs Valid → a.status ≡ statuses.Done → a.text.items ≡ valid_text → checks x (says a.status a.text.items)
valid_answered x a h e f = inl (h, same_answer a statuses.Done valid_text e f)

pub invalid_answered : (bytes : List ℕ) (x : CheckText) → IsCheckText bytes x → (a : code.Reply) (section : Section) (line : ℕ) (reason : Reason) (n : ℕ) → IsChecked x.input x.listing x.certs (Invalid section line reason)
    → n ≡ lines_before x section → a.status ≡ statuses.Invalid → a.text.items ≡ invalid_text (n + line) reason → checks x (says a.status a.text.items)
invalid_answered bytes x is a section line reason n h count e f =
    let place : n ≡ lines_before x (section_of reason) = count ∙ ap (lines_before x) h.0 in
    let text : a.text.items ≡ invalid_text (lines_before x (section_of reason) + line) reason = f ∙ ap (λ (m : ℕ). invalid_text (m + line) reason) place in
    inr (invalid_passes bytes x is reason line h.1, (reason, line, h.1, same_answer a statuses.Invalid (invalid_text (lines_before x (section_of reason) + line) reason) e text))

pub text_answered : (bytes : List ℕ) (x : CheckText) → IsCheckText bytes x → (s : Status) (text : List ℕ) → checks x (says s text) → check_reply bytes s text
text_answered bytes x is s text h = inr (text_passes bytes x is, (x, is, h))

pub refusal_answered : (bytes : List ℕ) (a : code.Reply) → IsRefusal bytes a → check_reply bytes a.status a.text.items
refusal_answered bytes a h = inl (subst (λ (s : Status). no_check_text bytes (says s a.text.items)) (sym h.0) h.1)
