-- Any bytes are answered.
use Rattle.std.proofs.Common.{◌+◌, ◌^◌, ◌≤◌, ℕ, List, inl, inr, refl, arith}
use Rattle.std.proofs.Math.Pow.{pow_mono}
use Rattle.git_base.specs.declared.status.Status.TheVariants as statuses
use Rattle.git_certtext.specs.Blocks.{FitsCerts}
use Rattle.git_certtext.proofs.CertTexts.{whole_is}
use Rattle.git_check.specs.Checks.{IsChecked, section_of}
use Rattle.git_check.specs.declared.checked.Checked.{Checked}
use Rattle.git_check.specs.declared.checked.Checked.TheVariants.{Invalid, Valid}
use Rattle.git_checktext.specs.CheckText.{CheckText, IsCheckText, variables}
use Rattle.git_checktext.proofs.Texts.{text_or_refusal}
use Rattle.git_replies.specs.Cases.{HasSome, says}
use Rattle.git_check_replies.specs.CheckLines.{invalid_text, valid_text}
use Rattle.git_check_replies.specs.CheckCases.{check_case, checks, lines_before}
use Rattle.git_check_replies.proofs.Answered.{invalid_passes}
use Rattle.git_check_replies.proofs.OneText.{answered_so}
use Rattle.git_check_replies.proofs.Sizes.{graded}
use Rattle.git_check_laws.proofs.SomeAnswer.{some_answer}

module _ (bytes : List ℕ) (x : CheckText) (is : IsCheckText bytes x) where
  fits : FitsCerts (variables x.input) x.certs
  fits =
      let small : variables x.input ≤ 16 = (graded bytes x is).matrix.few_columns in
      let room : 2 ^ variables x.input ≤ 2 ^ 16 = pow_mono small in
      (whole_is (variables x.input) small (omega (arith, room)) is.rest x.certs is.certs).0

  told : (c : Checked) → IsChecked x.input x.listing x.certs c → HasSome (checks x)
  told Valid h = (says statuses.Done valid_text, inl (h, refl))
  told (Invalid named line reason) h =
      (says statuses.Invalid (invalid_text (lines_before x (section_of reason) + line) reason), inr (invalid_passes bytes x is reason line h.1, (reason, line, h.1, refl)))

  text_answered : HasSome (check_case bytes)
  text_answered =
      let c = some_answer x.input x.listing x.certs (graded bytes x is) is.head.fits fits in
      let t = told c.0 c.1 in
      (t.0, answered_so bytes x t.0 is t.1)

pub each_text : (bytes : List ℕ) → HasSome (check_case bytes)
each_text bytes = elim (text_or_refusal bytes) [
  | inl t ↦ text_answered bytes t.0 t.1
  | inr refused ↦ (refused.0, inl refused.1)
]
