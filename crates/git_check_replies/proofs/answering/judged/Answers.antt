use Rattle.std.proofs.Common.{ap, sym, subst, arith}
use Rattle.std.proofs.lemmas.Result.{IfOk-weaker}
use Rattle.git_certtext.specs.Blocks.{blocks_of}
use Rattle.git_check.specs.Checks.{IsChecked}
use Rattle.git_checktext.specs.Views.{text_of}
use Rattle.git_check_replies.proofs.Sizes.{before_few, certs_fit, certs_short, listing_short}
use Rattle.git_check_replies.proofs.Answered.{invalid_answered}
use Rattle.git_check_replies.proofs.answering.judged.Goals as goal

pub check-requires-clause-short : goal.check-requires-clause-short
check-requires-clause-short c = listing_short c.requires.0 (text_of c.args.text.now) c.requires.1

pub check-requires-clause-certs_fit : goal.check-requires-clause-certs_fit
check-requires-clause-certs_fit c = certs_fit c.requires.0 (text_of c.args.text.now) c.requires.1 c.deref.result.now (ap blocks_of (sym c.deref.ensures.value))

pub check-requires-clause-certs_short : goal.check-requires-clause-certs_short
check-requires-clause-certs_short c = certs_short c.requires.0 (text_of c.args.text.now) c.requires.1 c.deref.result.now (ap blocks_of (sym c.deref.ensures.value))

pub overflow_add-lines_before : goal.overflow_add-lines_before
overflow_add-lines_before c =
    let few = before_few c.requires.0 (text_of c.args.text.now) c.requires.1 c.in-Invalid.section in
    omega (arith, few, c.lines_before.ensures)

pub returns-in-Invalid : goal.returns-in-Invalid
returns-in-Invalid c =
    let x = text_of c.args.text.now in
    let same = ap blocks_of c.deref.ensures.value in
    let checked = subst (IsChecked x.input x.listing x.certs) c.in-Invalid.is (subst (λ bs. IsChecked x.input x.listing bs c.in_ok-check.field-0) same c.in_ok-check.ensures.checked) in
    IfOk-weaker c.invalid_line.result _ _ (λ a h. invalid_answered c.requires.0 x c.requires.1 a c.in-Invalid.section c.in-Invalid.line c.in-Invalid.reason c.lines_before.result checked c.lines_before.ensures h.0 h.1) c.invalid_line.ensures
