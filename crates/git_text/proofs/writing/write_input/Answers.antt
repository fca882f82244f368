use Rattle.git_text.proofs.WrittenTexts.{back_by}
use Rattle.git_text.proofs.writing.write_input.Goals as goal

pub returns-clause-back : goal.returns-clause-back
returns-clause-back c = back_by (λ text. text.items) c.text_of.result _ c.args.input.now c.input.view_is c.k.ensures.grading c.input.invariant c.text_of.ensures
