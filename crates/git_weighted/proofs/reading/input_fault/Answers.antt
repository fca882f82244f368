use Rattle.std.proofs.lemmas.Result.{IfOk-weaker}
use Rattle.git_weighted.proofs.WeightedTexts.{input_refused}
use Rattle.git_weighted.proofs.reading.input_fault.Goals as goal

pub returns-in-Bad : goal.returns-in-Bad
returns-in-Bad c =
    let first = c.requires.first c.in-Bad.line c.in-Bad.column c.in-Bad.kind c.in-Bad.is in
    IfOk-weaker c.input_refusal.result _ _ (λ a h. input_refused c.args.bytes.now c.requires.few a c.announced_variables.result c.in-Bad.line c.in-Bad.column c.in-Bad.kind first c.announced_variables.ensures.value h.0 h.1) c.input_refusal.ensures
