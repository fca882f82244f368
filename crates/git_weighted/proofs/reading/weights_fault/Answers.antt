use Rattle.std.proofs.lemmas.Result.{IfOk-weaker}
use Rattle.git_weighted.proofs.WeightedTexts.{weights_refused}
use Rattle.git_weighted.proofs.reading.weights_fault.Goals as goal

pub returns-in-Bad : goal.returns-in-Bad
returns-in-Bad c =
    let first = c.requires.first c.in-Bad.line c.in-Bad.column c.in-Bad.kind c.in-Bad.is in
    let front = c.requires.front in
    IfOk-weaker c.weights_refusal.result _ _ (λ a h. weights_refused c.args.bytes.now c.requires.few a front.0 c.args.used c.args.k c.count_lines-before.result c.in-Bad.line c.in-Bad.column c.in-Bad.kind front.1 front.2 first c.count_lines-before.ensures.lines h.0 h.1) c.weights_refusal.ensures
