use Rattle.std.proofs.lemmas.Result.{IfOk-weaker}
use Rattle.git_poly.specs.Terms.{sum_of}
use Rattle.git_poly.proofs.Splitting.{product_turned}
use Rattle.git_poly.proofs.terms.product_of.Goals as goal

pub returns-else-a-b : goal.returns-else-a-b
returns-else-a-b c = IfOk-weaker c.product_by_halves-else-a-b.result _ _ (λ v h. product_turned (sum_of v.items) (sum_of c.args.a.now) (sum_of c.args.b.now) h) c.product_by_halves-else-a-b.ensures
