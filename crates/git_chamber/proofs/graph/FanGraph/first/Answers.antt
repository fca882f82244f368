use Rattle.std.proofs.Common.{rules, IfOk, subst}
use Rattle.std.proofs.lemmas.Result.{IfOk-weaker}
use Rattle.git_machine.specs.Signatures.{Signature}
use Rattle.git_orbit.specs.Signatures.{IsLegal, IsSignature}
use Rattle.git_chamber.specs.Views.{IsGraph}
use Rattle.git_chamber.specs.Chambers.{first_germ}
use Rattle.git_chamber.proofs.Firsts.{first_legal}
use Rattle.git_chamber.proofs.graph.FanGraph.first.Goals as goal

pub returns-clause-legal : goal.returns-clause-legal
returns-clause-legal c =
    let g = c.args.self.now in
    let is : IsGraph g = subst IsGraph c.self.view_is c.self.invariant.1 in
    let first : IfOk c.signature.result (λ (s : Signature). IsSignature g.fan (first_germ g.fan.k g.columns) s) = search rules in
    IfOk-weaker c.signature.result (λ (s : Signature). IsSignature g.fan (first_germ g.fan.k g.columns) s) (λ (s : Signature). IsLegal g.fan s) (first_legal g is) first
