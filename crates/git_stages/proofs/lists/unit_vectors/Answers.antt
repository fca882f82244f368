use Rattle.std.proofs.Common.{◌∙◌, arith}
use Rattle.std.proofs.lemmas.List.{take_all}
use Rattle.git_defs.specs.Vectors.{units}
use Rattle.git_geometry.proofs.Units.{length-units}
use Rattle.git_stages.proofs.Fronts.{one_more}
use Rattle.git_stages.proofs.lists.unit_vectors.Goals as goal

pub loop-i-preserved : goal.loop-i-preserved
loop-i-preserved c = one_more (units c.args.k) c.loop-i.out.items c.add.new.out.items c.loop-i.i c.unit.result (let e = length-units c.args.k in omega (arith, e, c.loop-i-test.true)) c.loop-i.invariant c.unit.ensures c.in_ok-add.ensures

pub returns : goal.returns
returns c = c.loop-i.invariant ∙ take_all c.loop-i.i (units c.args.k) (let e = length-units c.args.k in omega (arith, e, c.loop-i-test.false))
