use Rattle.std.proofs.Common.{List, subst}
use Rattle.git_defs.specs.Vectors.{Vector}
use Rattle.git_orbit.specs.Signatures.{IsHolding}
use Rattle.git_bunch.proofs.bunching.bunch_alone.Goals as goal

pub returns : goal.returns
returns c = record {
  set = c.in_ok-set.set;
  holding = subst (λ (vs : List Vector). IsHolding c.args.cones.now vs c.in_ok-set.set) c.deref.ensures.value c.in_ok-set.ensures;
  minimal = λ F same are. c.in_ok-minimal.ensures F are;
  changes = c.in_ok-steps.ensures;
}
