use Rattle.git_chamber.proofs.Facets.{fan_seen}
use Rattle.git_chamber.proofs.Fulls.{legal_is_full}
use Rattle.git_cone_tests.proofs.chambers.of_legal.Goals as goal

pub chamber-requires : goal.chamber-requires
chamber-requires c = legal_is_full c.args.cones.now c.args.sig.now (fan_seen c.cones.view_is c.cones.invariant.fan) c.requires

pub returns-clause-full : goal.returns-clause-full
returns-clause-full c = legal_is_full c.args.cones.now c.args.sig.now (fan_seen c.cones.view_is c.cones.invariant.fan) c.requires
