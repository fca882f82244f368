use Rattle.git_orbit.specs.Signatures.{IsLegal}
use Rattle.git_cone_tests.proofs.chambers.end_of.Given as goal

abbrev pub invariant-loop-normal : goal.invariant-loop-normal
invariant-loop-normal l = IsLegal l.graph.fan l.sig
