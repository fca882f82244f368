use Rattle.std.proofs.Common.{◌≡◌, drop}
use Rattle.git_geometry.specs.Germs.{sign_at}
use Rattle.git_orbit.proofs.signs.sign.Given as goal

abbrev pub invariant-loop-v : goal.invariant-loop-v
invariant-loop-v l = sign_at l.normal (drop l.v-index l.v-items) ≡ sign_at l.normal l.germ
