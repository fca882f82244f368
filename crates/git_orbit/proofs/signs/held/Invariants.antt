use Rattle.std.proofs.Common.{◌≢◌, take}
use Rattle.std.proofs.Math.IntN.{negsuc}
use Rattle.git_defs.specs.Vectors.{Vector}
use Rattle.git_geometry.specs.Germs.{sign_at}
use Rattle.git_lemmas.specs.Members.{Member}
use Rattle.git_orbit.proofs.signs.held.Given as goal

abbrev pub invariant-loop-n : goal.invariant-loop-n
invariant-loop-n l = (n : Vector) → Member n (take l.n-index l.cone.facets) → sign_at n l.germ ≢ negsuc 0
