use Rattle.std.proofs.Common.{◌≡◌, ◌<◌, ℕ, true}
use Rattle.git_poly.proofs.Faces.{place_in_face}
use Rattle.git_poly.proofs.terms.is_in_face.Given as goal

abbrev pub invariant-loop-i : goal.invariant-loop-i
invariant-loop-i l = (k : ℕ) → k < l.i → place_in_face l.mask l.m k ≡ true
