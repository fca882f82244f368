use Rattle.std.proofs.Common.{◌≡◌, ◌∙◌, ap, false, true, not, sym}
use Rattle.std.proofs.lemmas.Bool.{eq-eqb, ne_eqb}
use Rattle.std.specs.Int.RustNames.{bit_and}
use Rattle.git_orbit.proofs.NumberSets.{common_bit, no_common_bit}
use Rattle.git_orbit.proofs.sets.overlap.Goals as goal

pub returns : goal.returns
returns c = (
  λ h. common_bit c.args.a c.args.b c.ranges.a.fits (λ e. let f : true ≡ false = sym h ∙ ap not (eq-eqb (bit_and c.args.a c.args.b) 0 e) in cc f),
  λ p. ap not (ne_eqb (bit_and c.args.a c.args.b) 0 (λ e. no_common_bit c.args.a c.args.b e p.0 p.2 p.3)),
)
