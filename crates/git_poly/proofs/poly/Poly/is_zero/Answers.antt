use Rattle.std.proofs.Common.{◌≡◌, length, arith}
use Rattle.std.proofs.lemmas.Grind.{common_steps}
use Rattle.std.proofs.lemmas.List.{nil_from_length}
use Rattle.git_poly.proofs.Closing.{is_zero, is_not_zero}
use Rattle.git_poly.proofs.poly.Poly.is_zero.Goals as goal

pub returns : goal.returns
returns c = (
  λ yes. is_zero c.self.inside.terms.items c.args.self.now c.self.invariant c.self.view_is (nil_from_length _ (grind (arith, common_steps))),
  λ none. let e : length c.self.inside.terms.items ≡ 0 = is_not_zero c.self.inside.terms.items c.args.self.now c.self.invariant c.self.view_is none in grind (arith, common_steps),
)
