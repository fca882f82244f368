use Rattle.std.proofs.Common.{◌≤◌, sym, subst}
use Rattle.git_algebra.specs.Exponents.{exponent}
use Rattle.git_polytext.proofs.Bounds.{one_small}
use Rattle.git_polytext.proofs.terms.first_factor.Goals as goal

pub returns-then-are_digits-clause-small : goal.returns-then-are_digits-clause-small
returns-then-are_digits-clause-small c = λ i. subst (λ a. exponent a i ≤ 64) (sym c.one-one.ensures) (one_small i)

pub power_signs-requires-clause-small : goal.power_signs-requires-clause-small
power_signs-requires-clause-small c = λ i. subst (λ a. exponent a i ≤ 64) (sym c.one-one.ensures) (one_small i)
