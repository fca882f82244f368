use Rattle.std.proofs.Common.{ℕ, ap, subst, ◌++◌}
use Rattle.git_algebra.specs.Sums.{Sum, shift}
use Rattle.git_algebra.specs.Exponents.{one}
use Rattle.git_poly.specs.Terms.{sum_of, IsForm}
use Rattle.git_poly.proofs.TermLists.{held_terms}
use Rattle.git_poly.proofs.Closing.{form_is_minus}
use Rattle.git_poly.proofs.poly.Poly.sub.Goals as goal

pub returns : goal.returns
returns c =
    form_is_minus (sum_of c.in_ok-terms.terms.items) (sum_of c.deref-2.result.now) (sum_of c.deref.result.now) (sum_of c.in_ok-negative.negative.items) c.args.self.now c.args.o.now
    (held_terms c.self.inside.terms.items c.deref-2.result.now c.args.self.now c.self.invariant c.self.view_is c.deref-2.ensures.value)
    (held_terms c.o.inside.terms.items c.deref.result.now c.args.o.now c.o.invariant c.o.view_is c.deref.ensures.value)
    (subst (λ (n : ℕ). IsForm (sum_of c.in_ok-negative.negative.items) (shift one n (sum_of c.deref.result.now))) c.reduce.ensures c.in_ok-negative.ensures)
    (subst (λ (s : Sum). IsForm (sum_of c.in_ok-terms.terms.items) (sum_of c.deref-2.result.now ++ s)) (ap sum_of c.deref-3.ensures.value) c.in_ok-terms.ensures)
