use Rattle.std.proofs.Common.{ap, sym, ◌∙◌, arith}
use Rattle.git_algebra.specs.Operations.{greatest_degree, times_term}
use Rattle.git_algebra.proofs.Ring.{times_term-zero, times_term-of_zero}
use Rattle.git_poly.proofs.TermLists.{held_terms}
use Rattle.git_poly.proofs.Closing.{form_is_times_term}
use Rattle.git_poly.proofs.poly.Poly.times_term.Goals as goal
use Rattle.git_poly.proofs.poly.Poly.times_term.Goals.{then-value-eq0-via-then-value-eq0, then-value-eq0-via-else-value-eq0+then-is_zero}

pub returns-then-value-eq0-clause-product : goal.returns-then-value-eq0-clause-product
returns-then-value-eq0-clause-product c = elim c.then-value-eq0.branch [
  | then-value-eq0-via-then-value-eq0 w ↦
      c.zero.ensures
      ∙ sym (times_term-zero c.args.m.now c.args.self.now)
      ∙ ap (λ n. times_term c.args.m.now n c.args.self.now) (sym (sym c.value.ensures.same ∙ w.if-value-eq0.true))
  | then-value-eq0-via-else-value-eq0+then-is_zero w ↦
      c.zero.ensures
      ∙ sym (times_term-of_zero c.args.m.now c.args.c)
      ∙ ap (times_term c.args.m.now c.args.c) (sym (w.is_zero.ensures.0 w.if-is_zero.true))
]

pub shifted-requires-clause-degrees : goal.shifted-requires-clause-degrees
shifted-requires-clause-degrees c =
    omega (arith, ap greatest_degree (held_terms c.self.inside.terms.items c.deref.result.now c.args.self.now c.self.invariant c.self.view_is c.deref.ensures.value), c.if-degree-total_degree-gt-MONO_DEGREE.false, c.degree.ensures.same, c.total_degree.ensures.same)

pub returns-clause-product : goal.returns-clause-product
returns-clause-product c = form_is_times_term _ _ _ _ _ (held_terms c.self.inside.terms.items c.deref.result.now c.args.self.now c.self.invariant c.self.view_is c.deref.ensures.value) c.in_ok-terms.ensures
