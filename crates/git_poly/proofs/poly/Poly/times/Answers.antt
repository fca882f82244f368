use Rattle.std.proofs.Common.{ap, sym, ◌∙◌, arith}
use Rattle.git_algebra.specs.Polynomials.{Polynomial}
use Rattle.git_algebra.specs.Operations.{greatest_degree, multiplied}
use Rattle.git_algebra.proofs.Ring.{zero-multiplied, multiplied-zero}
use Rattle.git_poly.proofs.TermLists.{held_terms}
use Rattle.git_poly.proofs.Closing.{form_is_multiplied}
use Rattle.git_poly.proofs.poly.Poly.times.Goals as goal
use Rattle.git_poly.proofs.poly.Poly.times.Goals.{then-is_zero-via-then-is_zero, then-is_zero-via-else-is_zero+then-is_zero-2}

pub returns-then-is_zero-clause-product : goal.returns-then-is_zero-clause-product
returns-then-is_zero-clause-product c = elim c.then-is_zero.branch [
  | then-is_zero-via-then-is_zero w ↦
      c.zero.ensures
      ∙ sym (zero-multiplied c.args.o.now)
      ∙ ap (λ (p : Polynomial). multiplied p c.args.o.now) (sym (c.is_zero.ensures.0 w.if-is_zero.true))
  | then-is_zero-via-else-is_zero+then-is_zero-2 w ↦
      c.zero.ensures
      ∙ sym (multiplied-zero c.args.self.now)
      ∙ ap (multiplied c.args.self.now) (sym (w.is_zero-else-is_zero.ensures.0 w.if-is_zero-2.true))
]

pub product_of-requires-clause-degrees : goal.product_of-requires-clause-degrees
product_of-requires-clause-degrees c =
    omega (
      arith,
      ap greatest_degree (held_terms c.self.inside.terms.items c.deref.result.now c.args.self.now c.self.invariant c.self.view_is c.deref.ensures.value),
      ap greatest_degree (held_terms c.o.inside.terms.items c.deref-2.result.now c.args.o.now c.o.invariant c.o.view_is c.deref-2.ensures.value),
      c.if-total_degree-gt-MONO_DEGREE.false,
      c.total_degree.ensures.same,
      c.total_degree-2.ensures.same,
    )

pub returns-clause-product : goal.returns-clause-product
returns-clause-product c = form_is_multiplied _ _ _ _ _ (held_terms c.self.inside.terms.items c.deref.result.now c.args.self.now c.self.invariant c.self.view_is c.deref.ensures.value) (held_terms c.o.inside.terms.items c.deref-2.result.now c.args.o.now c.o.invariant c.o.view_is c.deref-2.ensures.value) c.in_ok-terms.ensures
