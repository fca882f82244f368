use Rattle.std.proofs.Common.{ap, sym, ◌∙◌, arith, inl, inr}
use Rattle.git_algebra.specs.Operations.{greatest_degree}
use Rattle.git_poly.proofs.TermLists.{held_terms}
use Rattle.git_poly.proofs.Ending.{form_is_sub_times, nothing_less, negative, negative_some}
use Rattle.git_poly.proofs.poly.Poly.sub_times.Goals as goal
use Rattle.git_poly.proofs.poly.Poly.sub_times.Goals.{then-value-eq0-via-then-value-eq0, then-value-eq0-via-else-value-eq0+then-is_zero}

pub returns-then-value-eq0-clause-difference : goal.returns-then-value-eq0-clause-difference
returns-then-value-eq0-clause-difference c =
    c.in_ok-copy.ensures ∙ nothing_less c.args.self.now c.args.g.now c.args.m.now c.args.c (elim c.then-value-eq0.branch [
      | then-value-eq0-via-then-value-eq0 w ↦ inl (sym c.value.ensures.same ∙ w.if-value-eq0.true)
      | then-value-eq0-via-else-value-eq0+then-is_zero w ↦ inr (w.is_zero.ensures.0 w.if-is_zero.true)
    ])

pub merged_with_multiple-requires-clause-some : goal.merged_with_multiple-requires-clause-some
merged_with_multiple-requires-clause-some c = negative_some c.args.c c.neg.result c.neg.ensures (omega arith) (λ none. c.if-value-eq0.false (c.value.ensures.same ∙ none))

pub merged_with_multiple-requires-clause-degrees : goal.merged_with_multiple-requires-clause-degrees
merged_with_multiple-requires-clause-degrees c =
    omega (arith, ap greatest_degree (held_terms c.g.inside.terms.items c.deref-2.result.now c.args.g.now c.g.invariant c.g.view_is c.deref-2.ensures.value), c.if-degree-total_degree-gt-MONO_DEGREE.false, c.degree.ensures.same, c.total_degree.ensures.same)

pub returns-clause-difference : goal.returns-clause-difference
returns-clause-difference c =
    form_is_sub_times _ _ _ c.args.self.now c.args.g.now c.args.m.now c.args.c c.neg.result
    (held_terms c.self.inside.terms.items c.deref.result.now c.args.self.now c.self.invariant c.self.view_is c.deref.ensures.value)
    (held_terms c.g.inside.terms.items c.deref-2.result.now c.args.g.now c.g.invariant c.g.view_is c.deref-2.ensures.value)
    (negative c.args.c c.neg.result c.neg.ensures (omega arith))
    c.in_ok-terms.ensures
