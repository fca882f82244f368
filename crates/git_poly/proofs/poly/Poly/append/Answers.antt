use Rattle.std.proofs.Common.{sym, ap, ◌∙◌, subst, List, arith}
use Rattle.git_algebra.specs.Polynomials.{Proper, normal}
use Rattle.git_poly.specs.declared.term.Term.{Term}
use Rattle.git_poly.specs.Terms.{sum_of}
use Rattle.git_poly.proofs.Ending.{appended_proper, appended_is, nothing_appended}
use Rattle.git_poly.proofs.poly.Poly.append.Goals as goal

pub invariant_of-self : goal.invariant_of-self
invariant_of-self c = subst (λ (ts : List Term). Proper (sum_of ts)) (sym c.in_ok-push.ensures.items)
    (appended_proper c.self.inside.terms.items c.args.self.now c.args.m c.args.c c.self.invariant c.self.view_is (omega (arith, c.value.ensures.same, c.if-value-gt0.true)) (omega (arith, c.value.ensures.same, c.value.ensures.below)) c.requires)

pub returns-in_ok-push-clause-sum : goal.returns-in_ok-push-clause-sum
returns-in_ok-push-clause-sum c = ap (λ (ts : List Term). normal (sum_of ts)) c.in_ok-push.ensures.items
    ∙ appended_is c.self.inside.terms.items c.args.self.now c.args.m c.args.c c.self.invariant c.self.view_is

pub returns-else-value-gt0-clause-sum : goal.returns-else-value-gt0-clause-sum
returns-else-value-gt0-clause-sum c = nothing_appended c.args.self.now c.args.m c.args.c (omega (arith, c.value.ensures.same, c.if-value-gt0.false))
