use Rattle.std.proofs.Common.{rules, sym, ◌∙◌, arith, ◌-◌, ◌≡◌, inl, inr}
use Rattle.std.specs.Ordering.{nat_cmp}
use Rattle.std.proofs.lemmas.Bool.{cases_eq}
use Rattle.git_algebra.specs.Exponents.{exponent, degree}
use Rattle.git_algebra.proofs.Monomials.{exponent_past}
use Rattle.git_mono.proofs.Comparing.{compared_by_degree, compared_by_place, compared_same, apart_from_is_ne, same_from_is_ne}
use Rattle.git_mono.proofs.order.DegRevLexMonomialOrder.compare.Goals as goal

pub returns-then-is_ne : goal.returns-then-is_ne
returns-then-is_ne c =
    let e : c.cmp-by_degree.result ≡ nat_cmp (degree c.args.a.now) (degree c.args.b.now) = search rules in
    e ∙ compared_by_degree c.args.a.now c.args.b.now (apart_from_is_ne _ _ c.cmp-by_degree.result e (search rules))

pub loop-i-init : goal.loop-i-init
loop-i-init c = record {
  within = omega arith;
  same = λ k h. exponent_past c.args.a.now k h ∙ sym (exponent_past c.args.b.now k h);
}

pub loop-i-preserved : goal.loop-i-preserved
loop-i-preserved c = record {
  within = omega (arith, c.loop-i.invariant.within);
  same = λ k h. elim (cases_eq k (c.loop-i.i - 1)) [
    | inl here ↦ rw here (sym c.exponent-x.ensures ∙ c.if-x-y.false ∙ c.exponent-y.ensures)
    | inr there ↦ c.loop-i.invariant.same k (omega arith)
  ];
}

pub returns-then-x-y : goal.returns-then-x-y
returns-then-x-y c =
    let e : c.cmp-by_degree.result ≡ nat_cmp (degree c.args.a.now) (degree c.args.b.now) = search rules in
    let same : degree c.args.a.now ≡ degree c.args.b.now = same_from_is_ne _ _ c.cmp-by_degree.result e (search rules) in
    let turned : c.cmp.result ≡ nat_cmp (exponent c.args.b.now (c.loop-i.i - 1)) (exponent c.args.a.now (c.loop-i.i - 1)) = search rules in
    turned
    ∙ compared_by_place c.args.a.now c.args.b.now same (c.loop-i.i - 1) (λ k h. c.loop-i.invariant.same k (omega arith)) (λ h. c.if-x-y.true (c.exponent-x.ensures ∙ h ∙ sym c.exponent-y.ensures))

pub returns : goal.returns
returns c = compared_same c.args.a.now c.args.b.now (λ k. c.loop-i.invariant.same k (omega arith))
