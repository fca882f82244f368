use Rattle.std.proofs.Common.{rules, sym, ap, subst, ◌∙◌, arith, ◌≡◌, ◌≢◌, ◌-◌, ◌/◌, ◌<◌, ◌++◌, length, take, drop, List, length-drop}
use Rattle.std.proofs.lemmas.List.{length-take, take_rest}
use Rattle.std.proofs.lemmas.Bool.{eqb-false}
use Rattle.std.proofs.lemmas.Result.{IfOk-weaker}
use Rattle.git_algebra.specs.Sums.{Sum, product}
use Rattle.git_algebra.specs.Polynomials.{Proper}
use Rattle.git_algebra.specs.Operations.{greatest_degree}
use Rattle.git_poly.specs.declared.term.Term.{Term}
use Rattle.git_poly.specs.Terms.{sum_of, IsForm}
use Rattle.git_poly.proofs.Splitting.{proper-take, proper-drop, greatest_degree-take, greatest_degree-drop, product_of_parts}
use Rattle.git_poly.proofs.terms.+product_by_halves.Goals as goal

pub product_by_halves-requires : goal.product_by_halves-requires
product_by_halves-requires t c =
    let some : length c.args.a.now ≢ 0 = λ e. absurd (eqb-false _ _ (sym c.is_empty.ensures ∙ c.if-is_empty.false) e) in
    let shorter : length (take (length c.args.a.now / 2) c.args.a.now) < length c.args.a.now = omega (arith, length-take (length c.args.a.now / 2) c.args.a.now, some, c.if-a-eq1.false) in (
      search rules,
      (
        proper-take c.args.a.now (length c.args.a.now / 2) c.requires.left,
        (c.requires.right, omega (arith, greatest_degree-take c.args.a.now (length c.args.a.now / 2), c.requires.degrees)),
      ),
    )

pub product_by_halves-requires-2 : goal.product_by_halves-requires-2
product_by_halves-requires-2 t c =
    let rest : take (length c.args.a.now - length c.args.a.now / 2) (drop (length c.args.a.now / 2) c.args.a.now) ≡ drop (length c.args.a.now / 2) c.args.a.now = take_rest c.args.a.now (length c.args.a.now / 2) in
    let some : length c.args.a.now ≢ 0 = λ e. absurd (eqb-false _ _ (sym c.is_empty.ensures ∙ c.if-is_empty.false) e) in
    let shorter : length (take (length c.args.a.now - length c.args.a.now / 2) (drop (length c.args.a.now / 2) c.args.a.now)) < length c.args.a.now =
    omega (arith, ap (λ (ts : List Term). length ts) rest, length-drop (length c.args.a.now / 2) c.args.a.now, some, c.if-a-eq1.false) in (
      search rules,
      (
        subst (λ (ts : List Term). Proper (sum_of ts)) (sym rest) (proper-drop c.args.a.now (length c.args.a.now / 2) c.requires.left),
        (
          c.requires.right,
          omega (arith, greatest_degree-drop c.args.a.now (length c.args.a.now / 2), ap (λ (ts : List Term). greatest_degree (sum_of ts)) rest, c.requires.degrees),
        ),
      ),
    )

pub returns : goal.returns
returns t c =
    let half = length c.args.a.now / 2 in
    let front = ap sum_of c.deref.ensures.value in
    let back = ap sum_of c.deref-2.ensures.value in
    let rest = take_rest c.args.a.now (length c.args.a.now / 2) in
    IfOk-weaker c.merged.result _ _
    (λ v h. product_of_parts c.args.a.now (length c.args.a.now / 2) (sum_of c.args.b.now) (sum_of c.in_ok-front.front.items) (sum_of c.in_ok-back.back.items) (sum_of v.items)
    c.in_ok-front.ensures
    (subst (λ (ts : List Term). IsForm (sum_of c.in_ok-back.back.items) (product (sum_of ts) (sum_of c.args.b.now))) rest c.in_ok-back.ensures)
    (subst (λ (s : Sum). IsForm (sum_of v.items) s) (λ i. front i ++ back i) h))
    c.merged.ensures
