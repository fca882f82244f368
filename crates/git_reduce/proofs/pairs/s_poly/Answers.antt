use Rattle.std.proofs.Common.{sym, ap, refl, subst, ◌∙◌, ◌≡◌, ◌<◌, ◌*◌, ◌%◌, ℕ, Option, Err}
use Rattle.std.specs.Prelude.{IfSome}
use Rattle.std.proofs.lemmas.Result.{IfOk-weaker, err_from_is_err_and}
use Rattle.git_algebra.specs.Exponents.{Exponents, lcm, degree}
use Rattle.git_reduce.proofs.Raising.{first_divides, second_divides, is_s_polynomial, too_high, not_too_high, raised_degree}
use Rattle.git_reduce.proofs.pairs.s_poly.Goals as goal

pub returns-in_default-clause-degree : goal.returns-in_default-clause-degree
returns-in_default-clause-degree c = (
  λ e. too_high _ c.args.f.now c.args.g.now c.unwrap-top.result c.unwrap-other.result (sym c.lead.ensures.lead ∙ c.unwrap-top.ensures) (sym c.lead-2.ensures.lead ∙ c.unwrap-other.ensures) (c.in_default.ensures.none.0 refl),
  λ h. refl,
)

pub quotient-requires : goal.quotient-requires
quotient-requires c = first_divides c.in-Some.multiple c.unwrap-top.result.0 c.unwrap-other.result.0 c.in-Some.ensures.some

pub quotient-requires-2 : goal.quotient-requires-2
quotient-requires-2 c = second_divides c.in-Some.multiple c.unwrap-top.result.0 c.unwrap-other.result.0 c.in-Some.ensures.some

pub returns-clause-s_polynomial : goal.returns-clause-s_polynomial
returns-clause-s_polynomial c = IfOk-weaker c.sub_times.result _ _ (λ s e.
    is_s_polynomial c.args.f.now c.args.g.now c.in_ok-first.first s c.unwrap-top.result c.unwrap-other.result c.in-Some.multiple c.quotient.result c.quotient-2.result c.unwrap.result c.unwrap-number.result
    (sym c.lead.ensures.lead ∙ c.unwrap-top.ensures) (sym c.lead-2.ensures.lead ∙ c.unwrap-other.ensures) c.in-Some.ensures.some c.quotient.ensures
    (subst (λ (o : Option ℕ). IfSome o (λ i. (c.unwrap-top.result.1 * i) % 32003 ≡ 1)) c.unwrap.ensures c.inverse.ensures.some) c.quotient-2.ensures
    (subst (λ (o : Option ℕ). IfSome o (λ i. (c.unwrap-other.result.1 * i) % 32003 ≡ 1)) c.unwrap-number.ensures c.inverse-2.ensures.some) c.in_ok-first.ensures.product e)
    c.sub_times.ensures.difference

pub returns-in_err-first-clause-degree : goal.returns-in_err-first-clause-degree
returns-in_err-first-clause-degree c =
    let p = err_from_is_err_and c.from_residual.result c.from_residual.ensures.1 in
    let lead = sym c.lead.ensures.lead ∙ c.unwrap-top.ensures in
    let not_above : 67108864 < degree (lcm c.unwrap-top.result.0 c.unwrap-other.result.0) → ⊥ = λ h. let e = c.in-Some.ensures.none.1 h in absurd cc in (
      λ e. absurd (not_above (subst (λ (m : Exponents). 67108864 < degree m) c.in-Some.ensures.some
          (raised_degree 67108864 c.args.f.now c.unwrap-top.result c.in-Some.multiple c.quotient.result lead (first_divides c.in-Some.multiple c.unwrap-top.result.0 c.unwrap-other.result.0 c.in-Some.ensures.some) c.quotient.ensures
          (c.in_err-first.ensures.degree.0 (ap Err (sym p.2) ∙ sym p.1 ∙ e)).2))),
      λ h. absurd (not_too_high 67108864 c.args.f.now c.args.g.now c.unwrap-top.result c.unwrap-other.result lead (sym c.lead-2.ensures.lead ∙ c.unwrap-other.ensures) not_above h),
    )

pub returns-clause-degree : goal.returns-clause-degree
returns-clause-degree c =
    let other = sym c.lead-2.ensures.lead ∙ c.unwrap-other.ensures in
    let not_above : 67108864 < degree (lcm c.unwrap-top.result.0 c.unwrap-other.result.0) → ⊥ = λ h. let e = c.in-Some.ensures.none.1 h in absurd cc in (
      λ e. absurd (not_above (subst (λ (m : Exponents). 67108864 < degree m) c.in-Some.ensures.some
          (raised_degree 67108864 c.args.g.now c.unwrap-other.result c.in-Some.multiple c.quotient-2.result other (second_divides c.in-Some.multiple c.unwrap-top.result.0 c.unwrap-other.result.0 c.in-Some.ensures.some) c.quotient-2.ensures
          (c.sub_times.ensures.degree.0 e).2))),
      λ h. absurd (not_too_high 67108864 c.args.f.now c.args.g.now c.unwrap-top.result c.unwrap-other.result (sym c.lead.ensures.lead ∙ c.unwrap-top.ensures) other not_above h),
    )
