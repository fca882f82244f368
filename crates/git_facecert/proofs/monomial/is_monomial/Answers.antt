use Rattle.std.proofs.Common.{rules, ◌≡◌, sym, ap, ◌∙◌}
use Rattle.git_algebra.specs.Operations.{minus}
use Rattle.git_ideals.specs.Ideals.{monomial}
use Rattle.git_facecert.proofs.Combinations.{zero_difference}
use Rattle.git_facecert.proofs.monomial.is_monomial.Goals as goal

pub returns : goal.returns
returns c =
    let wanted : c.in_ok-wanted.wanted ≡ monomial c.args.m = search rules in
    let less : c.in_ok-sub.field-0 ≡ minus c.args.p.now (monomial c.args.m) = c.in_ok-sub.ensures ∙ ap (minus c.args.p.now) wanted in (
      λ w. (zero_difference c.args.p.now (monomial c.args.m)).0 (sym less ∙ c.is_zero-2.ensures.0 w),
      λ e. c.is_zero-2.ensures.1 (less ∙ (zero_difference c.args.p.now (monomial c.args.m)).1 e),
    )
