use Rattle.std.proofs.Common.{◌≡◌, Some, sym, ◌∙◌, eqb-true}
use Rattle.git_algebra.specs.Exponents.{one}
use Rattle.git_algebra.specs.Order.{rank}
use Rattle.git_algebra.specs.Operations.{lead_of}
use Rattle.git_algebra.proofs.Ranks.{rank_injective}
use Rattle.git_facecert.proofs.free.is_member.Goals as goal

pub returns-then-eq : goal.returns-then-eq
returns-then-eq c =
    let unit : c.in-Some.lead.0 ≡ one = rank_injective _ _ (eqb-true (rank c.in-Some.lead.0) (rank c.one.result) (sym c.if-eq.ensures)) ∙ c.one.ensures in
    let lead : lead_of c.args.g.now ≡ Some c.in-Some.lead = sym c.lead.ensures.lead ∙ c.in-Some.is in (
      λ w. absurd cc,
      λ is. absurd (is.no_unit c.in-Some.lead.1 (lead ∙ (λ t. Some (unit t, c.in-Some.lead.1)))),
    )
