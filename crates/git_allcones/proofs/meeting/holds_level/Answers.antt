use Rattle.std.proofs.Common.{List, sym, ◌∙◌, subst, arith, inl, inr, refl}
use Rattle.std.proofs.lemmas.List.{take_all}
use Rattle.git_defs.specs.Cones.{Cut}
use Rattle.git_defs.specs.Vectors.{Vector}
use Rattle.git_lemmas.specs.Members.{Member}
use Rattle.git_lemmas.proofs.Members.{as_member, contained}
use Rattle.git_stages.proofs.Fronts.{member_more, member_at}
use Rattle.git_allcones.specs.Meets.{IsLevelOn}
use Rattle.git_allcones.proofs.meeting.holds_level.Goals as goal

pub loop-r-init : goal.loop-r-init
loop-r-init c = λ r m. absurd m

pub loop-r-preserved : goal.loop-r-preserved
loop-r-preserved c = λ r m. elim (member_more c.args.rays.now c.loop-r.r-index c.r-item.result r (omega arith) m) [
  | inl l ↦ c.loop-r.invariant r l
  | inr e ↦ subst (λ (u : Vector). IsLevelOn u c.args.normals.now → Cut c.args.k c.args.facets.now u) (c.r-item.is ∙ e)
      (c.is_held_where_level.ensures.0 c.if-not-is_held_where_level.false)
]

pub returns-then-not-is_held_where_level : goal.returns-then-not-is_held_where_level
returns-then-not-is_held_where_level c = (
  λ f. absurd (cc f),
  λ f. sym c.if-not-is_held_where_level.true ∙ c.is_held_where_level.ensures.1
      (f c.r-item.result (contained c.args.rays.now (subst (λ (u : Vector). Member u c.args.rays.now) (sym c.r-item.is)
      (member_at c.args.rays.now c.loop-r.r-index c.r-item.result (omega arith))))),
)

pub returns : goal.returns
returns c = (
  λ f r m. (subst (λ (u : List Vector). (r : Vector) → Member r u → IsLevelOn r c.args.normals.now → Cut c.args.k c.args.facets.now r)
      (take_all c.loop-r.r-index c.args.rays.now c.loop-r-test.false) c.loop-r.invariant) r (as_member c.args.rays.now m),
  λ f. refl,
)
