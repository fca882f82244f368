use Rattle.std.proofs.Common.{◌≡◌, List, sym, ◌∙◌, subst, arith, inl, inr, refl}
use Rattle.std.specs.Prelude.{pos}
use Rattle.std.proofs.lemmas.List.{take_all}
use Rattle.git_defs.specs.Vectors.{Vector, dot}
use Rattle.git_lemmas.specs.Members.{Member}
use Rattle.git_lemmas.proofs.Members.{as_member, contained}
use Rattle.git_stages.proofs.Fronts.{member_more, member_at}
use Rattle.git_allcones.proofs.meeting.is_level_on.Goals as goal

pub loop-v-init : goal.loop-v-init
loop-v-init c = λ v m. absurd m

pub loop-v-preserved : goal.loop-v-preserved
loop-v-preserved c = λ v m. elim (member_more c.args.vs.now c.loop-v.v-index c.v-item.result v (omega arith) m) [
  | inl l ↦ c.loop-v.invariant v l
  | inr e ↦ subst (λ (u : Vector). dot c.args.normal.now u ≡ pos 0) (c.v-item.is ∙ e) (c.is_level.ensures.0 c.if-not-is_level.false)
]

pub returns-then-not-is_level : goal.returns-then-not-is_level
returns-then-not-is_level c = (
  λ f. absurd (cc f),
  λ f. sym c.if-not-is_level.true ∙ c.is_level.ensures.1 (f c.v-item.result
      (contained c.args.vs.now (subst (λ (u : Vector). Member u c.args.vs.now) (sym c.v-item.is) (member_at c.args.vs.now c.loop-v.v-index c.v-item.result (omega arith))))),
)

pub returns : goal.returns
returns c = (
  λ f v m. (subst (λ (u : List Vector). (v : Vector) → Member v u → dot c.args.normal.now v ≡ pos 0)
      (take_all c.loop-v.v-index c.args.vs.now c.loop-v-test.false) c.loop-v.invariant) v (as_member c.args.vs.now m),
  λ f. refl,
)
