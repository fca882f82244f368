use Rattle.std.proofs.Common.{List, arith, inl, inr, refl, subst, sym, ◌∙◌}
use Rattle.std.proofs.lemmas.List.{take_all}
use Rattle.git_defs.specs.Vectors.{Vector}
use Rattle.git_lemmas.specs.Members.{Member}
use Rattle.git_lemmas.proofs.Members.{contains_member, member_contains}
use Rattle.git_stages.proofs.Fronts.{member_at, member_more}
use Rattle.git_assemble.proofs.matching.has.Goals as goal

pub loop-u-init : goal.loop-u-init
loop-u-init c = λ m. absurd m

pub loop-u-preserved : goal.loop-u-preserved
loop-u-preserved c = λ m. elim (member_more c.args.list.now c.loop-u.u-index c.u-item.result c.args.v.now (omega arith) m) [
  | inl l ↦ c.loop-u.invariant l
  | inr e ↦ absurd (let t = sym (c.is_same.ensures.1 (c.u-item.is ∙ e)) ∙ c.if-is_same.false in cc t)
]

pub returns-then-is_same : goal.returns-then-is_same
returns-then-is_same c = (
  λ t. member_contains c.args.v.now c.args.list.now (subst (λ (u : Vector). Member u c.args.list.now) (sym c.u-item.is ∙ c.is_same.ensures.0 c.if-is_same.true) (member_at c.args.list.now c.loop-u.u-index c.u-item.result (omega arith))),
  λ h. refl,
)

pub returns : goal.returns
returns c = (
  λ t. absurd (cc t),
  λ h. absurd (subst (λ (us : List Vector). Member c.args.v.now us → ⊥) (take_all c.loop-u.u-index c.args.list.now c.loop-u-test.false) c.loop-u.invariant (contains_member c.args.v.now c.args.list.now h)),
)
