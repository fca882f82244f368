use Rattle.std.proofs.Common.{◌≡◌, inl, inr, ℕ, sym, ◌∙◌, subst, arith, ap, get_or}
use Rattle.std.specs.List.{Contains}
use Rattle.std.proofs.lemmas.Bool.{cases_lt}
use Rattle.git_machine.specs.Signatures.{Signature}
use Rattle.git_machine.proofs.Written.{same_read}
use Rattle.git_machine.proofs.lists.contains_all.Goals as goal

pub returns-then-not-contains : goal.returns-then-not-contains
returns-then-not-contains c = (
  λ f. cc,
  λ all.
      let x : Signature = c.x-item.result in
      let has : Contains c.args.sigs.now x = subst (Contains c.args.sigs.now) (sym c.x-item.is) (all c.loop-x.x-index x c.loop-x-test.true) in
      sym c.if-not-contains.true ∙ c.contains.ensures.1 has,
)

pub loop-x-preserved : goal.loop-x-preserved
loop-x-preserved c = λ k d low. elim (cases_lt k c.loop-x.x-index) [
  | inl before ↦ c.loop-x.invariant k d before
  | inr at ↦
      let x : Signature = c.x-item.result in
      let e : k ≡ c.loop-x.x-index = omega arith in
      let read : get_or c.args.xs.now k d ≡ x = ap (λ (m : ℕ). get_or c.args.xs.now m d) e ∙ (same_read c.args.xs.now c.loop-x.x-index d x c.loop-x-test.true ∙ sym c.x-item.is) in
      subst (Contains c.args.sigs.now) (sym read) (c.contains.ensures.0 c.if-not-contains.false)
]
