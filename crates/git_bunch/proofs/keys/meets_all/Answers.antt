use Rattle.std.proofs.Common.{◌≡◌, ℕ, get_or, take, ◌+◌, subst, sym, arith, inl, inr, bit_and}
use Rattle.git_orbit.proofs.Masks.{number_more}
use Rattle.git_bunch.proofs.keys.meets_all.Goals as goal
use Rattle.std.proofs.lemmas.List.Elements.{Contains-get_or}
use Rattle.git_lemmas.proofs.Members.{as_member, contained}

pub returns-then-mask-a-eq0 : goal.returns-then-mask-a-eq0
returns-then-mask-a-eq0 c =
    let A = c.args.along.now in let i = c.loop-a.a-index in
    (λ f. absurd (cc f), λ all. absurd (all (get_or A i 0) (Contains-get_or A i 0 (omega arith)) c.if-mask-a-eq0.true))

pub loop-a-preserved : goal.loop-a-preserved
loop-a-preserved c = λ a m e.
    let A = c.args.along.now in let i = c.loop-a.a-index in
    elim (number_more A i 0 a (omega arith) (as_member (take (i + 1) A) m)) [
      | inl l ↦ c.loop-a.invariant a (contained (take i A) l) e
      | inr q ↦ c.if-mask-a-eq0.false (subst (λ (n : ℕ). bit_and c.args.mask n ≡ 0) (sym q) e)
    ]
