use Rattle.std.proofs.Common.{◌+◌, List, arith, get_or, inl, inr, refl, subst, sym, take, ℕ}
use Rattle.std.specs.Prelude.{Contains}
use Rattle.std.proofs.lemmas.List.{take_all}
use Rattle.std.proofs.lemmas.List.Elements.{Contains-get_or}
use Rattle.git_bits.specs.Bits.{IsWithin}
use Rattle.git_lemmas.proofs.Members.{as_member, contained}
use Rattle.git_orbit.proofs.Masks.{number_more}
use Rattle.git_bunch.proofs.masks.contains_one.Goals as goal

pub returns-then-n-mask : goal.returns-then-n-mask
returns-then-n-mask c =
    let L = c.args.list.now in let i = c.loop-n.n-index in
    (λ _. (get_or L i 0, Contains-get_or L i 0 (omega arith), c.if-n-mask.true), λ _. refl)

pub loop-n-preserved : goal.loop-n-preserved
loop-n-preserved c = λ m h within.
    let L = c.args.list.now in let i = c.loop-n.n-index in
    elim (number_more L i 0 m (omega arith) (as_member (take (i + 1) L) h)) [
      | inl old ↦ c.loop-n.invariant m (contained (take i L) old) within
      | inr new ↦ c.if-n-mask.false (subst (λ (n : ℕ). IsWithin n c.args.mask) (sym new) within)
    ]

pub returns : goal.returns
returns c = (λ f. absurd (cc f), λ p. absurd (c.loop-n.invariant p.0 (subst (λ (l : List ℕ). Contains l p.0) (sym (take_all c.loop-n.n-index c.args.list.now (omega (arith, c.loop-n-test.false)))) p.1) p.2))
