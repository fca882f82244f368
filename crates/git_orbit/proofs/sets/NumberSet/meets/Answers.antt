use Rattle.std.proofs.Common.{◌≡◌, ◌<◌, ◌∙◌, IsTrue, List, ap, arith, false, true, get_or, length, refl, subst, ℕ}
use Rattle.std.proofs.lemmas.List.{get_or_default}
use Rattle.git_bits.specs.Bits.{has_bit}
use Rattle.git_orbit.proofs.NumberSets.{common_number, number_in}
use Rattle.git_orbit.proofs.sets.NumberSet.meets.Goals as goal

pub returns-then-overlap : goal.returns-then-overlap
returns-then-overlap c =
    let i = c.loop-i.i in
    let p = c.overlap.ensures.0 c.if-overlap.true in
    let long = ap (λ (l : List ℕ). length l) c.self.view_is in
    let low : i < length c.args.self.now = omega (arith, long, c.loop-i-test.true, c.min-i-end.ensures, c.len.ensures) in
    let a : c.index.result.now ≡ get_or c.args.self.now i 0 =
    c.index.ensures ∙ ap (λ (l : List ℕ). get_or l i c.index.result.now) c.self.view_is ∙ get_or_default c.args.self.now i c.index.result.now 0 low in
    let b : c.word.result ≡ get_or c.args.sig.now i 0 = c.word.ensures in
    (λ t. common_number c.args.self.now c.args.sig.now i (p.0, p.1, subst (λ (w : ℕ). IsTrue (has_bit w p.0)) a p.2, subst (λ (w : ℕ). IsTrue (has_bit w p.0)) b p.3), λ h. refl)

pub returns : goal.returns
returns c = (
  λ t. absurd (let e : false ≡ true = t in cc e),
  λ p. absurd (c.loop-i.invariant p.0 (let a = number_in c.args.self.now p.0 p.1 in let b = number_in c.args.sig.now p.0 p.2 in
      let long = ap (λ (l : List ℕ). length l) c.self.view_is in omega (arith, a, b, long, c.loop-i-test.false, c.min-i-end.ensures, c.len.ensures, c.width.ensures.count)) p.1 p.2),
)
