use Rattle.std.proofs.Common.{◌≡◌, ◌≢◌, ℕ, ◌+◌, ◌*◌, ◌<◌, ◌/◌, ◌^◌, refl, sym, ◌∙◌, arith, slice_index}
use Rattle.std.specs.Int.{bit_at}
use Rattle.std.proofs.lemmas.Nat.Bits.{bit_at-lt, shr_and_one}
use lib.Bits.{bit_and}
use Rattle.git_machine.specs.Signatures.{Signature}
use Rattle.git_machine.proofs.Words.{level, IsFirstOf, is_first, goes_before, goes_after}
use Rattle.git_machine.proofs.comparing.compare.Goals as goal

module _ (a b : Signature) (i k x y : ℕ) (p : x ≡ slice_index a i) (q : y ≡ slice_index b i) (low : k < 64) (words : (j : ℕ) → j < i → slice_index a j ≡ slice_index b j) (bits : (j : ℕ) → j < k → bit_at x j ≡ bit_at y j) (apart : bit_at x k + bit_at y k ≡ 1) where
  a_has : bit_and (x / 2 ^ k) 1 ≡ 1 → IsFirstOf a b (64 * i + k)
  a_has is = let mine : bit_at x k ≡ 1 = sym (shr_and_one x k) ∙ is in is_first a b i k x y p q low words bits mine (omega arith)

  b_has : (bit_and (x / 2 ^ k) 1 ≢ 1) → IsFirstOf b a (64 * i + k)
  b_has is_not =
      let other : bit_at x k ≢ 1 = λ is. is_not (shr_and_one x k ∙ is) in
      let small = bit_at-lt x k in
      is_first b a i k y x q p low (λ j below. sym (words j below)) (λ j below. sym (bits j below)) (omega arith) (omega arith)

pub returns-in_default : goal.returns-in_default
returns-in_default c = c.cmp.ensures ∙ sym (level c.args.a.now c.args.b.now (c.in_default.ensures.none refl))

pub returns-then-has_above : goal.returns-then-has_above
returns-then-has_above c =
    let d = c.lowest_difference-bit.ensures in
    let first = a_has c.args.a.now c.args.b.now c.in-Some.i c.lowest_difference-bit.result c.word_at-x.result c.word_at.result c.word_at-x.ensures c.word_at.ensures d.bound c.in-Some.ensures.same d.same d.apart c.if-x-bit-eq1.true in
    sym (goes_before _ _ _ first (c.has_above.ensures.0 c.if-has_above.true)).0

pub returns-else-has_above : goal.returns-else-has_above
returns-else-has_above c =
    let d = c.lowest_difference-bit.ensures in
    let first = a_has c.args.a.now c.args.b.now c.in-Some.i c.lowest_difference-bit.result c.word_at-x.result c.word_at.result c.word_at-x.ensures c.word_at.ensures d.bound c.in-Some.ensures.same d.same d.apart c.if-x-bit-eq1.true in
    sym (goes_after _ _ _ first (λ later. let bad = sym c.if-has_above.false ∙ c.has_above.ensures.1 later in cc)).0

pub returns-then-has_above-2 : goal.returns-then-has_above-2
returns-then-has_above-2 c =
    let d = c.lowest_difference-bit.ensures in
    let first = b_has c.args.a.now c.args.b.now c.in-Some.i c.lowest_difference-bit.result c.word_at-x.result c.word_at.result c.word_at-x.ensures c.word_at.ensures d.bound c.in-Some.ensures.same d.same d.apart c.if-x-bit-eq1.false in
    sym (goes_before _ _ _ first (c.has_above-else-x-bit-eq1.ensures.0 c.if-has_above-2.true)).1

pub returns-else-has_above-2 : goal.returns-else-has_above-2
returns-else-has_above-2 c =
    let d = c.lowest_difference-bit.ensures in
    let first = b_has c.args.a.now c.args.b.now c.in-Some.i c.lowest_difference-bit.result c.word_at-x.result c.word_at.result c.word_at-x.ensures c.word_at.ensures d.bound c.in-Some.ensures.same d.same d.apart c.if-x-bit-eq1.false in
    sym (goes_after _ _ _ first (λ later. let bad = sym c.if-has_above-2.false ∙ c.has_above-else-x-bit-eq1.ensures.1 later in cc)).1
