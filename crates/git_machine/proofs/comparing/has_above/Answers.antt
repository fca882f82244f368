use Rattle.std.proofs.Common.{inl, inr, refl, arith}
use Rattle.std.proofs.lemmas.Bool.{cases_lt}
use Rattle.std.proofs.lemmas.List.{get_or_past}
use Rattle.git_machine.proofs.Words.{above_in_word, above_in_later, none_above}
use Rattle.git_machine.proofs.comparing.has_above.Goals as goal

pub returns-then-word_at-bit-gt1 : goal.returns-then-word_at-bit-gt1
returns-then-word_at-bit-gt1 c = (
  λ _. above_in_word c.args.words.now c.args.i c.args.bit (c.type_inv.words c.args.i).fits (rw (← c.word_at.ensures) c.if-word_at-bit-gt1.true),
  λ _. refl,
)

pub returns-then-words-j-ne0 : goal.returns-then-words-j-ne0
returns-then-words-j-ne0 c = (
  λ _. above_in_later c.args.words.now c.args.i c.args.bit c.loop-j.j c.requires c.if-j-i.true (c.type_inv.words c.loop-j.j).fits c.if-words-j-ne0.true,
  λ _. refl,
)

pub returns : goal.returns
returns c = (
  λ f. cc,
  λ (n, above, has).
      absurd
      (none_above c.args.words.now c.args.i c.args.bit c.requires (rw (← c.word_at.ensures) c.if-word_at-bit-gt1.false)
      (λ l later. elim (cases_lt l c.loop-j.j) [ inl low ↦ c.loop-j.invariant l later low | inr past ↦ get_or_past c.args.words.now l 0 (omega (arith, c.loop-j-test.false)) ])
      n above has),
)
