use Rattle.std.proofs.Common.{◌≡◌, ◌∙◌, ℕ, suc, ◌+◌, ◌*◌, ◌≤◌, List, ◌++◌, map, refl, sym, ap, subst, arith, append_assoc}
use Rattle.std.specs.Prelude.{Bool, true, false, length}
use Rattle.std.specs.List.{filter, range_with_len}
use Rattle.std.specs.Fmt.{decimal}
use Rattle.std.specs.String.{string_bytes}
use Rattle.git_lines.specs.Printing.{after_spaces}
use Rattle.git_machine.specs.Signatures.{numbers_of, has_number}
use Rattle.git_replies.proofs.NumberWords.{not_wanted, word_written, word_skipped, none_written, all_written}
use Rattle.git_replies.proofs.lines.push_numbers.Goals as goal
use Rattle.git_replies.proofs.lines.push_numbers.Goals.{then-has+in_ok-write, else-has}

pub loop-n-init : goal.loop-n-init
loop-n-init c = none_written (has_number c.args.sig.now) (string_bytes c.args.out.now)

pub loop-n-preserved : goal.loop-n-preserved
loop-n-preserved c = elim c.if-has.branch [
  | then-has+in_ok-write w ↦ ap string_bytes w.out-is ∙ word_written (has_number c.args.sig.now) c.loop-n.n-counter _ _ _ (c.has.ensures.0 w.if-has.true) c.loop-n.invariant w.in_ok-write.ensures.bytes
  | else-has w ↦ ap string_bytes w.out-is ∙ word_skipped (has_number c.args.sig.now) c.loop-n.n-counter _ _ (not_wanted (has_number c.args.sig.now c.loop-n.n-counter) c.has.result c.has.ensures.1 w.if-has.false) c.loop-n.invariant
]

pub returns : goal.returns
returns c = all_written c.args.sig.now c.loop-n.n-counter _ _ (omega (arith, c.loop-n-test.false, c.loop-n.auto.n-counter-end, c.width.ensures.count)) c.loop-n.invariant
