use Rattle.std.proofs.Common.{append_assoc}
use Rattle.git_lines.proofs.SpacedLemmas.{after_spaces-append}
use Rattle.git_replies.specs.Lines.{number_words, at_words}
use Rattle.git_replies.proofs.lines.wide_chamber_line.Goals as goal

pub returns-clause-text : goal.returns-clause-text
returns-clause-text c =
    rw (after_spaces-append (number_words c.args.sig.now) (at_words c.args.at.now), c.into_bytes.ensures.value, c.in_ok-push_str-2.ensures.bytes, c.in_ok-push_at.ensures, c.in_ok-push_numbers.ensures, c.in_ok-push_str.ensures.bytes, c.new-text.ensures.bytes) (simp append_assoc)
