use Rattle.std.proofs.Common.{sym, ◌∙◌, arith}
use Rattle.git_checktext.proofs.LineCounts.{ended_count, no_lines, open_count, some_bytes}
use Rattle.git_checktext.proofs.counting.count_lines.Goals as goal
use Rattle.git_checktext.proofs.counting.count_lines.Goals.{then-is_empty-via-then-is_empty, then-is_empty-via-else-is_empty+then-bytes-eq10}

pub returns-then-is_empty-clause-lines : goal.returns-then-is_empty-clause-lines
returns-then-is_empty-clause-lines c = elim c.then-is_empty.branch [
  | then-is_empty-via-then-is_empty w ↦ c.count_feeds-feeds.ensures ∙ sym (no_lines c.args.bytes.now (sym c.is_empty.ensures ∙ w.if-is_empty.true))
  | then-is_empty-via-else-is_empty+then-bytes-eq10 w ↦
      c.count_feeds-feeds.ensures ∙ sym (ended_count c.args.bytes.now (some_bytes c.args.bytes.now (sym c.is_empty.ensures ∙ w.if-is_empty.false)) w.if-bytes-eq10.true)
]

pub returns-clause-lines : goal.returns-clause-lines
returns-clause-lines c =
    let all = open_count c.args.bytes.now (some_bytes c.args.bytes.now (sym c.is_empty.ensures ∙ c.if-is_empty.false)) c.if-bytes-eq10.false in
    omega (arith, all, c.count_feeds-feeds.ensures)
