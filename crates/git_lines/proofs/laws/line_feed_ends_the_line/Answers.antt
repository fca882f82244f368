use Rattle.git_lines.proofs.LineLemmas.{with_feed}
use Rattle.git_lines.proofs.laws.line_feed_ends_the_line.Goals as goal

pub returns : goal.returns
returns c = with_feed
