use Rattle.std.proofs.Common.{◌∙◌}
use Rattle.std.specs.Slots.{slots_items}
use Rattle.git_table.proofs.Listings.{cut_is}
use Rattle.git_table.proofs.ends.sig_at.Goals as goal

pub returns : goal.returns
returns c =
    let w = c.words_at.ensures in
    c.of_words.ensures ∙ cut_is (slots_items c.args.closed.now.words) c.words_at.result.items c.args.start c.args.width w.0 w.1
