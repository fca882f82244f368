use Rattle.std.proofs.Common.{refl}
use Rattle.git_words.specs.Words.{words_of}
use Rattle.git_words.proofs.Sets.{faces_adds, not_only_steps}
use Rattle.git_words.proofs.reading.read_faces.Goals as goal

pub returns-in_err-options-clause-none : goal.returns-in_err-options-clause-none
returns-in_err-options-clause-none c = λ q steps h.
    let k = faces_adds (words_of c.args.words.now) steps h in c.in_err-options.ensures.none refl k.0 k.1

pub returns-then-sets_more-clause-none : goal.returns-then-sets_more-clause-none
returns-then-sets_more-clause-none c = λ q steps h. not_only_steps (words_of c.args.words.now) c.in_ok-options.options c.if-sets_more.ensures c.in_ok-options.ensures.some steps h
