use Rattle.std.proofs.Common.{refl}
use Rattle.git_words.specs.Words.{words_of}
use Rattle.git_words.proofs.Sets.{question_adds, not_for_fan}
use Rattle.git_words.proofs.reading.read_question.Goals as goal

pub returns-in_err-options-clause-none : goal.returns-in_err-options-clause-none
returns-in_err-options-clause-none c = λ q table steps h.
    let k = question_adds (words_of c.args.words.now) table steps h in c.in_err-options.ensures.none refl k.0 k.1

pub returns-then-sets_for_fan-clause-none : goal.returns-then-sets_for_fan-clause-none
returns-then-sets_for_fan-clause-none c = λ q table steps h. not_for_fan (words_of c.args.words.now) c.in_ok-options.options c.if-sets_for_fan.ensures c.in_ok-options.ensures.some table steps h
