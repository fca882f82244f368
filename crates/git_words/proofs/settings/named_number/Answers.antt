use Rattle.std.proofs.Common.{refl}
use Rattle.git_words.specs.Words.{words_of}
use Rattle.git_words.proofs.OneSetting.{no_number}
use Rattle.git_words.proofs.settings.named_number.Goals as goal

pub returns-in_err-word-clause-none : goal.returns-in_err-word-clause-none
returns-in_err-word-clause-none c = λ q n rest h. c.in_err-word.ensures.none refl h.word rest h.names

pub returns-in_err-number_in-clause-none : goal.returns-in_err-number_in-clause-none
returns-in_err-number_in-clause-none c = λ q n rest h.
    no_number c.args.name.now c.args.most c.in_ok-word.word.now (words_of c.args.words.now) (words_of c.in_ok-word.rest.now) c.in_ok-word.ensures.some (c.in_err-number_in.ensures.none refl) n rest h
