use Rattle.std.proofs.Common.{refl}
use Rattle.git_words.specs.Words.{words_of}
use Rattle.git_words.proofs.Sets.{fan_adds}
use Rattle.git_words.proofs.reading.read_fan.Goals as goal

pub returns-in_err-options-clause-none : goal.returns-in_err-options-clause-none
returns-in_err-options-clause-none c = λ q workers table steps certs h.
    let k = fan_adds (words_of c.args.words.now) workers table steps certs h in c.in_err-options.ensures.none refl k.0 k.1
