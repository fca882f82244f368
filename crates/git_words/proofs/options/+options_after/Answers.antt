use Rattle.std.proofs.Common.{rules, arith, refl, length, ◌<◌}
use Rattle.std.proofs.lemmas.Bool.Decides.{nat_tests}
use Rattle.git_words.specs.Words.{words_of}
use Rattle.git_words.proofs.OneSetting.{shorter, some_words}
use Rattle.git_words.proofs.Sets.{sets_nothing, twice, adds_found, adds_rest}
use Rattle.git_words.proofs.options.+options_after.Goals as goal

pub returns-in_err-setting-clause-none : goal.returns-in_err-setting-clause-none
returns-in_err-setting-clause-none t c = λ q after h.
    sets_nothing c.args.options after (words_of c.args.words.now) (some_words c.args.words.now (λ z. grind (arith, nat_tests))) (c.in_err-setting.ensures.none refl) h

pub returns-in_err-with-clause-none : goal.returns-in_err-with-clause-none
returns-in_err-with-clause-none t c = λ q after h.
    twice c.args.options after c.in_ok-setting.setting (words_of c.args.words.now) (words_of c.in_ok-setting.rest.now) c.in_ok-setting.ensures.some (c.in_err-with.ensures.none refl) h

pub options_after-requires : goal.options_after-requires
options_after-requires t c =
    let k : length c.in_ok-setting.rest.now < length c.args.words.now = shorter c.in_ok-setting.setting c.args.words.now c.in_ok-setting.rest.now c.in_ok-setting.ensures.some in search rules

pub returns-clause-some : goal.returns-clause-some
returns-clause-some t c =
    adds_found c.args.options c.in_ok-with.field-0 c.in_ok-setting.setting (words_of c.args.words.now) (words_of c.in_ok-setting.rest.now) c.in_ok-setting.ensures.some c.in_ok-with.ensures.some c.options_after.result c.options_after.ensures.some

pub returns-clause-none : goal.returns-clause-none
returns-clause-none t c = λ q after h.
    c.options_after.ensures.none q after (adds_rest c.args.options c.in_ok-with.field-0 after c.in_ok-setting.setting (words_of c.args.words.now) (words_of c.in_ok-setting.rest.now) c.in_ok-setting.ensures.some c.in_ok-with.ensures.some h)
