use Rattle.std.proofs.Common.{refl, ◌≡◌, ◌-◌, ◌++◌, ◌∷◌, [], false, length, take}
use Rattle.std.specs.Prelude.{codes}
use Rattle.git_words.specs.Words.{words_of}
use Rattle.git_words.proofs.Samples.{no_run, make_plain, last_word}
use Rattle.git_words.proofs.reading.read_make.Goals as goal

pub returns-in_err-read_sample-in-text-clause-none : goal.returns-in_err-read_sample-in-text-clause-none
returns-in_err-read_sample-in-text-clause-none c = λ q sample run h.
    let e : words_of c.args.words.now ≡ words_of (take (length c.args.words.now - 1) c.args.words.now) ++ codes "--run" ∷ [] = last_word c.args.words.now _ (codes "--run") c.in-text.len_at_least c.in-text.is-text in
    no_run (words_of c.args.words.now) (words_of (take (length c.args.words.now - 1) c.args.words.now)) e (c.in_err-read_sample-in-text.ensures.none refl) sample run h

pub returns-in_ok-read_sample-in_default-clause-some : goal.returns-in_ok-read_sample-in_default-clause-some
returns-in_ok-read_sample-in_default-clause-some c =
    (c.in_ok-read_sample-in_default.field-0, false, refl, make_plain (words_of c.args.words.now) c.in_ok-read_sample-in_default.field-0 c.in_ok-read_sample-in_default.ensures.some)
