use Rattle.std.proofs.Common.{refl, arith}
use Rattle.git_words.proofs.Numbers.{few_digits}
use Rattle.git_words.proofs.reading.seed_of.Goals as goal

pub returns-in_err-seed-clause-none : goal.returns-in_err-seed-clause-none
returns-in_err-seed-clause-none c = λ q n h. c.in_err-seed.ensures.none refl n (record { number = h; enough = omega arith; few = few_digits c.args.word.now n h })
