use Rattle.std.proofs.Common.{ap, subst, Err, List, ℕ}
use Rattle.git_weighted.specs.Readings.{IsWhole}
use Rattle.git_weighted.proofs.WeightedTexts.{long_refused}
use Rattle.git_weighted.proofs.reading.read.Goals as goal

pub returns-in_ok-read_weighted-in-Ok-clause-reading : goal.returns-in_ok-read_weighted-in-Ok-clause-reading
returns-in_ok-read_weighted-in-Ok-clause-reading g c =
    (c.in-Ok.bytes.items, c.in-Ok.ensures.exact, subst (λ (bs : List ℕ). IsWhole bs c.in_ok-read_weighted-in-Ok.field-0) c.deref.ensures.value c.in_ok-read_weighted-in-Ok.ensures.whole)

pub returns-in_ok-long_refusal-in-Err-TooLong-clause-reading : goal.returns-in_ok-long_refusal-in-Err-TooLong-clause-reading
returns-in_ok-long_refusal-in-Err-TooLong-clause-reading g c =
    long_refused (g.S.Source.left c.args.source.now) c.in_ok-long_refusal-in-Err-TooLong.field-0 (c.in-Err-TooLong.ensures.long (ap Err c.in-Err-TooLong.field-0-is)) c.in_ok-long_refusal-in-Err-TooLong.ensures.0 c.in_ok-long_refusal-in-Err-TooLong.ensures.1
