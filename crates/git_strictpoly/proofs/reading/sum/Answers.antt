use Rattle.std.proofs.Common.{rules, ◌≡◌, true}
use Rattle.std.specs.Prelude.{codes}
use Rattle.std.specs.Str.{bytes_eq}
use Rattle.git_strictpoly.proofs.Loop.{sum_zero}
use Rattle.git_strictpoly.proofs.reading.sum.Goals as goal

pub returns-then-eq : goal.returns-then-eq
returns-then-eq c =
    let same : bytes_eq c.args.bytes.now (codes "0") ≡ true = search rules in
    sum_zero c.args.r c.args.bytes.now c.zero.result same c.zero.ensures
