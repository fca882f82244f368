use Rattle.std.proofs.Common.{subst}
use Rattle.git_table.specs.Calls.{TakeTells}
use Rattle.git_table_tests.proofs.Spokes.{take_read}
use Rattle.git_table_tests.proofs.table.take.Goals as goal

pub returns-in-Work : goal.returns-in-Work
returns-in-Work c = take_read c.args.frontier.now c.args.caller.now.seat c.take.new.seat c.read.new.seat c.in-Work.id c.read.new.out c.requires.of c.requires.place c.read.ensures.seen (subst (TakeTells c.args.frontier.now c.args.caller.now.seat c.take.new.seat) c.in-Work.is c.take.ensures)
