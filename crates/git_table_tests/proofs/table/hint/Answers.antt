use Rattle.std.proofs.Common.{subst}
use Rattle.git_table.specs.Calls.{HintTells}
use Rattle.git_table_tests.proofs.Spokes.{hint_read}
use Rattle.git_table_tests.proofs.table.hint.Goals as goal

pub returns-in-Work : goal.returns-in-Work
returns-in-Work c = hint_read c.args.frontier.now c.args.caller.now.seat c.take_hint.new.seat c.read.new.seat c.in-Work.id c.read.new.out c.requires.0.of c.requires.0.place c.read.ensures.seen c.args.id (subst (HintTells c.args.frontier.now c.args.caller.now.seat c.take_hint.new.seat c.args.id) c.in-Work.is c.take_hint.ensures)
