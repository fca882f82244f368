use Rattle.std.proofs.Common.{sym, subst, List, ℕ}
use Rattle.git_words.specs.declared.commands.Command.TheVariants.{Bunch}
use Rattle.git_answers.specs.Ends.{over}
use Rattle.git_answers.proofs.Replies.{written}
use Rattle.git_commands.specs.Commands.{reply_of}
use Rattle.git_commands.proofs.calls.bunch_run.Goals as goal

pub returns-in-Ok-clause-answers : goal.returns-in-Ok-clause-answers
returns-in-Ok-clause-answers g c =
    written _ _ _ _ _ c.in-Ok.reply.status c.write_text.result c.deref.result.now
    (subst (λ (b : List ℕ). over (g.S.Source.left c.args.source.now) (reply_of (Bunch c.args.table c.args.steps)) c.in-Ok.reply.status b) (sym c.deref.ensures.value) c.in-Ok.ensures.answers) c.write_text.ensures
