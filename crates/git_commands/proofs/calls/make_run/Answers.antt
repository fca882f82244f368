use Rattle.std.proofs.Common.{sym, subst, List, [], ℕ}
use Rattle.git_words.specs.declared.commands.Command.TheVariants.{Make}
use Rattle.git_answers.proofs.Replies.{written}
use Rattle.git_commands.specs.Commands.{reply_of}
use Rattle.git_commands.proofs.calls.make_run.Goals as goal

pub returns-in-Ok : goal.returns-in-Ok
returns-in-Ok g c =
    written _ _ _ _ _ c.in-Ok.reply.status c.write_text.result c.deref.result.now
    (subst (λ (b : List ℕ). reply_of (Make c.args.sample c.args.run) [] c.in-Ok.reply.status b) (sym c.deref.ensures.value) (c.in-Ok.ensures [])) c.write_text.ensures
