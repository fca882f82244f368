use Rattle.std.proofs.Common.{subst}
use Rattle.git_words.specs.declared.commands.Command.TheVariants.{Bunch}
use Rattle.git_answers.specs.Fan.{options}
use Rattle.git_bunch_replies.specs.BunchCases.{bunches_of}
use Rattle.git_replies.specs.Readings.{IsReading}
use Rattle.git_commands.proofs.Replied.{refused_replied, input_answered}
use Rattle.git_commands.proofs.answering.answer_bunches.Goals as goal

pub returns-in-Refused-clause-answers : goal.returns-in-Refused-clause-answers
returns-in-Refused-clause-answers g c =
    refused_replied (Bunch c.args.table c.args.steps) (bunches_of (options c.args.table c.args.steps)) (λ bytes o a. a) (g.S.Source.left c.args.source.now) c.in-Refused.reply (subst (IsReading (g.S.Source.left c.args.source.now)) c.in-Refused.is c.in_ok-reply.ensures.reading)

pub returns-in_ok-bunch_answer-in-Input-clause-answers : goal.returns-in_ok-bunch_answer-in-Input-clause-answers
returns-in_ok-bunch_answer-in-Input-clause-answers g c =
    input_answered (Bunch c.args.table c.args.steps) (bunches_of (options c.args.table c.args.steps)) (λ bytes o a. a) (λ bytes v is. is) (g.S.Source.left c.args.source.now) c.in-Input.input _ _ (subst (IsReading (g.S.Source.left c.args.source.now)) c.in-Input.is c.in_ok-reply.ensures.reading) c.in_ok-bunch_answer-in-Input.ensures
