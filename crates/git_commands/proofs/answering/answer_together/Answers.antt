use Rattle.std.proofs.Common.{subst}
use Rattle.git_words.specs.declared.commands.Command.TheVariants.{Fan}
use Rattle.git_answers.specs.declared.output.Output.{Output}
use Rattle.git_answers.specs.Ends.{spelled}
use Rattle.git_answers.specs.Fan.{fan_of, options}
use Rattle.git_replies.specs.Readings.{IsReading}
use Rattle.git_commands.specs.Commands.{output_of}
use Rattle.git_commands.proofs.Replied.{refused_replied, input_answered}
use Rattle.git_commands.proofs.answering.answer_together.Goals as goal

pub returns-in-Refused-clause-answers : goal.returns-in-Refused-clause-answers
returns-in-Refused-clause-answers g c =
    refused_replied (Fan c.args.workers c.args.table c.args.steps c.args.certs) (fan_of (options c.args.table c.args.steps) (output_of c.args.certs)) (λ bytes o a. a) (g.S.Source.left c.args.source.now) c.in-Refused.reply (subst (IsReading (g.S.Source.left c.args.source.now)) c.in-Refused.is c.in_ok-reply.ensures.reading)

pub returns-in_ok-fan_together-in-Input-clause-answers : goal.returns-in_ok-fan_together-in-Input-clause-answers
returns-in_ok-fan_together-in-Input-clause-answers g c =
    input_answered (Fan c.args.workers c.args.table c.args.steps c.args.certs) (fan_of (options c.args.table c.args.steps) (output_of c.args.certs)) (λ bytes o a. a) (λ bytes v is. is) (g.S.Source.left c.args.source.now) c.in-Input.input c.in_ok-fan_together-in-Input.field-0.status c.in_ok-fan_together-in-Input.field-0.text.items (subst (IsReading (g.S.Source.left c.args.source.now)) c.in-Input.is c.in_ok-reply.ensures.reading) (subst (λ (o : Output). spelled c.in-Input.input (fan_of (options c.args.table c.args.steps) o c.in-Input.input) c.in_ok-fan_together-in-Input.field-0.status c.in_ok-fan_together-in-Input.field-0.text.items) c.output-output.ensures c.in_ok-fan_together-in-Input.ensures)
