use Rattle.std.proofs.Common.{refl, sym, subst}
use Rattle.std.specs.Prelude.{Bool, IfOk}
use Rattle.git_base.specs.declared.status.Status.TheVariants.{Done}
use Rattle.git_text.specs.Writing.{input_text}
use Rattle.git_answers.specs.Ends.{spelled}
use Rattle.git_answers.proofs.Replies.{plain}
use Rattle.git_commands.specs.Commands.{is_written, makes}
use Rattle.git_commands.proofs.sampling.answer_to_sample.Goals as goal

pub returns-then-run : goal.returns-then-run
returns-then-run g c = subst (λ (b : Bool). IfOk c.fan_alone.result (λ a. spelled c.args.input.now (makes b c.args.input.now) a.status a.text.items)) (sym c.if-run.true) c.fan_alone.ensures

pub returns-in_ok-write_input : goal.returns-in_ok-write_input
returns-in_ok-write_input g c =
    subst (λ (b : Bool). spelled c.args.input.now (makes b c.args.input.now) Done c.in_ok-write_input.field-0.items) (sym c.if-run.false)
    (plain c.args.input.now (is_written c.args.input.now) Done Done c.in_ok-write_input.field-0.items (input_text c.args.input.now) refl refl c.in_ok-write_input.ensures.text)
