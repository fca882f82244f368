use Rattle.std.proofs.Common.{List, subst}
use Rattle.git_defs.specs.Vectors.{Vector}
use Rattle.git_answers.specs.Ends.{spelled}
use Rattle.git_answers.specs.Fan.{options}
use Rattle.git_questions.specs.Questions.{locate_of}
use Rattle.git_weighted.specs.Readings.{IsReading}
use Rattle.git_commands.proofs.Replied.{weights_answered, weights_refused}
use Rattle.git_commands.proofs.answering.answer_weights.Goals as goal

pub returns-in-Refused-clause-answers : goal.returns-in-Refused-clause-answers
returns-in-Refused-clause-answers g c =
    weights_refused c.args.table c.args.steps (g.S.Source.left c.args.source.now) c.in-Refused.reply (subst (IsReading (g.S.Source.left c.args.source.now)) c.in-Refused.is c.in_ok-reply.ensures.reading)

pub returns-in_ok-locate_answer-in-Text-clause-answers : goal.returns-in_ok-locate_answer-in-Text-clause-answers
returns-in_ok-locate_answer-in-Text-clause-answers g c =
    let text = c.in-Text.text in let a = c.in_ok-locate_answer-in-Text.field-0 in
    weights_answered c.args.table c.args.steps (g.S.Source.left c.args.source.now) text a.status a.text.items (subst (IsReading (g.S.Source.left c.args.source.now)) c.in-Text.is c.in_ok-reply.ensures.reading)
    (subst (λ (ws : List Vector). spelled text.input (locate_of (options c.args.table c.args.steps) ws text.input) a.status a.text.items) c.deref.ensures.value c.in_ok-locate_answer-in-Text.ensures)
