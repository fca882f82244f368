use Rattle.std.proofs.Common.{subst}
use Rattle.git_checktext.specs.Readings.{IsReading}
use Rattle.git_checktext.specs.Views.{text_of}
use Rattle.git_check_replies.proofs.Answered.{refusal_answered, text_answered}
use Rattle.git_check_replies.proofs.answering.check_source.Goals as goal

pub returns-in_ok-judged-in-Text-clause-answers : goal.returns-in_ok-judged-in-Text-clause-answers
returns-in_ok-judged-in-Text-clause-answers g c =
    let is = subst (IsReading (g.S.Source.left c.args.source.now)) c.in-Text.is c.in_ok-text.ensures.reading in
    let a = c.in_ok-judged-in-Text.field-0 in
    (is.0, is.1, text_answered is.0 (text_of c.in-Text.text) is.2 a.status a.text.items c.in_ok-judged-in-Text.ensures)

pub returns-in-Refused-clause-answers : goal.returns-in-Refused-clause-answers
returns-in-Refused-clause-answers g c =
    let is = subst (IsReading (g.S.Source.left c.args.source.now)) c.in-Refused.is c.in_ok-text.ensures.reading in
    (is.0, is.1, refusal_answered is.0 c.in-Refused.reply is.2)
