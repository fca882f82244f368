use Rattle.std.proofs.Common.{subst}
use Rattle.std.proofs.lemmas.Result.{IfOk-weaker}
use Rattle.git_checktext.specs.Readings.{IsWhole}
use Rattle.git_checktext.specs.Views.{text_of}
use Rattle.git_check_replies.proofs.Answered.{refusal_answered, text_answered}
use Rattle.git_check_replies.proofs.answering.check_answer.Goals as goal

pub returns-in-Text : goal.returns-in-Text
returns-in-Text c =
    let is = subst (IsWhole c.args.bytes.now) c.in-Text.is c.in_ok-text.ensures in
    IfOk-weaker c.judged.result _ _ (λ a h. text_answered c.args.bytes.now (text_of c.in-Text.text) is a.status a.text.items h) c.judged.ensures

pub returns-in-Refused : goal.returns-in-Refused
returns-in-Refused c = refusal_answered c.args.bytes.now c.in-Refused.reply (subst (IsWhole c.args.bytes.now) c.in-Refused.is c.in_ok-text.ensures)
