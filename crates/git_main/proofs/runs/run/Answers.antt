-- Where the words were given, their answer is the answer.
use Rattle.std.proofs.Common.{IfOk, List, map, string_bytes, subst, sym, String, Global}
use Rattle.git_base.specs.Faults.{HasRisen}
use Rattle.git_answers.specs.Ends.{over, Ends}
use Rattle.git_top.specs.Run.{reply_to}
use Rattle.git_main.proofs.runs.run.Goals as goal

pub returns-in-Ok-clause-words : goal.returns-in-Ok-clause-words
returns-in-Ok-clause-words g c =
    let ends : List (String Global) → Type 0 = λ words. Ends (over (g.S.Source.left c.args.source.now) (reply_to (map string_bytes words))) (HasRisen (g.S.Source.faults c.args.source.now) (g.S.Source.faults c.answer.new.source))
    (HasRisen (g.K.Sink.faults c.args.sink.now) (g.K.Sink.faults c.answer.new.sink)) (g.K.Sink.written c.args.sink.now) (g.K.Sink.written c.answer.new.sink) c.answer.result in
    subst (λ given. IfOk given (λ words. ends words.items)) (sym c.in-Ok.is) (subst ends c.deref.ensures.value c.answer.ensures)
