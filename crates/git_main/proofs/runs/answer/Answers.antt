-- The words are the texts of all strings, so the reply to the words is the one to these.
use Rattle.std.proofs.Common.{◌≡◌, ap, ◌∙◌, map, string_bytes, subst}
use Rattle.std.proofs.lemmas.List.{take_all}
use Rattle.git_base.specs.Faults.{HasRisen}
use Rattle.git_words.specs.Words.{words_of}
use Rattle.git_answers.specs.Ends.{over, Ends}
use Rattle.git_top.specs.Run.{reply_to}
use Rattle.git_main.proofs.runs.answer.Goals as goal

pub returns : goal.returns
returns g c =
    let all : words_of c.deref.result.now ≡ map string_bytes c.args.owned.now =
    ap words_of c.deref.ensures.value ∙ (c.loop-word.invariant ∙ ap (map string_bytes) (take_all c.loop-word.word-index c.args.owned.now c.loop-word-test.false)) in
    subst
    (λ words. Ends (over (g.S.Source.left c.args.source.now) (reply_to words)) (HasRisen (g.S.Source.faults c.args.source.now) (g.S.Source.faults c.gitfan.new.source))
    (HasRisen (g.K.Sink.faults c.args.sink.now) (g.K.Sink.faults c.gitfan.new.sink)) (g.K.Sink.written c.args.sink.now) (g.K.Sink.written c.gitfan.new.sink) c.gitfan.result)
    all c.gitfan.ensures.answers
