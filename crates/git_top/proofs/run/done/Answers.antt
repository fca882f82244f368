use Rattle.std.proofs.Common.{sym, subst}
use Rattle.git_base.specs.Faults.{HasRisen}
use Rattle.git_answers.specs.Ends.{over, Ends}
use Rattle.git_words.specs.declared.commands.Command.{Command}
use Rattle.git_words.specs.declared.commands.Command.TheVariants.{Fan, Faces, Make, AllCones, Locate, Bunch}
use Rattle.git_commands.specs.Commands.{Reads, reply_of}
use Rattle.git_top.proofs.Faultless.{read_rose}
use Rattle.git_top.proofs.Replied.{made_ends}
use Rattle.git_top.proofs.run.done.Goals as goal

pub returns-in-Fan-clause-answers : goal.returns-in-Fan-clause-answers
returns-in-Fan-clause-answers g c =
    subst (λ (command : Command). Ends (over (g.S.Source.left c.args.source.now) (reply_of command)) (HasRisen (g.S.Source.faults c.args.source.now) (g.S.Source.faults c.listed_by.new.source)) (HasRisen (g.K.Sink.faults c.args.sink.now) (g.K.Sink.faults c.listed_by.new.sink)) (g.K.Sink.written c.args.sink.now) (g.K.Sink.written c.listed_by.new.sink) c.listed_by.result) (sym c.in-Fan.is) c.listed_by.ensures.answers

pub returns-in-Faces-clause-answers : goal.returns-in-Faces-clause-answers
returns-in-Faces-clause-answers g c =
    subst (λ (command : Command). Ends (over (g.S.Source.left c.args.source.now) (reply_of command)) (HasRisen (g.S.Source.faults c.args.source.now) (g.S.Source.faults c.faces_run.new.source)) (HasRisen (g.K.Sink.faults c.args.sink.now) (g.K.Sink.faults c.faces_run.new.sink)) (g.K.Sink.written c.args.sink.now) (g.K.Sink.written c.faces_run.new.sink) c.faces_run.result) (sym c.in-Faces.is) c.faces_run.ensures.answers

pub returns-in-Make-clause-answers : goal.returns-in-Make-clause-answers
returns-in-Make-clause-answers g c =
    subst (λ (command : Command). Ends (over (g.S.Source.left c.args.source.now) (reply_of command)) (HasRisen (g.S.Source.faults c.args.source.now) (g.S.Source.faults c.args.source.now)) (HasRisen (g.K.Sink.faults c.args.sink.now) (g.K.Sink.faults c.make_run.new.sink)) (g.K.Sink.written c.args.sink.now) (g.K.Sink.written c.make_run.new.sink) c.make_run.result) (sym c.in-Make.is)
    (made_ends c.in-Make.sample c.in-Make.run' (g.S.Source.left c.args.source.now) (HasRisen (g.S.Source.faults c.args.source.now) (g.S.Source.faults c.args.source.now)) (HasRisen (g.K.Sink.faults c.args.sink.now) (g.K.Sink.faults c.make_run.new.sink))
    (g.K.Sink.written c.args.sink.now) (g.K.Sink.written c.make_run.new.sink) c.make_run.result c.make_run.ensures)

pub returns-in-Fan-clause-fault : goal.returns-in-Fan-clause-fault
returns-in-Fan-clause-fault g c is =
    (subst Reads (sym c.in-Fan.is) tt, read_rose (Fan c.in-Fan.workers c.in-Fan.table c.in-Fan.steps c.in-Fan.certs) _ _ _ _ _ c.listed_by.result c.listed_by.ensures.answers is)

pub returns-in-Faces-clause-fault : goal.returns-in-Faces-clause-fault
returns-in-Faces-clause-fault g c is =
    (subst Reads (sym c.in-Faces.is) tt, read_rose (Faces c.in-Faces.steps) _ _ _ _ _ c.faces_run.result c.faces_run.ensures.answers is)

pub returns-in-Make-clause-fault : goal.returns-in-Make-clause-fault
returns-in-Make-clause-fault g c is =
    absurd (read_rose (Make c.in-Make.sample c.in-Make.run') (g.S.Source.left c.args.source.now) ⊥ _ _ _ c.make_run.result
    (made_ends c.in-Make.sample c.in-Make.run' (g.S.Source.left c.args.source.now) ⊥ _ _ _ c.make_run.result c.make_run.ensures) is)

pub returns-in-AllCones-clause-answers : goal.returns-in-AllCones-clause-answers
returns-in-AllCones-clause-answers g c =
    subst (λ (command : Command). Ends (over (g.S.Source.left c.args.source.now) (reply_of command)) (HasRisen (g.S.Source.faults c.args.source.now) (g.S.Source.faults c.cones_run.new.source)) (HasRisen (g.K.Sink.faults c.args.sink.now) (g.K.Sink.faults c.cones_run.new.sink)) (g.K.Sink.written c.args.sink.now) (g.K.Sink.written c.cones_run.new.sink) c.cones_run.result) (sym c.in-AllCones.is) c.cones_run.ensures.answers

pub returns-in-AllCones-clause-fault : goal.returns-in-AllCones-clause-fault
returns-in-AllCones-clause-fault g c is =
    (subst Reads (sym c.in-AllCones.is) tt, read_rose (AllCones c.in-AllCones.table c.in-AllCones.steps) _ _ _ _ _ c.cones_run.result c.cones_run.ensures.answers is)

pub returns-in-Locate-clause-answers : goal.returns-in-Locate-clause-answers
returns-in-Locate-clause-answers g c =
    subst (λ (command : Command). Ends (over (g.S.Source.left c.args.source.now) (reply_of command)) (HasRisen (g.S.Source.faults c.args.source.now) (g.S.Source.faults c.locate_run.new.source)) (HasRisen (g.K.Sink.faults c.args.sink.now) (g.K.Sink.faults c.locate_run.new.sink)) (g.K.Sink.written c.args.sink.now) (g.K.Sink.written c.locate_run.new.sink) c.locate_run.result) (sym c.in-Locate.is) c.locate_run.ensures.answers

pub returns-in-Locate-clause-fault : goal.returns-in-Locate-clause-fault
returns-in-Locate-clause-fault g c is =
    (subst Reads (sym c.in-Locate.is) tt, read_rose (Locate c.in-Locate.table c.in-Locate.steps) _ _ _ _ _ c.locate_run.result c.locate_run.ensures.answers is)

pub returns-in-Bunch-clause-answers : goal.returns-in-Bunch-clause-answers
returns-in-Bunch-clause-answers g c =
    subst (λ (command : Command). Ends (over (g.S.Source.left c.args.source.now) (reply_of command)) (HasRisen (g.S.Source.faults c.args.source.now) (g.S.Source.faults c.bunch_run.new.source)) (HasRisen (g.K.Sink.faults c.args.sink.now) (g.K.Sink.faults c.bunch_run.new.sink)) (g.K.Sink.written c.args.sink.now) (g.K.Sink.written c.bunch_run.new.sink) c.bunch_run.result) (sym c.in-Bunch.is) c.bunch_run.ensures.answers

pub returns-in-Bunch-clause-fault : goal.returns-in-Bunch-clause-fault
returns-in-Bunch-clause-fault g c is =
    (subst Reads (sym c.in-Bunch.is) tt, read_rose (Bunch c.in-Bunch.table c.in-Bunch.steps) _ _ _ _ _ c.bunch_run.result c.bunch_run.ensures.answers is)
