use Rattle.std.proofs.Common.{◌≡◌, ℕ, ◌+◌, ◌%◌, ◌<◌, List, length, set, length-set, mod-lt, sym, ◌∙◌, subst, arith}
use Rattle.std.specs.List.{All}
use Rattle.std.proofs.lemmas.List.Elements.{All-set}
use Rattle.git_share.specs.Views.{HintsView, IsNew}
use Rattle.git_share.proofs.new.meet.Goals as goal

pub loop-step-preserved : goal.loop-step-preserved
loop-step-preserved c =
    let h = c.loop-step.invariant in
    let n = c.len.ensures in let long = h.long in let inside = c.requires.inside.0 in
    let other : ℕ = (c.args.member + c.loop-step.step) % c.len.result in
    let low : other < c.len.result = mod-lt (c.args.member + c.loop-step.step) (omega arith) in
    let first : List HintsView = set c.loop-step.all.items other c.part.new.self in
    let gives = c.part.ensures.kept c.args.room (subst (IsNew c.args.room) (sym c.index_mut.ensures.value) (h.new other c.index_mut.result.now (omega arith))) in
    let all : All (IsNew c.args.room) first = All-set (IsNew c.args.room) c.loop-step.all.items other c.part.new.self gives h.new in
    let same : length first ≡ length c.loop-step.all.items = length-set c.loop-step.all.items other c.part.new.self in
    let gets = c.follow.ensures c.args.room (subst (IsNew c.args.room) (sym c.index_mut-in-loop-step.ensures.value) (all c.args.member c.index_mut-in-loop-step.result.now (omega arith))) in
    record { long = length-set first c.args.member c.follow.new.self ∙ (same ∙ h.long); new = All-set (IsNew c.args.room) first c.args.member c.follow.new.self gets all }
