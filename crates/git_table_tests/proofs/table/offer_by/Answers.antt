use Rattle.std.proofs.Common.{◌≡◌, [], ◌∷◌, ◌++◌, rules, Some, subst, sym}
use Rattle.std.specs.List.{All}
use Rattle.std.proofs.lemmas.List.Elements.{All-pop, All-push}
use Rattle.git_table_tests.specs.declared.table.Caller.{Caller}
use Rattle.git_table_tests.specs.Spokes.{IsCaller}
use Rattle.git_table_tests.proofs.table.offer_by.Goals as goal

pub answered-requires-clause-caller : goal.answered-requires-clause-caller
answered-requires-clause-caller g c =
    (All-pop (λ (m : Caller). IsCaller c.in_ok-frontier.frontier m.seat m.busy) c.worked-callers.result.items c.pop.new.self.items (Some c.in-Some.one) c.in-Some.ensures.items c.worked-callers.ensures.callers).1

pub joined-requires-clause-callers : goal.joined-requires-clause-callers
joined-requires-clause-callers g c =
    let items : c.push.new.self.items ≡ c.pop.new.self.items ++ c.answered.new.caller ∷ [] = search rules in
    let rest = (All-pop (λ (m : Caller). IsCaller c.in_ok-frontier.frontier m.seat m.busy) c.worked-callers.result.items c.pop.new.self.items (Some c.in-Some.one) c.in-Some.ensures.items c.worked-callers.ensures.callers).0 in
    subst (All (λ (m : Caller). IsCaller c.in_ok-frontier.frontier m.seat m.busy)) (sym items)
    (All-push (λ (m : Caller). IsCaller c.in_ok-frontier.frontier m.seat m.busy) c.pop.new.self.items c.answered.new.caller rest c.answered.ensures)
