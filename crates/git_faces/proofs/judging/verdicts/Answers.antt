use Rattle.std.proofs.Common.{rules}
use Rattle.git_faces.proofs.Firsts.{begun, seen_next, one_more, stops, whole_list, no_length}
use Rattle.git_faces.proofs.judging.verdicts.Goals as goal

pub loop-one-init : goal.loop-one-init
loop-one-init g c = begun _ _ _ _ _ c.new-out.ensures.items (search rules)

pub settled-requires-clause-seen : goal.settled-requires-clause-seen
settled-requires-clause-seen g c = seen_next _ _ _ _ _ c.loop-one.invariant c.in-Some.one c.next.new.self.rest.items c.in-Some.ensures.steps.0

pub loop-one-preserved : goal.loop-one-preserved
loop-one-preserved g c = one_more _ _ _ _ _ c.loop-one.invariant c.in-Some.one c.in-Ok-settled.verdict c.push.new.self.items c.next.new.self.rest.items c.in-Some.ensures.steps.0 c.in-Ok-settled.ensures (search rules)

pub returns-in-Err-clause-stopped : goal.returns-in-Err-clause-stopped
returns-in-Err-clause-stopped g c = stops _ _ _ _ _ c.loop-one.invariant c.in-Some.one c.in-Err.fault c.next.new.self.rest.items c.in-Some.ensures.steps.0 c.in-Err.ensures

pub returns-clause-verdicts : goal.returns-clause-verdicts
returns-clause-verdicts g c = whole_list _ _ _ _ _ c.loop-one.invariant (no_length c.loop-one.one-iterator.rest.items (search rules))
