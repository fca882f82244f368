use Rattle.std.proofs.Common.{length}
use Rattle.git_reduce.proofs.TermMaps.{nothing_above, nothing_yet, last_below, others_below, one_popped, none_over, all_popped}
use Rattle.git_reduce.proofs.dividend.Dividend.rest.Goals as goal

pub loop-last-init : goal.loop-last-init
loop-last-init c = record {
  above = nothing_above c.zero-rest.result c.self.inside.terms.entries c.zero-rest.ensures;
  whole = nothing_yet c.zero-rest.result c.self.inside.terms.entries c.zero-rest.ensures;
}

pub append-requires : goal.append-requires
append-requires c = last_below c.loop-last.rest c.loop-last.terms.entries c.pop_last.new.self.entries c.in-Some.last c.in-Some.ensures.removal c.loop-last.invariant.above

pub loop-last-preserved : goal.loop-last-preserved
loop-last-preserved c = record {
  above = others_below c.loop-last.rest c.append.new.self c.loop-last.terms.entries c.pop_last.new.self.entries c.in-Some.last c.in-Some.ensures.removal c.in-Some.ensures.all_below c.in_ok-append.ensures.sum c.loop-last.invariant.above;
  whole = one_popped c.loop-last.rest c.append.new.self c.loop-last.terms.entries c.pop_last.new.self.entries c.self.inside.terms.entries c.in-Some.last c.in-Some.ensures.removal c.in_ok-append.ensures.sum c.loop-last.invariant.whole;
}

pub returns : goal.returns
returns c = all_popped c.loop-last.rest c.args.self c.loop-last.terms.entries c.self.inside.terms.entries (none_over (length c.loop-last.terms.entries) c.in_default.ensures.variant.1) c.loop-last.invariant.whole c.self.view_is
