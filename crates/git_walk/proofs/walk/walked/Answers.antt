use Rattle.std.proofs.Common.{map, arith}
use Rattle.std.proofs.lemmas.List.{length-map}
use Rattle.git_walk.specs.Walks.{Marked}
use Rattle.git_listing.specs.Views.{chamber_of}
use Rattle.git_asked.proofs.Places.{got}
use Rattle.git_walk.proofs.WalkLemmas.{pending_within, walk_on, walk_less}
use Rattle.git_walk.proofs.walk.walked.Goals as goal

pub look_at-requires : goal.look_at-requires
look_at-requires c =
    let n = length-map c.args.chambers.now chamber_of in
    let lt = pending_within (map chamber_of c.args.chambers.now) (Marked c.args.starts.now) c.loop-place.marks.items c.loop-place.pending.items c.pop.new.self.items c.in-Some.place c.loop-place.invariant c.in-Some.ensures.items in
    omega (arith, n, lt)

pub loop-place-preserved : goal.loop-place-preserved
loop-place-preserved c =
    let cs = map chamber_of c.args.chambers.now in
    let lt = pending_within cs (Marked c.args.starts.now) c.loop-place.marks.items c.loop-place.pending.items c.pop.new.self.items c.in-Some.place c.loop-place.invariant c.in-Some.ensures.items in
    let d = got cs c.in-Some.place lt in
    walk_on cs (Marked c.args.starts.now) c.loop-place.marks.items c.look_at.new.marks.items c.loop-place.pending.items c.pop.new.self.items c.look_at.new.pending.items c.in-Some.place d.0
    c.loop-place.invariant c.in-Some.ensures.items d.1 (c.in_ok-look_at.ensures d.0 d.1)

pub loop-place-smaller : goal.loop-place-smaller
loop-place-smaller c =
    let cs = map chamber_of c.args.chambers.now in
    let lt = pending_within cs (Marked c.args.starts.now) c.loop-place.marks.items c.loop-place.pending.items c.pop.new.self.items c.in-Some.place c.loop-place.invariant c.in-Some.ensures.items in
    let d = got cs c.in-Some.place lt in
    walk_less c.loop-place.marks.items c.look_at.new.marks.items c.loop-place.pending.items c.pop.new.self.items c.look_at.new.pending.items c.in-Some.place c.in-Some.ensures.items (c.in_ok-look_at.ensures d.0 d.1).less
