use Rattle.git_walk.proofs.WalkLemmas.{places_push, places_same, places_all, is_marked, not_marked}
use Rattle.git_walk.proofs.walk.marked_places.Goals as goal
use Rattle.git_walk.proofs.walk.marked_places.Goals.{then-marks-i+in_ok-push, else-marks-i}

pub loop-i-preserved : goal.loop-i-preserved
loop-i-preserved c = elim c.if-marks-i.branch [
  | then-marks-i+in_ok-push w ↦ rw (w.places-is, w.in_ok-push.ensures.items)
      (places_push c.loop-i.places.items c.args.marks.now c.loop-i.i c.loop-i.invariant (is_marked c.args.marks.now c.loop-i.i c.loop-i-test.true w.if-marks-i.true))
  | else-marks-i w ↦ rw w.places-is (places_same c.loop-i.places.items c.args.marks.now c.loop-i.i c.loop-i.invariant (not_marked c.args.marks.now c.loop-i.i c.loop-i-test.true w.if-marks-i.false))
]

pub returns : goal.returns
returns c = places_all c.loop-i.places.items c.args.marks.now c.loop-i.i c.loop-i-test.false c.loop-i.invariant
