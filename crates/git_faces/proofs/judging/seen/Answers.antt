use Rattle.std.proofs.Common.{List, sym, subst, arith}
use Rattle.std.specs.Prelude.{All}
use Rattle.std.specs.List.{AllZip}
use Rattle.git_faces.specs.declared.dealing.Task.{Task}
use Rattle.git_faces.specs.declared.judging.Found.{Found}
use Rattle.git_faces.specs.Dealing.{IsTask, IsSeen}
use Rattle.git_faces.proofs.Outcomes.{ArePlaced, all_placed, unseen_seen, put, long}
use Rattle.git_faces.proofs.judging.seen.Goals as goal

pub loop-one-init : goal.loop-one-init
loop-one-init g c = record {
  left = subst (ArePlaced c.args.input.now.generators c.args.steps c.args.masks.now) (sym c.into_iter-one-iterator.ensures.into_iter_gives.0)
      (all_placed c.args.input.now.generators c.args.steps c.args.masks.now c.deref.result.now c.in_ok-found.found.items
      (subst (λ (ts : List Task). All (IsTask c.args.masks.now) ts) (sym c.deref.ensures.value) c.in_ok-tasks.ensures) c.in_ok-found.ensures);
  seen = unseen_seen c.args.input.now.generators c.args.steps c.args.masks.now c.in_ok-out.out.items c.in_ok-out.ensures;
}

pub put-requires : goal.put-requires
put-requires g c =
    let here = (subst (ArePlaced c.args.input.now.generators c.args.steps c.args.masks.now) c.in-Some.ensures.steps.0 c.loop-one.invariant.left).0.within in
    omega (arith, here, long c.args.input.now.generators c.args.steps c.args.masks.now c.loop-one.out.items c.loop-one.invariant.seen)

pub loop-one-preserved : goal.loop-one-preserved
loop-one-preserved g c =
    let left = subst (ArePlaced c.args.input.now.generators c.args.steps c.args.masks.now) c.in-Some.ensures.steps.0 c.loop-one.invariant.left in
    record {
      left = left.1;
      seen = subst (λ (fs : List Found). AllZip (λ m f. IsSeen c.args.input.now.generators c.args.steps m f) c.args.masks.now fs) (sym c.put.ensures)
          (put c.args.input.now.generators c.args.steps c.args.masks.now c.loop-one.out.items c.in-Some.one.place c.in-Some.one c.loop-one.invariant.seen left.0.within left.0.seen);
    }
