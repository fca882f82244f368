use Rattle.std.proofs.Common.{ℕ, ◌+◌, ◌-◌, sym, ap, subst, ◌∙◌, arith, refl}
use Rattle.git_faces.proofs.FullMasks.{FacesFrom, skipped, taken, none, whole}
use Rattle.git_faces.proofs.full.full_faces.Goals as goal
use Rattle.git_faces.proofs.full.full_faces.Goals.{then-full+in_ok-push, else-full}

pub loop-i-init : goal.loop-i-init
loop-i-init c = record {
  count = c.face_count-count.ensures.value;
  few = c.face_count-count.ensures.few;
  found = subst (FacesFrom c.args.g.now.k c.args.g.now.columns c.face_count-count.result 0) (sym c.new-out.ensures.items) (none c.args.g.now.k c.args.g.now.columns c.face_count-count.result);
}

pub loop-i-preserved : goal.loop-i-preserved
loop-i-preserved c =
    let k = c.args.g.now.k in let columns = c.args.g.now.columns in let count = c.face_count-count.result in let i = c.loop-i.i in
    let few = c.loop-i.invariant.few in let less = c.loop-i-test.true in
    record {
      count = c.loop-i.invariant.count;
      few = few;
      found = elim c.if-full.branch [
        | then-full+in_ok-push w ↦ subst (FacesFrom k columns count (i + 1)) (sym w.in_ok-push.ensures.items ∙ ap (λ v. v.items) (sym w.out-is))
            (taken k columns count i (count - 1 - i) c.loop-i.out.items refl less c.loop-i.invariant.found (let e = c.loop-i.invariant.count in omega (arith, e)) (w.if-full.ensures.0 refl))
        | else-full w ↦ subst (FacesFrom k columns count (i + 1)) (ap (λ v. v.items) (sym w.out-is))
            (skipped k columns count i (count - 1 - i) c.loop-i.out.items refl less c.loop-i.invariant.found (λ full. cc (w.if-full.ensures.1 full)))
      ];
    }

pub returns : goal.returns
returns c = whole c.args.g.now.k c.args.g.now.columns c.face_count-count.result c.loop-i.out.items c.loop-i.invariant.count
    (subst (λ (i : ℕ). FacesFrom c.args.g.now.k c.args.g.now.columns c.face_count-count.result i c.loop-i.out.items) (let l = c.loop-i-test.false in let m = c.loop-i.auto.i-end in omega (arith, l, m)) c.loop-i.invariant.found)
