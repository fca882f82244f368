use Rattle.std.proofs.Common.{map, sym, ap, subst, take}
use Rattle.git_walk.specs.Walks.{Marks, NamedBy}
use Rattle.git_listing.specs.Views.{side_of, facet_of}
use Rattle.git_walk.proofs.WalkLemmas.{named_inner, named_boundary, facets_push}
use Rattle.git_walk.proofs.walk.mark_named.Goals as goal
use Rattle.git_walk.proofs.walk.mark_named.Goals.{in-Inner+in_ok-mark-in-Inner, in-Boundary}

pub loop-facet-preserved : goal.loop-facet-preserved
loop-facet-preserved c =
    let fs = c.args.facets.now in let i = c.loop-facet.facet-index in let x = c.facet-item.result in
    let push = facets_push fs i x c.loop-facet-test.true c.facet-item.is in
    elim c.match-facet.branch [
      | in-Inner+in_ok-mark-in-Inner w ↦ rw (w.marks-is, w.pending-is) (subst (λ ys. Marks (NamedBy ys) c.args.marks.now.items w.mark.new.marks.items c.args.pending.now.items w.mark.new.pending.items) (sym push)
          (named_inner (map facet_of (take i fs)) (facet_of x) w.in-Inner.chamber w.in-Inner.matched c.args.marks.now.items c.loop-facet.marks.items w.mark.new.marks.items c.args.pending.now.items c.loop-facet.pending.items w.mark.new.pending.items
          (ap side_of w.in-Inner.is) c.loop-facet.invariant w.in_ok-mark-in-Inner.ensures))
      | in-Boundary w ↦ rw (w.marks-is, w.pending-is) (subst (λ ys. Marks (NamedBy ys) c.args.marks.now.items c.loop-facet.marks.items c.args.pending.now.items c.loop-facet.pending.items) (sym push)
          (named_boundary (map facet_of (take i fs)) (facet_of x) c.args.marks.now.items c.loop-facet.marks.items c.args.pending.now.items c.loop-facet.pending.items (ap side_of w.in-Boundary.is) c.loop-facet.invariant))
    ]
