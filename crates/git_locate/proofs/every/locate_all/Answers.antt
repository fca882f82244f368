use Rattle.std.proofs.Common.{◌+◌, List, map, subst, sym, take}
use Rattle.std.proofs.lemmas.Result.{err_from_is_err_and}
use Rattle.git_listing.specs.Views.{listing_of}
use Rattle.git_locate.specs.Lists.{ArePlaced}
use Rattle.git_locate.specs.Views.{placed_of}
use Rattle.git_locate.specs.declared.located.LocatedWeight.{LocatedWeight}
use Rattle.git_locate.proofs.Several.{fault_is_first, one_more}
use Rattle.git_locate.proofs.every.locate_all.Goals as goal

pub returns-in_err-one-clause-fault : goal.returns-in_err-one-clause-fault
returns-in_err-one-clause-fault c =
    let p = err_from_is_err_and c.from_residual.result c.from_residual.ensures.1 in
    rw (p.1, p.2) (fault_is_first c.args.cones.now (listing_of c.args.listing.now) c.args.weights.now c.loop-i.i c.index-weights-i.result (map placed_of c.loop-i.out.items)
    c.loop-i-test.true c.index-weights-i.is c.loop-i.invariant c.in_err-one.field-0.0 c.in_err-one.ensures.fault)

pub returns-in_err-add-clause-fault : goal.returns-in_err-add-clause-fault
returns-in_err-add-clause-fault c =
    let p = err_from_is_err_and c.from_residual-in_err-add.result c.from_residual-in_err-add.ensures.1 in
    rw (p.1, p.2) tt

pub loop-i-preserved : goal.loop-i-preserved
loop-i-preserved c =
    let l = listing_of c.args.listing.now in
    subst (λ (out : List LocatedWeight). ArePlaced c.args.cones.now l (take (c.loop-i.i + 1) c.args.weights.now) (map placed_of out)) (sym c.in_ok-add.ensures)
    (one_more c.args.cones.now l c.args.weights.now c.loop-i.i c.index-weights-i.result c.loop-i.out.items c.in_ok-one.one c.loop-i-test.true c.index-weights-i.is
    c.loop-i.invariant c.in_ok-one.ensures.place)
