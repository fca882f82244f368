use Rattle.std.proofs.Common.{◌≡◌, ◌+◌, ℕ, arith, length, subst, sym}
use Rattle.git_orbit.specs.Index.{AreFacetsBelow}
use Rattle.git_orbit.specs.Orbits.{Fan}
use Rattle.git_orbit.proofs.Indexes.{facets_more, facets_none}
use Rattle.git_orbit.proofs.index.gathered.Goals as goal

pub loop-i-init : goal.loop-i-init
loop-i-init c = let fan : Fan = record { k = c.args.k; list = c.args.list.now } in subst (AreFacetsBelow fan 0) (sym c.new-all.ensures.items) (facets_none fan)

pub loop-i-preserved : goal.loop-i-preserved
loop-i-preserved c =
    let fan : Fan = record { k = c.args.k; list = c.args.list.now } in
    subst (AreFacetsBelow fan (c.loop-i.i + 1)) (sym c.in_ok-append.ensures) (facets_more fan c.loop-i.i c.loop-i.all.items c.facets_of.result.now c.facets_of.ensures c.loop-i.invariant)

pub returns : goal.returns
returns c =
    let fan : Fan = record { k = c.args.k; list = c.args.list.now } in
    let end : c.loop-i.i ≡ length c.args.list.now = omega (arith, c.loop-i-test.false, c.loop-i.auto.i-end) in
    subst (λ (n : ℕ). AreFacetsBelow fan n c.loop-i.all.items) end c.loop-i.invariant
