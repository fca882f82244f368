use Rattle.std.proofs.Common.{◌≡◌, ◌∙◌, ◌+◌, ◌<◌, ◌↔◌, ◌⊎◌, ℕ, List, [], ap, arith, get_or, length, subst, sym, take}
use Rattle.std.specs.Prelude.{Contains}
use Rattle.std.proofs.lemmas.List.{get_or_default, take_all}
use Rattle.git_defs.specs.Vectors.{Vector}
use Rattle.git_machine.specs.Signatures.{Signature, Has}
use Rattle.git_orbit.specs.Index.{IsPutWhere}
use Rattle.git_orbit.proofs.Indexes.{facet_more, put_also}
use Rattle.git_orbit.proofs.index.mark.Goals as goal

pub place-requires-clause-there : goal.place-requires-clause-there
place-requires-clause-there c = subst (Contains c.args.normals.now) (sym c.n-item.is) (c.requires.there c.loop-n.n-index c.n-item.result c.loop-n-test.true)

pub loop-n-preserved : goal.loop-n-preserved
loop-n-preserved c =
    let normals = c.args.normals.now in
    let facets = c.args.facets.now in
    let i = c.loop-n.n-index in
    let place = c.place.result in
    let sets = c.loop-n.sets.items in
    let long = c.loop-n.invariant.long in
    let low : place < length sets = omega (arith, long, c.requires.long, c.place.ensures.within) in
    let was : c.index_mut.result.now ≡ get_or sets place [] = c.index_mut.ensures.value ∙ get_or_default sets place c.index_mut.result.now [] low in
    put_also (λ p. Contains (take i facets) (get_or normals p [])) (λ p. Contains (take (i + 1) facets) (get_or normals p [])) c.args.i place c.args.sets.now.items sets c.put.new.self low
    (λ p in_range. facet_more normals facets i place c.n-item.result c.requires.sorted c.loop-n-test.true c.n-item.is c.place.ensures.within c.place.ensures.at p (omega (arith, in_range, c.requires.long)))
    (c.put.ensures.width ∙ ap (λ (l : Signature). length l) was)
    (subst (λ (l : Signature). (n : ℕ) → Has c.put.new.self n ↔ (Has l n ⊎ (n ≡ c.args.i))) was c.put.ensures.each) c.loop-n.invariant

pub returns : goal.returns
returns c =
    let all = take_all c.loop-n.n-index c.args.facets.now (omega (arith, c.loop-n-test.false)) in
    subst (λ (l : List Vector). IsPutWhere (λ p. Contains l (get_or c.args.normals.now p [])) c.args.i c.args.sets.now.items c.loop-n.sets.items) all c.loop-n.invariant
