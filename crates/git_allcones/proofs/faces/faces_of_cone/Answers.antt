use Rattle.std.proofs.Common.{◌≡◌, ◌≤◌, ◌<◌, Contains, List, get_or, length, map, subst}
use Rattle.std.proofs.lemmas.Result.{err_from_is_err_and}
use Rattle.git_defs.specs.Cones.{InCone}
use Rattle.git_defs.specs.Vectors.{Vector}
use Rattle.git_cone_faces.specs.Faces.{AreRaysOfFace}
use Rattle.git_cone_faces.specs.Filters.{with_wall}
use Rattle.git_cone_faces.proofs.Full.{full_pass}
use Rattle.git_allcones.specs.Sets.{vectors_of}
use Rattle.git_allcones.proofs.Passings.{found_early, passed_last, passed_more}
use Rattle.git_allcones.proofs.Sizes.{many_of}
use Rattle.git_allcones.proofs.faces.faces_of_cone.Goals as goal

pub returns-in_err-lists-clause-fault : goal.returns-in_err-lists-clause-fault
returns-in_err-lists-clause-fault c =
    let k = c.args.k in let A = c.args.cone.now.facets.items in let R = c.args.cone.now.rays.items in
    let i = c.loop-normal.normal-index in let n = c.normal-item.result in let lists = map vectors_of c.loop-normal.lists.items in
    let h : i < length A = subst (λ (l : List Vector). i < length l) c.deref-normal-items.ensures.value c.loop-normal-test.true in
    let at : n ≡ get_or A i n = subst (λ (l : List Vector). n ≡ get_or l i n) c.deref-normal-items.ensures.value c.normal-item.is in
    let p = err_from_is_err_and c.from_residual.result c.from_residual.ensures.1 in
    rw (p.1, p.2) (many_of (Contains (with_wall n lists)) (AreRaysOfFace k (InCone k R))
    (λ vs m. (full_pass c.requires.full vs).0 (found_early k A R i n lists h at c.loop-normal.invariant vs m)) c.in_err-lists.field-0.0 c.in_err-lists.ensures.fault)

pub loop-normal-preserved : goal.loop-normal-preserved
loop-normal-preserved c =
    let A = c.args.cone.now.facets.items in let i = c.loop-normal.normal-index in let n = c.normal-item.result in
    let h : i < length A = subst (λ (l : List Vector). i < length l) c.deref-normal-items.ensures.value c.loop-normal-test.true in
    let at : n ≡ get_or A i n = subst (λ (l : List Vector). n ≡ get_or l i n) c.deref-normal-items.ensures.value c.normal-item.is in
    passed_more c.args.k A c.args.cone.now.rays.items i n (map vectors_of c.loop-normal.lists.items) (map vectors_of c.in_ok-lists.lists.items) h at
    c.loop-normal.invariant c.in_ok-lists.ensures.same

pub returns-clause-each : goal.returns-clause-each
returns-clause-each c =
    let A = c.args.cone.now.facets.items in let i = c.loop-normal.normal-index in
    let h : length A ≤ i = subst (λ (l : List Vector). length l ≤ i) c.deref-normal-items.ensures.value c.loop-normal-test.false in
    let last = passed_last c.args.k A c.args.cone.now.rays.items i (map vectors_of c.loop-normal.lists.items) h c.loop-normal.invariant in
    λ vs. (λ m. (full_pass c.requires.full vs).0 ((last vs).0 m), λ f. (last vs).1 ((full_pass c.requires.full vs).1 f))
