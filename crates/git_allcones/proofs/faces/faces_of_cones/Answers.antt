use Rattle.std.proofs.Common.{◌+◌, ◌++◌, ◌∷◌, [], Contains, List, map, subst, sym, take}
use Rattle.std.proofs.lemmas.List.{take_all}
use Rattle.std.proofs.lemmas.Result.{IfErr-weaker, IfOk-weaker, err_from_is_err_and}
use Rattle.std.specs.Global.{Vec}
use Rattle.git_defs.specs.Cones.{InCone}
use Rattle.git_ints.specs.declared.vector.IVec.{IVec}
use Rattle.git_lemmas.specs.Members.{Member}
use Rattle.git_cone_faces.specs.Faces.{AreRaysOfFace}
use Rattle.git_cone_faces.specs.Families.{AreRaysOfSomeFace, Cone}
use Rattle.git_allcones.specs.declared.cones.ListedCone.{ListedCone}
use Rattle.git_allcones.specs.Cones.{cone_of}
use Rattle.git_allcones.specs.Faces.{IsAllFault}
use Rattle.git_allcones.specs.Sets.{IsListSet, vectors_of}
use Rattle.git_allcones.proofs.AllFaces.{AreFacesOf, face_of_fewer, face_of_listed, faces_more, front_cones, some_of_more, within_front}
use Rattle.git_allcones.proofs.Pairs.{short_is}
use Rattle.git_allcones.proofs.Sizes.{many_of}
use Rattle.git_allcones.proofs.Sorts.{at_place, seen}
use Rattle.git_allcones.proofs.faces.faces_of_cones.Goals as goal

pub faces_of_cone-requires : goal.faces_of_cone-requires
faces_of_cone-requires c = short_is c.args.k c.args.cones.now c.loop-cone.cone-index c.cone-item.result c.requires.each c.loop-cone-test.true c.cone-item.is

pub returns-in_err-faces-clause-fault : goal.returns-in_err-faces-clause-fault
returns-in_err-faces-clause-fault c =
    let k = c.args.k in let cones = c.args.cones.now in let i = c.loop-cone.cone-index in let C = c.cone-item.result in
    let p = err_from_is_err_and c.from_residual.result c.from_residual.ensures.1 in
    rw (p.1, p.2) (many_of (AreRaysOfFace k (InCone k C.rays.items)) (AreRaysOfSomeFace k (map cone_of cones))
    (λ vs f. face_of_listed k (map cone_of cones) (cone_of C) vs (seen cone_of C cones (at_place cones i C c.loop-cone-test.true c.cone-item.is)) f)
    c.in_err-faces.field-0.0 c.in_err-faces.ensures.fault)

pub returns-in_err-all-clause-fault : goal.returns-in_err-all-clause-fault
returns-in_err-all-clause-fault c =
    let k = c.args.k in let cones = c.args.cones.now in let i = c.loop-cone.cone-index in let C = c.cone-item.result in
    let lists = map vectors_of c.loop-cone.all.items in let faces = map vectors_of c.in_ok-faces.faces.items in
    let some = map cone_of (take i cones) in
    let more = some_of_more k some (cone_of C) lists faces c.loop-cone.invariant c.in_ok-faces.ensures.each in
    let front = front_cones cones i C c.loop-cone-test.true c.cone-item.is in
    let p = err_from_is_err_and c.from_residual-in_err-all.result c.from_residual-in_err-all.ensures.1 in
    rw (p.1, p.2) (many_of (Contains (lists ++ faces)) (AreRaysOfSomeFace k (map cone_of cones))
    (λ vs m. face_of_fewer k (some ++ cone_of C ∷ []) (map cone_of cones) vs
    (λ D o. within_front cones (i + 1) D (subst (λ (u : List Cone). Member D u) (sym front) o)) ((more vs).0 m))
    c.in_err-all.field-0.0 c.in_err-all.ensures.fault)

pub loop-cone-preserved : goal.loop-cone-preserved
loop-cone-preserved c =
    let k = c.args.k in let cones = c.args.cones.now in let i = c.loop-cone.cone-index in let C = c.cone-item.result in
    let all = map vectors_of c.in_ok-all.all.items in
    subst (λ (u : List Cone). AreFacesOf k u all) (sym (front_cones cones i C c.loop-cone-test.true c.cone-item.is))
    (faces_more k (map cone_of (take i cones)) (cone_of C) (map vectors_of c.loop-cone.all.items) (map vectors_of c.in_ok-faces.faces.items) all
    c.loop-cone.invariant c.in_ok-faces.ensures.each c.in_ok-all.ensures.same)

pub returns-clause-each : goal.returns-clause-each
returns-clause-each c =
    let k = c.args.k in let cones = c.args.cones.now in let lists = map vectors_of c.loop-cone.all.items in
    let all : AreFacesOf k (map cone_of cones) lists = subst (λ (u : List ListedCone). AreFacesOf k (map cone_of u) lists)
    (take_all c.loop-cone.cone-index cones c.loop-cone-test.false) c.loop-cone.invariant in
    IfOk-weaker c.few_lists.result (λ (v : Vec (Vec IVec)). IsListSet lists (map vectors_of v.items))
    (λ (v : Vec (Vec IVec)). AreFacesOf k (map cone_of cones) (map vectors_of v.items))
    (λ v s vs. (λ m. (all vs).0 ((s.same vs).0 m), λ f. (s.same vs).1 ((all vs).1 f))) c.few_lists.ensures.set

pub returns-clause-fault : goal.returns-clause-fault
returns-clause-fault c =
    let k = c.args.k in let cones = c.args.cones.now in let lists = map vectors_of c.loop-cone.all.items in
    let all : AreFacesOf k (map cone_of cones) lists = subst (λ (u : List ListedCone). AreFacesOf k (map cone_of u) lists)
    (take_all c.loop-cone.cone-index cones c.loop-cone-test.false) c.loop-cone.invariant in
    IfErr-weaker c.few_lists.result (IsAllFault (Contains lists)) (IsAllFault (AreRaysOfSomeFace k (map cone_of cones)))
    (λ f h. many_of (Contains lists) (AreRaysOfSomeFace k (map cone_of cones)) (λ vs m. (all vs).0 m) f h) c.few_lists.ensures.fault
