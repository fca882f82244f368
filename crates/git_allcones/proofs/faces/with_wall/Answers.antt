use Rattle.std.proofs.Common.{rules, ◌≡◌, ◌++◌, ◌∙◌, List, ap, map, subst}
use Rattle.std.proofs.lemmas.Result.{IfOk-weaker}
use Rattle.std.specs.Global.{Vec}
use Rattle.git_defs.specs.Vectors.{Vector}
use Rattle.git_ints.specs.declared.vector.IVec.{IVec}
use Rattle.git_cone_faces.specs.Faces.{on_wall}
use Rattle.git_cone_faces.specs.Filters.{with_wall}
use Rattle.git_allcones.specs.Sets.{IsListSet, SameLists, vectors_of}
use Rattle.git_allcones.proofs.Passings.{joined_same}
use Rattle.git_allcones.proofs.faces.with_wall.Goals as goal

pub returns-clause-same : goal.returns-clause-same
returns-clause-same c =
    let lists = c.args.lists.items in let n = c.args.normal.now in let level = c.in-Ok.level.items in let all = c.append.new.self.items in
    let e : all ≡ lists ++ level = search rules in
    let walls : map vectors_of level ≡ map (on_wall n) (map vectors_of lists) =
    c.in-Ok.ensures ∙ ap (λ (l : List (Vec IVec)). map (on_wall n) (map vectors_of l)) c.deref.ensures.value in
    IfOk-weaker c.few_lists.result (λ (v : Vec (Vec IVec)). IsListSet (map vectors_of all) (map vectors_of v.items))
    (λ (v : Vec (Vec IVec)). SameLists (map vectors_of v.items) (with_wall n (map vectors_of lists)))
    (λ v s. subst (λ (u : List (List Vector)). SameLists (map vectors_of v.items) (map vectors_of lists ++ u)) walls
    (joined_same all lists level (map vectors_of v.items) e s.same)) c.few_lists.ensures.set
