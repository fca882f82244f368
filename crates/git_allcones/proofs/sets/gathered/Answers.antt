use Rattle.std.proofs.Common.{rules, ◌≡◌, ◌++◌, map}
use Rattle.std.proofs.lemmas.Result.{IfOk-weaker}
use Rattle.std.specs.Global.{Vec}
use Rattle.git_ints.specs.declared.vector.IVec.{IVec}
use Rattle.git_allcones.specs.Sets.{IsListSet, SameLists, vectors_of}
use Rattle.git_allcones.proofs.Passings.{joined_same}
use Rattle.git_allcones.proofs.sets.gathered.Goals as goal

pub returns-then-are_more-clause-same : goal.returns-then-are_more-clause-same
returns-then-are_more-clause-same c =
    let lists = c.args.lists.items in let more = c.args.more.items in let all = c.append.new.self.items in
    let e : all ≡ lists ++ more = search rules in
    IfOk-weaker c.few_lists.result (λ (v : Vec (Vec IVec)). IsListSet (map vectors_of all) (map vectors_of v.items))
    (λ (v : Vec (Vec IVec)). SameLists (map vectors_of v.items) (map vectors_of lists ++ map vectors_of more))
    (λ v s. joined_same all lists more (map vectors_of v.items) e s.same) c.few_lists.ensures.set
