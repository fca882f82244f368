use Rattle.std.proofs.Common.{◌<◌, List, map, subst}
use Rattle.std.specs.Global.{Vec}
use Rattle.git_ints.specs.declared.vector.IVec.{IVec}
use Rattle.git_allcones.specs.Faces.{lists_size}
use Rattle.git_allcones.specs.Sets.{vectors_of}
use Rattle.git_allcones.specs.declared.sets.TheConstants.{FACES}
use Rattle.git_allcones.proofs.AllFaces.{many_of_set}
use Rattle.git_allcones.proofs.sets.few_lists.Goals as goal

pub returns-then-are_more-clause-fault : goal.returns-then-are_more-clause-fault
returns-then-are_more-clause-fault c = many_of_set (map vectors_of c.args.lists.items) (map vectors_of c.list_set-set.result.items) c.list_set-set.ensures
    (subst (λ (l : List (Vec IVec)). FACES < lists_size (map vectors_of l)) c.deref.ensures.value (c.are_more.ensures.0 c.if-are_more.true))
