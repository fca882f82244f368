use Rattle.std.proofs.Common.{◌+◌, [], take, List, subst, arith}
use Rattle.git_geometry.proofs.Stages.{exact_of_length}
use Rattle.git_geometry.specs.Stages.{Exact}
use Rattle.git_stages.specs.Prepared.{IsSortedSet}
use Rattle.git_stages.specs.Wide.{IsLeastOf}
use Rattle.git_dd.proofs.Extends.{exact_next, pointed_front}
use Rattle.git_dd.proofs.Lates.{rays_short, narrow_few, narrow_tidied, wide_entry, wide_many}
use Rattle.git_adjacency.proofs.Nexts.{vectors_long}
use Rattle.git_adjacency.specs.Marks.{vectors}
use Rattle.git_adjacency.specs.declared.ray.Ray.{Ray}
use Rattle.git_dd.proofs.extending.judged.Goals as goal

pub returns-in-Some-clause-wide : goal.returns-in-Some-clause-wide
returns-in-Some-clause-wide c =
    let k = c.args.k in let A = c.args.ordered.now in let n = c.args.n in let R = c.in-Ok.more.items in let V = vectors R in
    let exact : Exact k (take (n + 1) A) V = exact_next k A n [] (vectors c.args.rays.items) V c.requires.at (pointed_front k A k n c.requires.start c.requires.pointed) c.requires.exact c.in-Ok.ensures.next in
    let least : IsLeastOf V c.least_large_ray.result = subst (λ (u : List Ray). IsLeastOf (vectors u) c.least_large_ray.result) c.deref.ensures.value c.least_large_ray.ensures in
    wide_entry k n A V c.in-Some.v c.requires.start c.requires.at exact (subst (IsLeastOf V) c.in-Some.is least) c.requires.narrow

pub returns-then-len-le-MANY-clause-rays : goal.returns-then-len-le-MANY-clause-rays
returns-then-len-le-MANY-clause-rays c =
    let k = c.args.k in let A = c.args.ordered.now in let n = c.args.n in let R = c.in-Ok.more.items in let V = vectors R in
    let exact : Exact k (take (n + 1) A) V = exact_next k A n [] (vectors c.args.rays.items) V c.requires.at (pointed_front k A k n c.requires.start c.requires.pointed) c.requires.exact c.in-Ok.ensures.next in
    let least : IsLeastOf V c.least_large_ray.result = subst (λ (u : List Ray). IsLeastOf (vectors u) c.least_large_ray.result) c.deref.ensures.value c.least_large_ray.ensures in
    let none = subst (IsLeastOf V) c.in-None.is least in
    rays_short k (take (n + 1) A) c.args.width R c.in-Ok.ensures.marked (exact_of_length k (take (n + 1) A) V exact) none

pub returns-then-len-le-MANY-clause-exact : goal.returns-then-len-le-MANY-clause-exact
returns-then-len-le-MANY-clause-exact c =
    let k = c.args.k in let A = c.args.ordered.now in let n = c.args.n in let R = c.in-Ok.more.items in let V = vectors R in
    let exact : Exact k (take (n + 1) A) V = exact_next k A n [] (vectors c.args.rays.items) V c.requires.at (pointed_front k A k n c.requires.start c.requires.pointed) c.requires.exact c.in-Ok.ensures.next in
    let least : IsLeastOf V c.least_large_ray.result = subst (λ (u : List Ray). IsLeastOf (vectors u) c.least_large_ray.result) c.deref.ensures.value c.least_large_ray.ensures in
    exact

pub returns-then-len-le-MANY-clause-narrow : goal.returns-then-len-le-MANY-clause-narrow
returns-then-len-le-MANY-clause-narrow c =
    let k = c.args.k in let A = c.args.ordered.now in let n = c.args.n in let R = c.in-Ok.more.items in let V = vectors R in
    let exact : Exact k (take (n + 1) A) V = exact_next k A n [] (vectors c.args.rays.items) V c.requires.at (pointed_front k A k n c.requires.start c.requires.pointed) c.requires.exact c.in-Ok.ensures.next in
    let least : IsLeastOf V c.least_large_ray.result = subst (λ (u : List Ray). IsLeastOf (vectors u) c.least_large_ray.result) c.deref.ensures.value c.least_large_ray.ensures in
    let none = subst (IsLeastOf V) c.in-None.is least in
    narrow_few k n A V c.requires.start c.requires.at exact none (omega (arith, vectors_long R, c.len.ensures, c.if-len-le-MANY.true)) c.requires.narrow

pub returns-then-len-le-MANY-2-clause-rays : goal.returns-then-len-le-MANY-2-clause-rays
returns-then-len-le-MANY-2-clause-rays c =
    let k = c.args.k in let A = c.args.ordered.now in let n = c.args.n in let R = c.in-Ok.more.items in let V = vectors R in
    let exact : Exact k (take (n + 1) A) V = exact_next k A n [] (vectors c.args.rays.items) V c.requires.at (pointed_front k A k n c.requires.start c.requires.pointed) c.requires.exact c.in-Ok.ensures.next in
    let least : IsLeastOf V c.least_large_ray.result = subst (λ (u : List Ray). IsLeastOf (vectors u) c.least_large_ray.result) c.deref.ensures.value c.least_large_ray.ensures in
    let none = subst (IsLeastOf V) c.in-None.is least in
    rays_short k (take (n + 1) A) c.args.width R c.in-Ok.ensures.marked (exact_of_length k (take (n + 1) A) V exact) none

pub returns-then-len-le-MANY-2-clause-exact : goal.returns-then-len-le-MANY-2-clause-exact
returns-then-len-le-MANY-2-clause-exact c =
    let k = c.args.k in let A = c.args.ordered.now in let n = c.args.n in let R = c.in-Ok.more.items in let V = vectors R in
    let exact : Exact k (take (n + 1) A) V = exact_next k A n [] (vectors c.args.rays.items) V c.requires.at (pointed_front k A k n c.requires.start c.requires.pointed) c.requires.exact c.in-Ok.ensures.next in
    let least : IsLeastOf V c.least_large_ray.result = subst (λ (u : List Ray). IsLeastOf (vectors u) c.least_large_ray.result) c.deref.ensures.value c.least_large_ray.ensures in
    exact

pub returns-then-len-le-MANY-2-clause-narrow : goal.returns-then-len-le-MANY-2-clause-narrow
returns-then-len-le-MANY-2-clause-narrow c =
    let k = c.args.k in let A = c.args.ordered.now in let n = c.args.n in let R = c.in-Ok.more.items in let V = vectors R in
    let exact : Exact k (take (n + 1) A) V = exact_next k A n [] (vectors c.args.rays.items) V c.requires.at (pointed_front k A k n c.requires.start c.requires.pointed) c.requires.exact c.in-Ok.ensures.next in
    let least : IsLeastOf V c.least_large_ray.result = subst (λ (u : List Ray). IsLeastOf (vectors u) c.least_large_ray.result) c.deref.ensures.value c.least_large_ray.ensures in
    let none = subst (IsLeastOf V) c.in-None.is least in
    let tidy : IsSortedSet V c.in-Ok-distinct.list.items = subst (λ (u : List Ray). IsSortedSet (vectors u) c.in-Ok-distinct.list.items) c.deref-2.ensures.value c.in-Ok-distinct.ensures in
    narrow_tidied k n A V c.in-Ok-distinct.list.items c.requires.start c.requires.at exact none tidy (omega (arith, c.len-2.ensures, c.if-len-le-MANY-2.true)) c.requires.narrow

pub returns-clause-wide : goal.returns-clause-wide
returns-clause-wide c =
    let k = c.args.k in let A = c.args.ordered.now in let n = c.args.n in let R = c.in-Ok.more.items in let V = vectors R in
    let exact : Exact k (take (n + 1) A) V = exact_next k A n [] (vectors c.args.rays.items) V c.requires.at (pointed_front k A k n c.requires.start c.requires.pointed) c.requires.exact c.in-Ok.ensures.next in
    let least : IsLeastOf V c.least_large_ray.result = subst (λ (u : List Ray). IsLeastOf (vectors u) c.least_large_ray.result) c.deref.ensures.value c.least_large_ray.ensures in
    let none = subst (IsLeastOf V) c.in-None.is least in
    let tidy : IsSortedSet V c.in-Ok-distinct.list.items = subst (λ (u : List Ray). IsSortedSet (vectors u) c.in-Ok-distinct.list.items) c.deref-2.ensures.value c.in-Ok-distinct.ensures in
    wide_many k n A V c.in-Ok-distinct.list.items c.requires.start c.requires.at exact none tidy (omega (arith, c.len-2.ensures, c.if-len-le-MANY-2.false)) c.requires.narrow

pub next-requires-clause-pointed : goal.next-requires-clause-pointed
next-requires-clause-pointed c = pointed_front c.args.k c.args.ordered.now c.args.k c.args.n c.requires.start c.requires.pointed
