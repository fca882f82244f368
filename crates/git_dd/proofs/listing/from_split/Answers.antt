use Rattle.std.proofs.Common.{◌≡◌, ◌++◌, List, take, sym, ◌∙◌, ap, subst, map, Vec, Global, ℕ}
use Rattle.std.specs.Prelude.{All}
use Rattle.git_defs.specs.Vectors.{Vector}
use Rattle.git_geometry.specs.Stages.{Exact}
use Rattle.git_stages.specs.Prepared.{IsSortedSet}
use Rattle.git_stages.specs.Short.{IsShort}
use Rattle.git_dd.proofs.Ends.{ordered_few, ordered_pointed, ordered_exact, ordered_narrow, late_wide_fault, never_at, rays_at, list_short}
use Rattle.git_dd.proofs.Finals.{has_rank}
use Rattle.git_adjacency.specs.Marks.{vectors}
use Rattle.git_dd.specs.Tights.{AreAllTight}
use Rattle.git_dd.proofs.listing.from_split.Goals as goal

pub extended-requires-clause-few : goal.extended-requires-clause-few
extended-requires-clause-few c =
    let s = c.args.split in let k = c.args.k in let G = c.args.given.now in let P = c.args.prepared.now in let O = c.deref-5.result.now in
    let B = s.base.items in let F = s.free.items in let R = s.rays.items in let T = s.rest.items in
    let e : O ≡ B ++ T = c.deref-5.ensures.value ∙ c.in-Ok.ensures ∙ (λ i. c.deref.ensures.value i ++ c.deref-2.ensures.value i) in
    ordered_few k G P B F R T c.requires.is c.requires.given c.requires.progress c.requires.full O e c.requires.few

pub extended-requires-clause-pointed : goal.extended-requires-clause-pointed
extended-requires-clause-pointed c =
    let s = c.args.split in let k = c.args.k in let G = c.args.given.now in let P = c.args.prepared.now in let O = c.deref-5.result.now in
    let B = s.base.items in let F = s.free.items in let R = s.rays.items in let T = s.rest.items in
    let e : O ≡ B ++ T = c.deref-5.ensures.value ∙ c.in-Ok.ensures ∙ (λ i. c.deref.ensures.value i ++ c.deref-2.ensures.value i) in
    ordered_pointed k G P B F R T c.requires.is c.requires.given c.requires.progress c.requires.full O e

pub extended-requires-clause-exact : goal.extended-requires-clause-exact
extended-requires-clause-exact c =
    let s = c.args.split in let k = c.args.k in let G = c.args.given.now in let P = c.args.prepared.now in let O = c.deref-5.result.now in
    let B = s.base.items in let F = s.free.items in let R = s.rays.items in let T = s.rest.items in
    let e : O ≡ B ++ T = c.deref-5.ensures.value ∙ c.in-Ok.ensures ∙ (λ i. c.deref.ensures.value i ++ c.deref-2.ensures.value i) in
    subst (Exact k (take k O)) (sym (c.in-Ok-first_rays.ensures.vectors ∙ c.deref-4.ensures.value)) (ordered_exact k G P B F R T c.requires.is c.requires.given c.requires.progress c.requires.full O e)

pub extended-requires-clause-narrow : goal.extended-requires-clause-narrow
extended-requires-clause-narrow c =
    let s = c.args.split in let k = c.args.k in let G = c.args.given.now in let P = c.args.prepared.now in let O = c.deref-5.result.now in
    let B = s.base.items in let F = s.free.items in let R = s.rays.items in let T = s.rest.items in
    let e : O ≡ B ++ T = c.deref-5.ensures.value ∙ c.in-Ok.ensures ∙ (λ i. c.deref.ensures.value i ++ c.deref-2.ensures.value i) in
    ordered_narrow k G P B F R T c.requires.is c.requires.given c.requires.progress c.requires.full O e

pub returns-in-Err-clause-fault : goal.returns-in-Err-clause-fault
returns-in-Err-clause-fault c =
    let s = c.args.split in let k = c.args.k in let G = c.args.given.now in let P = c.args.prepared.now in let O = c.deref-5.result.now in
    let B = s.base.items in let F = s.free.items in let R = s.rays.items in let T = s.rest.items in
    let e : O ≡ B ++ T = c.deref-5.ensures.value ∙ c.in-Ok.ensures ∙ (λ i. c.deref.ensures.value i ++ c.deref-2.ensures.value i) in
    late_wide_fault k G P B F R T c.requires.is c.requires.given c.requires.progress c.requires.full O e c.in-Err.fault c.in-Err.ensures.wide

pub returns-clause-short : goal.returns-clause-short
returns-clause-short c =
    let s = c.args.split in let k = c.args.k in let G = c.args.given.now in let P = c.args.prepared.now in let O = c.deref-5.result.now in
    let B = s.base.items in let F = s.free.items in let R = s.rays.items in let T = s.rest.items in
    let e : O ≡ B ++ T = c.deref-5.ensures.value ∙ c.in-Ok.ensures ∙ (λ i. c.deref.ensures.value i ++ c.deref-2.ensures.value i) in
    let M = c.in-Ok-extended.more.items in
    let V = c.in-Ok-vectors_of.ensures ∙ ap vectors c.deref-in-Ok-extended.ensures.value in
    let tidy : IsSortedSet (vectors M) c.sorted_set.result.items = subst (λ (u : List Vector). IsSortedSet u c.sorted_set.result.items) V c.sorted_set.ensures.sorted in
    list_short k O _ M c.sorted_set.result.items c.in-Ok-extended.ensures.rays tidy

pub returns-clause-rays : goal.returns-clause-rays
returns-clause-rays c =
    let s = c.args.split in let k = c.args.k in let G = c.args.given.now in let P = c.args.prepared.now in let O = c.deref-5.result.now in
    let B = s.base.items in let F = s.free.items in let R = s.rays.items in let T = s.rest.items in
    let e : O ≡ B ++ T = c.deref-5.ensures.value ∙ c.in-Ok.ensures ∙ (λ i. c.deref.ensures.value i ++ c.deref-2.ensures.value i) in
    let M = c.in-Ok-extended.more.items in
    let V = c.in-Ok-vectors_of.ensures ∙ ap vectors c.deref-in-Ok-extended.ensures.value in
    let tidy : IsSortedSet (vectors M) c.sorted_set.result.items = subst (λ (u : List Vector). IsSortedSet u c.sorted_set.result.items) V c.sorted_set.ensures.sorted in
    rays_at k G P B F R T c.requires.is c.requires.given c.requires.progress c.requires.full O e (vectors M) c.sorted_set.result.items c.in-Ok-extended.ensures.exact tidy

pub returns-clause-narrow : goal.returns-clause-narrow
returns-clause-narrow c =
    let s = c.args.split in let k = c.args.k in let G = c.args.given.now in let P = c.args.prepared.now in let O = c.deref-5.result.now in
    let B = s.base.items in let F = s.free.items in let R = s.rays.items in let T = s.rest.items in
    let e : O ≡ B ++ T = c.deref-5.ensures.value ∙ c.in-Ok.ensures ∙ (λ i. c.deref.ensures.value i ++ c.deref-2.ensures.value i) in
    (has_rank k G P B F R T c.requires.is c.requires.given c.requires.progress c.requires.full, never_at k G P B F R T c.requires.is c.requires.given c.requires.progress c.requires.full O e c.in-Ok-extended.ensures.narrow)
