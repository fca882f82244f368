use Rattle.std.proofs.Common.{◌≡◌, List, refl, subst}
use Rattle.std.specs.Prelude.{◌↔◌, IsTrue}
use Rattle.git_defs.specs.Vectors.{Vector}
use Rattle.git_defs.specs.Cones.{InCone, SameSet}
use Rattle.git_canon.specs.Canons.{Described, entries_of}
use Rattle.git_canon.proofs.Cones.{same_exactly}
use Rattle.git_canon.proofs.canon.Canon.same.Goals as goal

pub returns : goal.returns
returns c =
    let us = c.self.inside.rays.items in let vs = c.other.inside.rays.items in
    let same = same_exactly (entries_of us) (entries_of vs) us vs c.self.inside.facets.items c.other.inside.facets.items refl refl c.self.invariant c.other.invariant in
    let one = subst (λ (d : Described). (us ≡ vs) ↔ SameSet (InCone d.k d.rays) (InCone (entries_of vs) vs)) c.self.view_is same in
    let both = subst (λ (d : Described). (us ≡ vs) ↔ SameSet (InCone c.args.self.now.k c.args.self.now.rays) (InCone d.k d.rays)) c.other.view_is one in
    let lists : IsTrue c.are_same.result ↔ (us ≡ vs) = subst (λ (l : List Vector). IsTrue c.are_same.result ↔ (l ≡ vs)) c.deref.ensures.value (subst (λ (l : List Vector). IsTrue c.are_same.result ↔ (c.deref.result.now ≡ l)) c.deref-2.ensures.value c.are_same.ensures) in
    (λ t. both.0 (lists.0 t), λ s. lists.1 (both.1 s))
