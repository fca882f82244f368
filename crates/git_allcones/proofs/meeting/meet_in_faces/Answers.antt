use Rattle.std.proofs.Common.{◌≡◌, ◌∙◌, ◌++◌, List, subst, sym}
use Rattle.git_defs.specs.Cones.{AreRays, Cut, InCone}
use Rattle.git_defs.specs.Vectors.{HasRank, Vector}
use Rattle.git_cone_faces.specs.Faces.{InBoth}
use Rattle.git_allcones.proofs.Meets.{common_rays, joined_rank, meet_faces, turned_rays}
use Rattle.git_allcones.proofs.meeting.meet_in_faces.Goals as goal

pub full_rays-requires-clause-rank : goal.full_rays-requires-clause-rank
full_rays-requires-clause-rank c =
    let A = c.args.one.now.facets.items in let B = c.args.other.now.facets.items in let k = c.args.k in
    let both : c.deref-3.result.now ≡ A ++ B = c.deref-3.ensures.value ∙ c.in-Ok.ensures ∙ (λ i. c.deref.ensures.value i ++ c.deref-2.ensures.value i) in
    subst (HasRank k) (sym both) (joined_rank k A B c.requires.one.full.facets_rank)

pub is_face_of-requires-clause-common : goal.is_face_of-requires-clause-common
is_face_of-requires-clause-common c =
    let R = c.args.one.now.rays.items in let S = c.args.other.now.rays.items in
    let A = c.args.one.now.facets.items in let B = c.args.other.now.facets.items in let k = c.args.k in
    let both : c.deref-3.result.now ≡ A ++ B = c.deref-3.ensures.value ∙ c.in-Ok.ensures ∙ (λ i. c.deref.ensures.value i ++ c.deref-2.ensures.value i) in
    let E = c.in-Ok-full_rays.common.items in
    let rays : AreRays k (Cut k (A ++ B)) E = subst (λ (u : List Vector). AreRays k (Cut k u) E) both c.in-Ok-full_rays.ensures.rays in
    subst (AreRays k (InBoth (InCone k R) (InCone k S))) (sym c.deref-in-Ok-full_rays.ensures.value)
    (common_rays k R A S B E c.requires.one.full c.requires.other.full rays)

pub is_face_of-requires-in-Ok-full_rays-clause-common : goal.is_face_of-requires-in-Ok-full_rays-clause-common
is_face_of-requires-in-Ok-full_rays-clause-common c =
    let R = c.args.one.now.rays.items in let S = c.args.other.now.rays.items in
    let A = c.args.one.now.facets.items in let B = c.args.other.now.facets.items in let k = c.args.k in
    let both : c.deref-3.result.now ≡ A ++ B = c.deref-3.ensures.value ∙ c.in-Ok.ensures ∙ (λ i. c.deref.ensures.value i ++ c.deref-2.ensures.value i) in
    let E = c.in-Ok-full_rays.common.items in
    let rays : AreRays k (Cut k (A ++ B)) E = subst (λ (u : List Vector). AreRays k (Cut k u) E) both c.in-Ok-full_rays.ensures.rays in
    subst (AreRays k (InBoth (InCone k S) (InCone k R))) (sym c.deref-in-Ok-full_rays-2.ensures.value)
    (turned_rays k (InCone k R) (InCone k S) E (common_rays k R A S B E c.requires.one.full c.requires.other.full rays))

pub returns-clause-exact : goal.returns-clause-exact
returns-clause-exact c =
    let m = meet_faces c.args.k (InCone c.args.k c.args.one.now.rays.items) (InCone c.args.k c.args.other.now.rays.items) in
    let f = c.in-Ok-is_face_of.ensures in
    let g = c.in-Ok-is_face_of-2.ensures in
    (λ t. let p = c.are_both.ensures.0 t in m.0 (f.0 p.0, g.0 p.1), λ h. let q = m.1 h in c.are_both.ensures.1 (f.1 q.0, g.1 q.1))
