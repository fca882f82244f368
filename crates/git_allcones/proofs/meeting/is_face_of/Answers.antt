use Rattle.std.proofs.Common.{◌↔◌, All, Contains, IsTrue, List, subst, sym}
use Rattle.git_defs.specs.Cones.{Cut}
use Rattle.git_defs.specs.Vectors.{Vector}
use Rattle.git_stages.specs.Short.{IsShort}
use Rattle.git_allcones.specs.Meets.{AreLevel, IsLevelOn}
use Rattle.git_allcones.proofs.Meets.{face_exactly, level_short}
use Rattle.git_allcones.proofs.meeting.is_face_of.Goals as goal

pub holds_level-requires-clause-normals : goal.holds_level-requires-clause-normals
holds_level-requires-clause-normals c =
    let A = c.args.one.now.facets.items in let E = c.args.common.now in let k = c.args.k in
    let L = c.in_ok-level.level.items in
    let t : AreLevel A E L = subst (λ (u : List Vector). AreLevel u E L) c.deref.ensures.value c.in_ok-level.ensures in
    subst (All (IsShort k)) (sym c.deref-3.ensures.value) (level_short k A E L t c.requires.one.facets_short)

pub returns : goal.returns
returns c =
    let R = c.args.one.now.rays.items in let S = c.args.other.now.rays.items in
    let A = c.args.one.now.facets.items in let B = c.args.other.now.facets.items in let E = c.args.common.now in let k = c.args.k in
    let L = c.in_ok-level.level.items in
    let levels : AreLevel A E L = subst (λ (u : List Vector). AreLevel u E L) c.deref.ensures.value c.in_ok-level.ensures in
    let yes = c.holds_level.result in
    let h1 = subst (λ (u : List Vector). IsTrue yes ↔ ((r : Vector) → Contains u r → IsLevelOn r c.deref-3.result.now → Cut k c.deref-4.result.now r))
    c.deref-2.ensures.value c.holds_level.ensures in
    let h2 = subst (λ (u : List Vector). IsTrue yes ↔ ((r : Vector) → Contains R r → IsLevelOn r u → Cut k c.deref-4.result.now r)) c.deref-3.ensures.value h1 in
    let h3 : IsTrue yes ↔ ((r : Vector) → Contains R r → IsLevelOn r L → Cut k B r) =
    subst (λ (u : List Vector). IsTrue yes ↔ ((r : Vector) → Contains R r → IsLevelOn r L → Cut k u r)) c.deref-4.ensures.value h2 in
    let exact = face_exactly k R A S B E L c.requires.one.full c.requires.other.full c.requires.common levels in
    (λ t. exact.1 (h3.0 t), λ f. h3.1 (exact.0 f))
