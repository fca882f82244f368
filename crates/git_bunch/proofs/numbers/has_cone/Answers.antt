use Rattle.std.proofs.Common.{◌≡◌, ◌∙◌, List, ap, subst}
use Rattle.std.specs.Prelude.{◌↔◌, IsTrue}
use Rattle.git_defs.specs.Vectors.{Vector}
use Rattle.git_canon.specs.Canons.{Described}
use Rattle.git_stages.proofs.Shorts.{short_length}
use Rattle.git_bunch.specs.Keys.{MeetsRays}
use Rattle.git_bunch.proofs.Columns.{canon_seen, cone_by_masks, mask_within, untrue}
use Rattle.git_bunch.proofs.numbers.has_cone.Goals as goal

pub returns-then-mask-columns_in : goal.returns-then-mask-columns_in
returns-then-mask-columns_in c =
    let k = c.args.k in
    let Q = c.args.columns.now in (
      λ f. absurd (untrue f),
      λ same. absurd (c.if-mask-columns_in.true
          (mask_within k Q c.args.cone.now.facets c.args.mask c.columns_in.result (short_length k Q c.requires.columns) c.requires.mask c.columns_in.ensures same)),
    )

pub returns : goal.returns
returns c =
    let k = c.args.k in
    let Q = c.args.columns.now in
    let d = c.args.cone.now in
    let canon = canon_seen k _ d c.cone.view_is c.requires.entries c.cone.invariant.canon in
    let by = cone_by_masks k Q d.rays d.facets (short_length k Q c.requires.columns) canon c.args.mask c.columns_in.result c.requires.mask c.columns_in.ensures in
    let rays : c.deref.result.now ≡ d.rays = c.deref.ensures.value ∙ ap (λ (x : Described). x.rays) c.cone.view_is in
    let meets = subst (λ (rs : List Vector). IsTrue c.meets_rays.result ↔ MeetsRays Q rs c.args.mask) rays c.meets_rays.ensures in
    (λ h. by.0 (c.if-mask-columns_in.false, meets.0 h), λ same. meets.1 (by.1 same).1)
