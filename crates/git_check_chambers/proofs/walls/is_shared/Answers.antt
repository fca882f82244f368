use Rattle.std.proofs.Common.{◌≡◌, ◌∙◌, ap, true, false, sym}
use Rattle.std.proofs.Math.IntN.{negsuc}
use Rattle.git_defs.specs.Vectors.{scale}
use Rattle.git_cone_faces.specs.Faces.{on_wall}
use Rattle.git_check_chambers.proofs.Marks.{has_tells}
use Rattle.git_check_chambers.proofs.walls.is_shared.Goals as goal

pub returns-then-not-has_normal : goal.returns-then-not-has_normal
returns-then-not-has_normal c =
    let tells = has_tells c.args.other.now.facets.items c.deref.result.now (scale (negsuc 0) c.args.normal.now) c.negated.result c.has_normal.result c.deref.ensures.value c.negated.ensures c.has_normal.ensures in
    (λ t. absurd (cc t), λ m. let t : true ≡ false = sym (tells.1 m.facet) ∙ c.if-not-has_normal.true in cc t)

pub returns : goal.returns
returns c =
    let n = c.args.normal.now in
    let tells = has_tells c.args.other.now.facets.items c.deref.result.now (scale (negsuc 0) n) c.negated.result c.has_normal.result c.deref.ensures.value c.negated.ensures c.has_normal.ensures in
    let one : c.deref-3.result.now ≡ on_wall n c.args.rays.now = c.deref-3.ensures.value ∙ c.in_ok-one.ensures in
    let two : c.deref-4.result.now ≡ on_wall n c.args.other.now.rays.items = c.deref-4.ensures.value ∙ c.in_ok-two.ensures ∙ ap (on_wall n) c.deref-2.ensures.value in (
      λ t. record { facet = tells.0 c.if-not-has_normal.false; wall = sym one ∙ c.are_same.ensures.0 t ∙ two },
      λ m. c.are_same.ensures.1 (one ∙ m.wall ∙ sym two),
    )
