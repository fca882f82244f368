use Rattle.std.proofs.Common.{◌∙◌, ◌++◌, List, ℕ, ap, append_assoc, map, sym}
use Rattle.std.specs.List.{flat_map, range_with_len}
use Rattle.std.specs.String.{string_bytes}
use Rattle.git_allcones.specs.Faces.{face_of}
use Rattle.git_cone_text.specs.ConesText.{dimension_text}
use Rattle.git_cone_text.proofs.Shown.{flat_more}
use Rattle.git_cone_text.proofs.printing.push_dimensions.Goals as goal

pub loop-dimension-preserved : goal.loop-dimension-preserved
loop-dimension-preserved c =
    let text = dimension_text (map face_of c.args.faces.now) in
    let d = c.loop-dimension.dimension in
    let old = string_bytes c.args.out.now in
    c.in_ok-push_dimension.ensures ∙ ap (λ (l : List ℕ). l ++ text d) c.loop-dimension.invariant
    ∙ append_assoc old (flat_map text (range_with_len 0 d)) (text d) ∙ ap (λ (l : List ℕ). old ++ l) (sym (flat_more text d))
