use Rattle.std.proofs.Common.{◌≡◌, ◌∙◌, ◌++◌, List, ℕ, ap, append_assoc, length, map}
use Rattle.std.specs.List.{flat_map}
use Rattle.std.specs.String.{string_bytes}
use Rattle.git_allcones.specs.Faces.{face_of}
use Rattle.git_cone_text.specs.ConesText.{cone_text, count_text, faces_of}
use Rattle.git_cone_text.proofs.Shown.{counted}
use Rattle.git_cone_text.proofs.printing.push_dimension.Goals as goal

pieces : (old a b : List ℕ) → (old ++ a) ++ b ≡ old ++ (a ++ b)
pieces old a b = simp append_assoc

pub returns : goal.returns
returns c =
    let old = string_bytes c.args.out.now in
    let d = c.args.dimension in
    let faces = faces_of d (map face_of c.args.faces.now) in
    let count : c.faces_among-count.result ≡ length faces = c.faces_among-count.ensures ∙ counted d c.args.faces.now in
    c.in_ok-push_cones.ensures ∙ ap (λ (l : List ℕ). l ++ flat_map cone_text faces) (c.in_ok-push_count.ensures ∙ ap (λ (n : ℕ). old ++ count_text d n) count)
    ∙ pieces old (count_text d (length faces)) (flat_map cone_text faces)
