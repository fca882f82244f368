use Rattle.std.proofs.Common.{◌≡◌, ◌∙◌, ◌++◌, ◌+◌, ◌∷◌, [], List, ℕ, ap, append_assoc, codes, map}
use Rattle.std.specs.List.{flat_map, range_with_len}
use Rattle.std.specs.String.{string_bytes}
use Rattle.git_lines.specs.Printing.{line_text, number_line}
use Rattle.git_allcones.specs.Faces.{face_of}
use Rattle.git_cone_text.specs.ConesText.{dimension_text, verdict_text}
use Rattle.git_cone_text.proofs.printing.push_all.Goals as goal

pieces : (old a b c d : List ℕ) → (((old ++ a) ++ b) ++ c) ++ d ≡ old ++ (a ++ b ++ c ++ d)
pieces old a b c d = simp append_assoc

pub returns : goal.returns
returns c =
    let old = string_bytes c.args.out.now in
    let head = number_line (codes "gitfan-cones") 1 in
    let faces = flat_map (dimension_text (map face_of c.args.faces.now)) (range_with_len 0 (c.args.k + 1)) in
    let verdict = verdict_text c.args.verdict in
    let last = line_text (codes "end" ∷ []) in
    c.in_ok-push_str.ensures.bytes ∙ ap (λ (l : List ℕ). l ++ last) (c.in_ok-push_verdict.ensures ∙ ap (λ (l : List ℕ). l ++ verdict)
    (c.in_ok-push_dimensions.ensures ∙ ap (λ (l : List ℕ). l ++ faces) c.in_ok-push_number.ensures)) ∙ pieces old head faces verdict last
