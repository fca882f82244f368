use Rattle.std.proofs.Common.{◌∷◌, ◌++◌, ◌∙◌, [], map, length}
use Rattle.std.specs.Prelude.{codes}
use Rattle.std.specs.List.{range_with_len}
use Rattle.std.specs.Fmt.{decimal}
use Rattle.std.specs.String.{string_bytes}
use Rattle.git_lines.specs.Lines.{ended}
use Rattle.git_lines.specs.Printing.{spaced}
use Rattle.git_polytext.specs.Printing.{polynomial_text}
use Rattle.git_text.specs.Writing.{row_line_text}
use Rattle.git_text.proofs.WrittenTexts.{text_written}
use Rattle.git_text.proofs.writing.push_input.Goals as goal

pub returns : goal.returns
returns c =
    let d = c.args.grading.now in let ps = c.args.generators.now in
    let head = c.in_ok-push_head.ensures
    ∙ (λ i. string_bytes c.args.out.now ++ ended (codes "gitfan 1") ++ ended (spaced (codes "grading" ∷ decimal (c.k.ensures.value i) ∷ decimal (c.r.ensures.value i) ∷ []))) in
    text_written (map (row_line_text d.columns) (range_with_len 0 d.k)) (map polynomial_text ps) (codes "gitfan 1") (spaced (codes "grading" ∷ decimal d.k ∷ decimal (length d.columns) ∷ []))
    (spaced (codes "ideal" ∷ decimal (length ps) ∷ [])) (codes "end") _ _ _ _ _ _ head c.in_ok-push_rows.ensures c.in_ok-push_count.ensures c.in_ok-push_generators.ensures c.in_ok-push_str.ensures.bytes
