use Rattle.std.proofs.Common.{◌≡◌, ◌++◌, ◌∙◌, ap, to_z, of_z, arith, ℤ}
use Rattle.std.specs.Int.{w128}
use Rattle.std.specs.Fmt.{signed_decimal}
use Rattle.std.specs.String.{string_bytes}
use Rattle.std.proofs.lemmas.Int.{to_z-of_z, ints}
use Rattle.git_text.proofs.WrittenTexts.{row_written, others_are}
use Rattle.git_text.proofs.writing.push_row.Goals as goal

pub returns-in_ok-push_str : goal.returns-in_ok-push_str
returns-in_ok-push_str c =
    let entry : ℤ = c.entry-entry.result in
    let kept : to_z w128 (of_z w128 entry) ≡ entry = to_z-of_z w128 entry (omega (arith, ints, c.entry-entry.type_inv)) in
    let written = c.in_ok-write.ensures.bytes ∙ ap (λ (z : ℤ). string_bytes c.args.out.now ++ signed_decimal z) kept in
    row_written c.args.columns.now _ c.args.i c.first-item.result entry _ _ _ _ c.requires.some c.first-item.is (others_are c.args.columns.now) c.entry-entry.ensures written c.in_ok-push_entries.ensures c.in_ok-push_str.ensures.bytes
