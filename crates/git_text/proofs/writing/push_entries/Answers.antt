use Rattle.std.proofs.Common.{◌≡◌, ◌++◌, ◌∷◌, ◌∙◌, ap, to_z, of_z, arith, ℤ}
use Rattle.std.specs.Int.{w128}
use Rattle.std.specs.Fmt.{signed_decimal}
use Rattle.std.specs.String.{string_bytes}
use Rattle.std.proofs.lemmas.Int.{to_z-of_z, ints}
use Rattle.git_text.proofs.WrittenTexts.{entry_written}
use Rattle.git_text.proofs.writing.push_entries.Goals as goal

pub loop-column-preserved : goal.loop-column-preserved
loop-column-preserved c =
    let entry : ℤ = c.entry-entry.result in
    let kept : to_z w128 (of_z w128 entry) ≡ entry = to_z-of_z w128 entry (omega (arith, ints, c.entry-entry.type_inv)) in
    let written = c.in_ok-write.ensures.bytes ∙ ap (λ (z : ℤ). string_bytes c.loop-column.out ++ (32 ∷ signed_decimal z)) kept in
    entry_written c.args.columns.now c.args.i c.loop-column.column-index c.column-item.result entry _ _ _ c.loop-column-test.true c.column-item.is c.entry-entry.ensures written c.loop-column.invariant
