use Rattle.std.proofs.Common.{◌≡◌, ◌⊎◌, ◌^◌, ◌*◌, ◌/◌, ◌%◌, ℕ, get_or, set, arith, sym, ◌∙◌, subst}
use Rattle.std.specs.Prelude.{◌↔◌}
use Rattle.std.specs.Int.RustNames.{bit_or}
use Rattle.git_adjacency.proofs.Bits.{mark_each, any_number}
use Rattle.git_adjacency.specs.Marks.{HasMark}
use Rattle.git_adjacency.proofs.marks.mark.Goals as goal

pub returns-clause-each : goal.returns-clause-each
returns-clause-each c =
    let X = c.args.words.now.items in
    let bit = c.args.bit in
    let e : c.index_mut.result.now ≡ get_or X (bit / 64) 0 = c.index_mut.ensures.value ∙ any_number X (bit / 64) c.index_mut.result.now 0 (omega (arith, c.requires)) in
    λ j. subst (λ (n : ℕ). HasMark (set X (bit / 64) (bit_or n (1 * 2 ^ (bit % 64) % 2 ^ 64))) j ↔ (HasMark X j ⊎ (j ≡ bit))) (sym e) (mark_each X bit c.requires j)
