use Rattle.std.proofs.Common.{ℕ, ◌+◌, get_or, ◌∙◌, ap, subst, arith, rules, SFits}
use Rattle.std.specs.Int.{w128, IsGcd}
use Rattle.std.specs.Int.RustNames.{unsigned_abs}
use Rattle.std.proofs.Math.IntN.{pos}
use Rattle.std.proofs.lemmas.Int.{to_z-of_z}
use Rattle.git_ints.proofs.Contents.{content_more, content_one}
use Rattle.git_ints.proofs.content.content.Goals as goal

pub loop-entry-preserved : goal.loop-entry-preserved
loop-entry-preserved c =
    let entry = get_or c.args.entries.now c.loop-entry.entry-index (pos 0) in
    let fits : SFits w128 entry = search rules in
    content_more c.args.entries.now c.loop-entry.entry-index c.loop-entry.all c.greatest_common_divisor-all.result (omega arith) c.loop-entry.invariant
    (subst (λ (n : ℕ). IsGcd c.loop-entry.all n c.greatest_common_divisor-all.result) (c.unsigned_abs.ensures.value ∙ ap unsigned_abs (to_z-of_z w128 entry fits)) c.greatest_common_divisor-all.ensures)

pub returns-then-all-eq1 : goal.returns-then-all-eq1
returns-then-all-eq1 c =
    let entry = get_or c.args.entries.now c.loop-entry.entry-index (pos 0) in
    let fits : SFits w128 entry = search rules in
    content_one c.args.entries.now (c.loop-entry.entry-index + 1) c.greatest_common_divisor-all.result
    (content_more c.args.entries.now c.loop-entry.entry-index c.loop-entry.all c.greatest_common_divisor-all.result (omega arith) c.loop-entry.invariant
    (subst (λ (n : ℕ). IsGcd c.loop-entry.all n c.greatest_common_divisor-all.result) (c.unsigned_abs.ensures.value ∙ ap unsigned_abs (to_z-of_z w128 entry fits)) c.greatest_common_divisor-all.ensures)) c.if-all-eq1.true
