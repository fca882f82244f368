use Rattle.std.proofs.Common.{refl, ◌≤◌, List, ◌∙◌, ap, subst, arith, get_or, rules, SFits}
use Rattle.std.specs.Int.{w128}
use Rattle.std.proofs.lemmas.Int.{to_z-of_z}
use Rattle.std.specs.Prelude.{All, ℤ, pos}
use Rattle.std.specs.Int.RustNames.{unsigned_abs}
use Rattle.std.proofs.lemmas.List.{take_all}
use Rattle.std.proofs.lemmas.List.Elements.{All-more}
use Rattle.git_cone_tests.proofs.orbits.are_entries.Goals as goal

pub loop-entry-preserved : goal.loop-entry-preserved
loop-entry-preserved c =
    let entry = get_or c.args.entries.now c.loop-entry.entry-index (pos 0) in
    let fits : SFits w128 entry = search rules in
    let is = c.unsigned_abs.ensures.value ∙ ap unsigned_abs (to_z-of_z w128 entry fits) in
    All-more (λ z. unsigned_abs z ≤ 1000) c.args.entries.now c.loop-entry.entry-index (pos 0) (omega arith) c.loop-entry.invariant (subst (λ n. n ≤ 1000) is c.if-unsigned_abs-gt1000.false)

pub returns : goal.returns
returns c t = subst (λ (u : List ℤ). All (λ z. unsigned_abs z ≤ 1000) u) (take_all c.loop-entry.entry-index c.args.entries.now c.loop-entry-test.false) c.loop-entry.invariant
