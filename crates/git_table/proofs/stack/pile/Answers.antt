use Rattle.std.proofs.Common.{◌≡◌, ℕ, ◌+◌, List, ◌∷◌, ◌++◌, set, slice_index, sym, ap, ◌∙◌, arith, length-set}
use Rattle.git_table.specs.Views.{stacked}
use Rattle.git_table.proofs.Stacks.{stacked_put, stacked_next}
use Rattle.git_table.proofs.stack.pile.Goals as goal

pub loop-i-preserved : goal.loop-i-preserved
loop-i-preserved c =
    let inv = c.loop-i.invariant in let t = c.loop-i-test.true in let r = c.requires in let long = inv.1 in
    let x : ℕ = slice_index c.args.top.now c.loop-i.i in let at : ℕ = c.args.count + c.loop-i.i in
    let e : c.args.count + (c.loop-i.i + 1) ≡ at + 1 = omega arith in (
      ap (stacked (set c.loop-i.spares at x)) e ∙ (stacked_put c.loop-i.spares at x (omega arith) ∙ (ap (λ (l : List ℕ). x ∷ l) inv.0 ∙ ap (λ (l : List ℕ). l ++ stacked c.args.spares.now c.args.count) (sym (stacked_next c.args.top.now c.loop-i.i)))),
      length-set c.loop-i.spares at x ∙ long,
    )
