use Rattle.std.proofs.Common.{ℕ, ◌++◌, sym, ap, ◌∙◌, arith, Option}
use Rattle.git_table.specs.Views.{stacked}
use Rattle.git_table.specs.Stacks.{option_list}
use Rattle.git_table.proofs.Stacks.{stacked_put}
use Rattle.git_table.proofs.stack.put.Goals as goal

pub returns-in-Some-clause-stack : goal.returns-in-Some-clause-stack
returns-in-Some-clause-stack c =
    let t = c.told-spares in let r = c.requires in
    stacked_put c.args.spares.now c.args.count c.in-Some.number (omega arith) ∙ ap (λ (o : Option ℕ). option_list o ++ stacked c.args.spares.now c.args.count) (sym c.in-Some.is)
