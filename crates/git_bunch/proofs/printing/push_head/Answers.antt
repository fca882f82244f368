use Rattle.std.proofs.Common.{◌∙◌, ◌++◌, List, ℕ, ap, append_assoc}
use Rattle.std.specs.Prelude.{codes}
use Rattle.std.specs.String.{string_bytes}
use Rattle.git_lines.specs.Printing.{number_line}
use Rattle.git_bunch.proofs.printing.push_head.Goals as goal

pub returns : goal.returns
returns c =
    c.in_ok-push_number-2.ensures
    ∙ ap (λ (t : List ℕ). t ++ number_line (codes "chambers") c.args.count) c.in_ok-push_number.ensures
    ∙ append_assoc (string_bytes c.args.out.now) (number_line (codes "gitfan-bunch") 1) (number_line (codes "chambers") c.args.count)
