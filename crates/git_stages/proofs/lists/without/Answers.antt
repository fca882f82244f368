use Rattle.std.proofs.Common.{◌∙◌, ap, take, drop, length, ◌-◌, ◌++◌, ◌+◌, List}
use Rattle.git_defs.specs.Vectors.{Vector}
use Rattle.git_stages.proofs.Fronts.{tail_whole}
use Rattle.git_stages.proofs.lists.without.Goals as goal

pub returns : goal.returns
returns c =
    let F = c.args.vs.now in
    let i = c.args.i in
    c.in_ok-append-2.ensures ∙ ap (λ (u : List Vector). u ++ take (length F - (i + 1)) (drop (i + 1) F)) (c.in_ok-append.ensures ∙ ap (λ (u : List Vector). u ++ take i F) c.new-out.ensures.items) ∙ ap (λ (u : List Vector). take i F ++ u) (tail_whole F (i + 1))
