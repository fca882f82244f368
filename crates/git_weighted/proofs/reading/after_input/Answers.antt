use Rattle.std.proofs.Common.{◌≡◌, ◌∙◌, All, ap, drop, subst, List, ℕ}
use Rattle.std.proofs.lemmas.List.{take_rest}
use Rattle.git_weights.specs.Grammar.{IsWeights}
use Rattle.git_input.specs.Inputs.{InputValue}
use Rattle.git_stages.specs.Short.{IsShort}
use Rattle.git_weighted.proofs.WeightedTexts.{short_weights}
use Rattle.git_weighted.proofs.reading.after_input.Goals as goal

pub returns-in-Ok-clause-short : goal.returns-in-Ok-clause-short
returns-in-Ok-clause-short c =
    let same : c.k-k.result ≡ c.args.input.degrees.k = c.k-k.ensures.value ∙ ap (λ (x : InputValue). x.degrees.k) c.input.view_is in
    subst (λ (k : ℕ). All (IsShort k) c.in-Ok.weights.items) same (short_weights c.k-k.result (drop c.args.used c.args.bytes.now) c.in-Ok.weights.items (subst (λ (bs : List ℕ). IsWeights c.k-k.result bs c.in-Ok.weights.items) (take_rest c.args.bytes.now c.args.used) c.in-Ok.ensures.found))
