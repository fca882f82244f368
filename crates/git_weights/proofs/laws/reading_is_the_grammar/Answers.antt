use Rattle.git_weights.proofs.ExactText.{takes, again}
use Rattle.git_weights.proofs.laws.reading_is_the_grammar.Goals as goal

pub returns : goal.returns
returns c = λ k bytes vs. (λ e. takes k bytes vs e, λ w. again k bytes vs w)
