use Rattle.git_text.proofs.WholeTexts.{reading_takes, reading_again}
use Rattle.git_text.proofs.laws.reading_is_the_grammar.Goals as goal

pub returns : goal.returns
returns c = λ bytes v. (reading_takes bytes v, reading_again bytes v)
