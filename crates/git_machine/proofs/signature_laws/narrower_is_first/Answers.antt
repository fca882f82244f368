use Rattle.git_machine.proofs.Words.{level, same_words}
use Rattle.git_machine.proofs.signature_laws.narrower_is_first.Goals as goal

pub returns : goal.returns
returns c = λ a b p q same. level a b (same_words a b p q same)
