use Rattle.std.proofs.Common.{ap}
use Rattle.std.specs.Ordering.{is_eq}
use Rattle.git_machine.specs.Ties.{signature_total, equal_words, level_words}
use Rattle.git_machine.proofs.signature_laws.order_is_total.Goals as goal

pub returns : goal.returns
returns c = record { total = signature_total; level = λ a b e. (equal_words a b).0 (level_words a b (ap is_eq e)) }
