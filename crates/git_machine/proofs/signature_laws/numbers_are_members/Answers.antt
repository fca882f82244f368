use Rattle.git_machine.proofs.Words.{numbers_members, numbers_ascend}
use Rattle.git_machine.proofs.signature_laws.numbers_are_members.Goals as goal

pub returns : goal.returns
returns c = record { members = numbers_members; ascending = numbers_ascend }
