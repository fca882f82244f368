use Rattle.git_lemmas.proofs.Members.{contains_member, member_contains}
use Rattle.git_defs.proofs.members_are_contained.Goals as goal

pub returns : goal.returns
returns c = λ x vs. (member_contains x vs, contains_member x vs)
