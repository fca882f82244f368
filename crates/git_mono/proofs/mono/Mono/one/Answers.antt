use Rattle.std.proofs.Common.{refl}
use Rattle.git_algebra.specs.Exponents.{same_list, one, exponents_by}
use Rattle.git_algebra.specs.Exponents.{exponents_of}
use Rattle.git_mono.proofs.mono.Mono.one.Goals as goal

pub returns : goal.returns
unfolding one exponents_of exponents_by
returns c = same_list _ _ refl
