use Rattle.git_algebra.proofs.Restriction.{restricted-plus, restricted-multiplied, restricted-one, coefficient-restricted}
use Rattle.git_algebra.proofs.restriction_keeps_sums_and_products.Goals as goal

pub returns : goal.returns
returns c = record { sum = restricted-plus; product = restricted-multiplied; one = restricted-one; kept = coefficient-restricted }
