use Rattle.git_algebra.proofs.Ring.{plus_comm, plus_assoc, zero-plus, minus-plus, multiplied_comm, multiplied_assoc, one-multiplied, multiplied-plus}
use Rattle.git_algebra.proofs.polynomials_are_a_ring.Goals as goal

pub returns : goal.returns
returns c = record {
  sums_commute = plus_comm;
  sums_associate = plus_assoc;
  zero_is_neutral = zero-plus;
  differences = minus-plus;
  products_commute = multiplied_comm;
  products_associate = multiplied_assoc;
  one_is_neutral = one-multiplied;
  products_distribute = multiplied-plus;
}
