use Rattle.git_algebra.proofs.Monomials.{times_comm, times_assoc, one-times, times_cancel, degree-times, divides_exactly, times-quotient, lcm_multiple, lcm_least}
use Rattle.git_algebra.proofs.monomials_multiply.Goals as goal

pub returns : goal.returns
returns c = record {
  commute = times_comm;
  associate = times_assoc;
  one_is_neutral = one-times;
  cancel = times_cancel;
  degrees_add = degree-times;
  divide_by_places = divides_exactly;
  quotient_is_the_cofactor = times-quotient;
  lcm_is_a_multiple = lcm_multiple;
  lcm_is_least = lcm_least;
}
