use Rattle.git_algebra.proofs.Ranks.{rank-precedes, precedes_from_rank, rank_injective, rank-one_least, rank-times, rank-degree}
use Rattle.git_algebra.proofs.monomials_are_ordered.Goals as goal

pub returns : goal.returns
returns c = record {
  by_rank = λ a b. (rank-precedes a b, precedes_from_rank a b);
  total = rank_injective;
  least = rank-one_least;
  kept = rank-times;
  graded = rank-degree;
}
