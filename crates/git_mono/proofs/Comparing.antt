-- What a comparison by total degree, or at the last place that differs, says of the ranks.
use Rattle.std.proofs.Common.{ℕ, ◌<◌, ◌≡◌, ◌≢◌, sym, ap, ◌∙◌, inr, true, false}
use Rattle.std.specs.declared.cmp.Ordering.{Ordering}
use Rattle.std.specs.declared.cmp.Ordering.TheVariants.{Less, Equal, Greater}
use Rattle.std.specs.Ordering.{is_ne, nat_cmp, MatchOrdering}
use Rattle.std.specs.Cmp.{ranked, ranks, nat_cmp_is}
use Rattle.git_algebra.specs.Exponents.{Exponents, exponent, degree}
use Rattle.git_algebra.specs.Order.{rank}
use Rattle.git_algebra.proofs.Monomials.{same_exponents}
use Rattle.git_algebra.proofs.Ranks.{rank-degree, rank-precedes}

pub compared_by_degree : (a b : Exponents) → degree a ≢ degree b → nat_cmp (degree a) (degree b) ≡ nat_cmp (rank a) (rank b)
compared_by_degree a b apart = by (nat_cmp (degree a) (degree b)) (ranks (degree a) (degree b))
  where
    by : (r : Ordering) → MatchOrdering r (degree a < degree b) (degree a ≡ degree b) (degree b < degree a) → r ≡ nat_cmp (rank a) (rank b)
    by Less h = nat_cmp_is _ _ Less (rank-degree a b h)
    by Equal h = absurd (apart h)
    by Greater h = nat_cmp_is _ _ Greater (rank-degree b a h)

pub compared_by_place : (a b : Exponents) → degree a ≡ degree b → (i : ℕ) → ((k : ℕ) → i < k → exponent a k ≡ exponent b k) → exponent a i ≢ exponent b i
    → nat_cmp (exponent b i) (exponent a i) ≡ nat_cmp (rank a) (rank b)
compared_by_place a b same i after apart = by (nat_cmp (exponent b i) (exponent a i)) (ranks (exponent b i) (exponent a i))
  where
    by : (r : Ordering) → MatchOrdering r (exponent b i < exponent a i) (exponent b i ≡ exponent a i) (exponent a i < exponent b i) → r ≡ nat_cmp (rank a) (rank b)
    by Less h = nat_cmp_is _ _ Less (rank-precedes a b (inr (same, record { place = i; larger = h; same_after = after })))
    by Equal h = absurd (apart (sym h))
    by Greater h = nat_cmp_is _ _ Greater (rank-precedes b a (inr (sym same, record { place = i; larger = h; same_after = λ k lt. sym (after k lt) })))

pub compared_same : (a b : Exponents) → ((k : ℕ) → exponent a k ≡ exponent b k) → Equal ≡ nat_cmp (rank a) (rank b)
compared_same a b same = nat_cmp_is _ _ Equal (ap rank (same_exponents a b (λ k _. same k)))

pub apart_from_is_ne : (x y : ℕ) (r : Ordering) → r ≡ nat_cmp x y → is_ne r ≡ true → x ≢ y
apart_from_is_ne x y r e h same =
    let equal : Equal ≡ nat_cmp x y = nat_cmp_is x y Equal same in
    let clash : is_ne Equal ≡ true = ap is_ne (equal ∙ sym e) ∙ h in
    cc

pub same_from_is_ne : (x y : ℕ) (r : Ordering) → r ≡ nat_cmp x y → is_ne r ≡ false → x ≡ y
same_from_is_ne x y Less e h = cc
same_from_is_ne x y Equal e h = ranked x y Equal e
same_from_is_ne x y Greater e h = cc
