-- The terms of the program as sums of terms.
use Rattle.std.specs.Prelude.{ℕ, ◌<◌, ◌≤◌, ◌≡◌, List, [], ◌∷◌, length, slice_get, Some}
use Rattle.git_algebra.specs.Exponents.{Exponents}
use Rattle.git_algebra.specs.Order.{rank}
use Rattle.git_algebra.specs.Sums.{Sum, Alike}
use Rattle.git_algebra.specs.Polynomials.{Proper}
use Rattle.git_poly.specs.declared.term.Term.{Term}

-- the sum of a list of terms
abbrev pub sum_of : List Term → Sum
sum_of [] = []
sum_of (t ∷ ts) = (t.mono, t.number) ∷ sum_of ts

-- a sum of the values of another, with each monomial once, in descending order, and no number 0
pub record IsForm (form of : Sum) : Type 0 where
  pub whole : Alike form of
  pub proper : Proper form

-- the first place from the start on whose monomial isn't above m, or the length
pub record IsFirstNotAbove (ts : List Term) (start : ℕ) (m : Exponents) (place : ℕ) : Type 0 where
  pub later : start ≤ place
  pub within : place ≤ length ts
  pub above : (k : ℕ) (t : Term) → start ≤ k → k < place → slice_get ts k ≡ Some t → rank m < rank t.mono
  pub not_above : (t : Term) → slice_get ts place ≡ Some t → rank t.mono ≤ rank m

-- low and high are places, from the start on, between which the first one is whose monomial isn't above m
pub record AreBoundsOfFirst (ts : List Term) (start : ℕ) (m : Exponents) (low high : ℕ) : Type 0 where
  pub later : start ≤ low
  pub order : low ≤ high
  pub within : high ≤ length ts
  pub above : (k : ℕ) (t : Term) → start ≤ k → k < low → slice_get ts k ≡ Some t → rank m < rank t.mono
  pub not_above : (t : Term) → slice_get ts high ≡ Some t → rank t.mono ≤ rank m
