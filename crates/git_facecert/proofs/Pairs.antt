-- Pairs of members, in order.
use Rattle.std.proofs.Common.{ℕ, ◌+◌, ◌<◌, ◌≤◌, ◌≡◌, refl, List, length, IsTrue, Bool, sym, subst, arith, inl, inr}
use Rattle.std.specs.Prelude.{◌↔◌}
use Rattle.std.proofs.lemmas.Bool.{cases_eq}
use Rattle.git_algebra.specs.Polynomials.{Polynomial}
use Rattle.git_algebra.specs.Operations.{total_degree}
use Rattle.git_algebra.proofs.Monomials.{degree-lcm_le}
use Rattle.git_algebra.proofs.Products.{total_degree-lead}
use Rattle.git_ideals.specs.Division.{member, DividesToZero, IsSPolynomial, PairsDivide}
use Rattle.git_ideals.proofs.SPolynomials.{one_s_polynomial}
use Rattle.git_reduce.specs.Steps.{IsMultipleAbove}
use Rattle.git_facecert.specs.Answers.{PairDivides, FirstPartner, FirstPairLacks, ComesBefore}

-- the leads of members have no multiple that is too high
pub not_above : (f g : Polynomial) → total_degree f ≤ 33554432 → total_degree g ≤ 33554432 → IsMultipleAbove 67108864 f g → ⊥
not_above f g small other m = absurd (omega (arith, m.above, degree-lcm_le m.lead.0 m.other.0, total_degree-lead f m.lead m.is_lead, total_degree-lead g m.other m.is_other))

-- what its S-polynomial does the pair does
pair_is : (members : List Polynomial) (i j : ℕ) (s : Polynomial) (b : Bool) → IsSPolynomial (member members i) (member members j) s
    → (IsTrue b ↔ DividesToZero members s) → (IsTrue b ↔ PairDivides members i j)
pair_is members i j s b is h = (
  λ t u other. subst (DividesToZero members) (one_s_polynomial (member members i) (member members j) s u is other) (h.0 t),
  λ all. h.1 (all s is),
)

pub pair_by : (members : List Polynomial) (i j : ℕ) (f g s : Polynomial) (b : Bool) → f ≡ member members i → g ≡ member members j → IsSPolynomial f g s
    → (IsTrue b ↔ DividesToZero members s) → (IsTrue b ↔ PairDivides members i j)
pair_by members i j f g s b e k is h = pair_is members i j s b (subst (λ (p : Polynomial). IsSPolynomial p (member members j) s) e (subst (λ (q : Polynomial). IsSPolynomial f q s) k is)) h

-- one partner more
pub one_partner : (members : List Polynomial) (i j : ℕ) → ((k : ℕ) → i < k → k < j → PairDivides members i k) → PairDivides members i j → (k : ℕ) → i < k → k < j + 1 → PairDivides members i k
one_partner members i j before here k low high = elim (cases_eq k j) [
  | inl same ↦ subst (PairDivides members i) (sym same) here
  | inr other ↦ before k low (omega arith)
]

-- one first place more
pub one_first : (members : List Polynomial) (i : ℕ) → ((k m : ℕ) → k < i → k < m → m < length members → PairDivides members k m)
    → ((l : ℕ) → i < l → l < length members → PairDivides members i l) → (k m : ℕ) → k < i + 1 → k < m → m < length members → PairDivides members k m
one_first members i before here k m low order within = elim (cases_eq k i) [
  | inl same ↦ subst (λ (n : ℕ). PairDivides members n m) (sym same) (here m (omega arith) within)
  | inr other ↦ before k m (omega arith) order within
]

-- the first place with a partner is that of the first pair
pub first_pair_is : (members : List Polynomial) (i j : ℕ) → ((k m : ℕ) → k < i → k < m → m < length members → PairDivides members k m) → FirstPartner members i j → FirstPairLacks members (i + 1) (j + 1)
first_pair_is members i j before p = record {
  first = i;
  second = j;
  numbers = (refl, refl);
  order = p.order;
  within = p.within;
  lacks = p.lacks;
  before = λ k l order within earlier. by k l order within earlier;
}
  where
    by : (k l : ℕ) → k < l → l < length members → ComesBefore k l i j → PairDivides members k l
    by k l order within (inl less) = before k l less order within
    by k l order within (inr same) = subst (λ (n : ℕ). PairDivides members n l) (sym same.0) (p.before l (omega (arith, same.0, order)) same.1)

pub all_pairs : (members : List Polynomial) (n : ℕ) → length members ≤ n → ((k m : ℕ) → k < n → k < m → m < length members → PairDivides members k m) → PairsDivide members
all_pairs members n whole each = λ i j order within. each i j (omega arith) order within
