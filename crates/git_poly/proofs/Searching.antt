-- The number of a monomial in a list of terms, by its place in descending order.
use Rattle.std.proofs.Common.{zero, suc, ℕ, ◌+◌, ◌*◌, ◌<◌, ◌≤◌, ◌≡◌, ◌≢◌, refl, List, [], ◌∷◌, length, get_or, sym, ap, ◌∙◌, arith, inl, inr}
use Rattle.std.specs.declared.cmp.Ordering.{Ordering}
use Rattle.std.specs.declared.cmp.Ordering.TheVariants.{Less, Equal, Greater}
use Rattle.std.specs.Ordering.{nat_cmp, MatchOrdering, ordering_index}
use Rattle.std.specs.Cmp.{ranked, ranks}
use Rattle.std.specs.List.{HoldsAt}
use Rattle.std.specs.List.Sorted.{IsNonDecreasingBy, IsPartitionPoint}
use Rattle.std.proofs.lemmas.Bool.{cases_lt}
use Rattle.git_algebra.specs.Exponents.{Exponents}
use Rattle.git_algebra.specs.Order.{rank}
use Rattle.git_algebra.specs.Sums.{coefficient}
use Rattle.git_algebra.specs.Polynomials.{Proper, RanksBelow}
use Rattle.git_algebra.proofs.Leads.{at_other}
use Rattle.git_algebra.proofs.Normal.{at_head}
use Rattle.git_algebra.proofs.Ranks.{rank_injective}
use Rattle.git_poly.specs.declared.term.Term.{Term}
use Rattle.git_poly.specs.Terms.{sum_of}

-- how a monomial compares with that of a term
abbrev pub compared : Exponents → Term → Ordering
compared m t = nat_cmp (rank m) (rank t.mono)

rank_at_place : (n : ℕ) (ts : List Term) (i : ℕ) (d : Term) → RanksBelow n (sum_of ts) → i < length ts → rank (get_or ts i d).mono < n
rank_at_place n [] i d u h = absurd (omega arith)
rank_at_place n (t ∷ ts) zero d u h = u.0
rank_at_place n (t ∷ ts) (suc i) d u h = rank_at_place n ts i d u.1 (omega arith)

-- a term other than the first of a sum
coefficient_behind : (m : Exponents) (t : Exponents × ℕ) (p : List (Exponents × ℕ)) → rank m ≢ rank t.0 → coefficient (t ∷ p) m ≡ coefficient p m
coefficient_behind m t p apart =
    let here : coefficient (t ∷ p) m ≡ t.1 * 0 + coefficient p m = λ i. t.1 * at_other m t.0 apart i + coefficient p m in
    omega (arith, here)

pub coefficient_at : (ts : List Term) (i : ℕ) (d : Term) → Proper (sum_of ts) → i < length ts → coefficient (sum_of ts) (get_or ts i d).mono ≡ (get_or ts i d).number
coefficient_at [] i d u h = absurd (omega arith)
coefficient_at (t ∷ ts) zero d u h = at_head (t.mono, t.number) (sum_of ts) u
coefficient_at (t ∷ ts) (suc i) d u h =
    coefficient_behind (get_or ts i d).mono (t.mono, t.number) (sum_of ts) (λ e. absurd (omega (arith, rank_at_place (rank t.mono) ts i d u.2 (omega arith))))
    ∙ coefficient_at ts i d u.3 (omega arith)

pub coefficient_nowhere : (m : Exponents) (ts : List Term) → ((i : ℕ) (d : Term) → i < length ts → rank m ≢ rank (get_or ts i d).mono) → coefficient (sum_of ts) m ≡ 0
coefficient_nowhere m [] apart = refl
coefficient_nowhere m (t ∷ ts) apart =
    coefficient_behind m (t.mono, t.number) (sum_of ts) (apart 0 t (omega arith))
    ∙ coefficient_nowhere m ts (λ i d h. apart (suc i) d (omega arith))

-- ranks fall along the list
pub ranks_fall : (ts : List Term) (i j : ℕ) (d : Term) → Proper (sum_of ts) → i ≤ j → j < length ts → rank (get_or ts j d).mono ≤ rank (get_or ts i d).mono
ranks_fall [] i j d u le h = absurd (omega arith)
ranks_fall (t ∷ ts) zero zero d u le h = omega arith
ranks_fall (t ∷ ts) zero (suc j) d u le h = omega (arith, rank_at_place (rank t.mono) ts j d u.2 (omega arith))
ranks_fall (t ∷ ts) (suc i) zero d u le h = absurd (omega arith)
ranks_fall (t ∷ ts) (suc i) (suc j) d u le h = ranks_fall ts i j d u.3 (omega arith) (omega arith)

index_rises : (n r s : ℕ) → s ≤ r → ordering_index (nat_cmp n r) ≤ ordering_index (nat_cmp n s)
index_rises n r s le = by (nat_cmp n r) (nat_cmp n s) (ranks n r) (ranks n s)
  where
    by : (a b : Ordering) → MatchOrdering a (n < r) (n ≡ r) (r < n) → MatchOrdering b (n < s) (n ≡ s) (s < n) → ordering_index a ≤ ordering_index b
    by Less b h k = omega arith
    by Equal Less h k = absurd (omega arith)
    by Equal Equal h k = omega arith
    by Equal Greater h k = omega arith
    by Greater Less h k = absurd (omega arith)
    by Greater Equal h k = absurd (omega arith)
    by Greater Greater h k = omega arith

pub answers_rise : (m : Exponents) (ts : List Term) → Proper (sum_of ts) → IsNonDecreasingBy (λ t. ordering_index (compared m t)) ts
answers_rise m ts u = λ i j d le h. index_rises (rank m) _ _ (ranks_fall ts i j d u le h)

-- what the search found
pub found_number : (m : Exponents) (ts : List Term) (i : ℕ) (d : Term) → Proper (sum_of ts) → i < length ts → HoldsAt (λ t. compared m t ≡ Equal) ts i → (get_or ts i d).number ≡ coefficient (sum_of ts) m
found_number m ts i d u h equal =
    sym (coefficient_at ts i d u h) ∙ ap (coefficient (sum_of ts)) (sym (rank_injective m (get_or ts i d).mono (ranked _ _ Equal (sym (equal d)))))

pub found_nothing : (m : Exponents) (ts : List Term) (i : ℕ) → IsPartitionPoint (λ t. compared m t ≡ Less) (λ t. compared m t ≡ Greater) ts i → coefficient (sum_of ts) m ≡ 0
found_nothing m ts i parts = coefficient_nowhere m ts apart
  where
    apart : (k : ℕ) (d : Term) → k < length ts → rank m ≢ rank (get_or ts k d).mono
    apart k d h e = elim (cases_lt k i) [
      | inl below ↦ absurd (let less = ranked (rank m) (rank (get_or ts k d).mono) Less (sym (parts.0 k d (omega arith) below)) in omega (arith, less, e))
      | inr above ↦ absurd (let more = ranked (rank m) (rank (get_or ts k d).mono) Greater (sym (parts.1 k d above h)) in omega (arith, more, e))
    ]
