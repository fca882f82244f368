-- Numbers of which something holds, ascending.
use Rattle.std.proofs.Common.{◌≡◌, ◌⊎◌, ◌+◌, ◌<◌, ◌++◌, ◌∷◌, [], List, arith, inl, inr, refl, subst, suc, zero, ℕ}
use Rattle.std.specs.Prelude.{◌↔◌}
use Rattle.std.proofs.lemmas.Bool.{cases_lt}
use Rattle.std.proofs.lemmas.List.Elements.{Contains-append_cases, Contains-append_left, Contains-append_right}
use Rattle.git_lemmas.specs.Members.{Member}
use Rattle.git_lemmas.proofs.Members.{contains_member, member_contains}
use Rattle.git_lemmas.proofs.Sorting.{Ascends, ascends_of_pairs, once, pairs_of_ascends}
use Rattle.git_locate.specs.Positions.{AreNumbersOf}

abbrev pub Less : ℕ → ℕ → Type 0
Less m n = m < n

ascends_last : (ns : List ℕ) (n : ℕ) → Ascends Less ns → ((m : ℕ) → Member m ns → m < n) → Ascends Less (ns ++ n ∷ [])
ascends_last [] n a before = (λ y m. absurd m, tt)
ascends_last (v ∷ vs) n a before = (by, ascends_last vs n a.1 (λ y m. before y (inr m))) where
  by : (y : ℕ) → Member y (vs ++ n ∷ []) → v < y
  by y m = elim (Contains-append_cases vs (n ∷ []) y (member_contains y (vs ++ n ∷ []) m)) [
    | inl old ↦ a.0 y (contains_member y vs old)
    | inr new ↦ elim (contains_member y (n ∷ []) new) [ inl e ↦ subst (λ i. v < i) e (before v (inl refl)) | inr o ↦ absurd o ]
  ]

-- ---- those below a bound
abbrev pub Below : (ℕ → Type 0) → ℕ → ℕ → Type 0
Below Q n m = (m < n) × Q m

pub no_numbers : (P : ℕ → Type 0) → ((m : ℕ) → P m → ⊥) → AreNumbersOf P []
no_numbers P none = record {
  ascending = λ i j d low in_range. absurd (omega (arith, in_range));
  each = λ m. (λ h. absurd (let l = h.1 in omega (arith, l)), λ p. absurd (none m p));
}

module _ (Q : ℕ → Type 0) where
  pub number_more : (n : ℕ) (ns : List ℕ) → Q n → AreNumbersOf (Below Q n) ns → AreNumbersOf (Below Q (n + 1)) (ns ++ n ∷ [])
  number_more n ns q a = record {
    ascending = pairs_of_ascends Less (ns ++ n ∷ []) (ascends_last ns n (ascends_of_pairs Less ns a.ascending) (λ m o. ((a.each m).0 (member_contains m ns o)).0));
    each = λ m. (
      λ h. elim (Contains-append_cases ns (n ∷ []) m h) [
        | inl old ↦ (let p = (a.each m).0 old in (omega (arith, p.0), p.1))
        | inr new ↦ elim (contains_member m (n ∷ []) new) [ inl e ↦ (omega (arith, e), subst Q e q) | inr o ↦ absurd o ]
      ],
      λ p. elim (cases_lt m n) [
        | inl below ↦ Contains-append_left ns (n ∷ []) m ((a.each m).1 (below, p.1))
        | inr past ↦ (let e : n ≡ m = (let l = p.0 in omega (arith, l, past)) in Contains-append_right ns (n ∷ []) m (member_contains m (n ∷ []) (inl e)))
      ],
    );
  }

  pub number_less : (n : ℕ) (ns : List ℕ) → (Q n → ⊥) → AreNumbersOf (Below Q n) ns → AreNumbersOf (Below Q (n + 1)) ns
  number_less n ns none a = record {
    ascending = a.ascending;
    each = λ m. (
      λ h. (let p = (a.each m).0 h in (omega (arith, p.0), p.1)),
      λ p. elim (cases_lt m n) [
        | inl below ↦ (a.each m).1 (below, p.1)
        | inr past ↦ (let e : m ≡ n = (let l = p.0 in omega (arith, l, past)) in absurd (none (subst Q e p.1)))
      ],
    );
  }

pub numbers_along : (P Q : ℕ → Type 0) (ns : List ℕ) → ((n : ℕ) → P n ↔ Q n) → AreNumbersOf P ns → AreNumbersOf Q ns
numbers_along P Q ns same a = record { ascending = a.ascending; each = λ n. (λ h. (same n).0 ((a.each n).0 h), λ q. (a.each n).1 ((same n).1 q)) }

-- ---- they are one list
pub numbers_once : (P : ℕ → Type 0) (ms ns : List ℕ) → AreNumbersOf P ms → AreNumbersOf P ns → ms ≡ ns
numbers_once P ms ns a b = once Less (λ x l. omega (arith, l)) (λ x y z l h. omega (arith, l, h)) ms ns (ascends_of_pairs Less ms a.ascending) (ascends_of_pairs Less ns b.ascending)
    (λ x m. contains_member x ns ((b.each x).1 ((a.each x).0 (member_contains x ms m))))
    (λ x m. contains_member x ms ((a.each x).1 ((b.each x).0 (member_contains x ns m))))

-- ---- and there is one
pub record SomeNumbers (P : ℕ → Type 0) : Type 0 where
  pub numbers : List ℕ
  pub are : AreNumbersOf P numbers

pub numbers_below : (Q : ℕ → Type 0) → ((n : ℕ) → Q n ⊎ (Q n → ⊥)) → (n : ℕ) → SomeNumbers (Below Q n)
numbers_below Q decide zero = record { numbers = []; are = no_numbers (Below Q 0) (λ m p. let l = p.0 in omega (arith, l)) }
numbers_below Q decide (suc n) =
    let rest = numbers_below Q decide n in
    let e : n + 1 ≡ suc n = omega arith in
    elim (decide n) [
      | inl q ↦ record { numbers = rest.numbers ++ n ∷ []; are = subst (λ i. AreNumbersOf (Below Q i) (rest.numbers ++ n ∷ [])) e (number_more Q n rest.numbers q rest.are) }
      | inr none ↦ record { numbers = rest.numbers; are = subst (λ i. AreNumbersOf (Below Q i) rest.numbers) e (number_less Q n rest.numbers none rest.are) }
    ]
