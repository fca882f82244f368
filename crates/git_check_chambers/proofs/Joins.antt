-- First reasons at their lines, and first findings of one member of a list after another.
use Rattle.std.proofs.Common.{◌≡◌, inl, inr, ℕ, ◌+◌, ◌≤◌, List, length, refl, subst, arith}
use Rattle.std.specs.Prelude.{Option, Some, None, slice_get}
use Rattle.std.proofs.lemmas.Bool.{cases_lt}
use Rattle.git_asked.specs.declared.finding.Reason.{Reason}
use Rattle.git_asked.specs.declared.finding.Finding.{Finding}
use Rattle.git_asked.specs.Findings.{Both, Finds, earlier_of}
use Rattle.git_asked.proofs.Joined.{finds_both, finds_same}
use Rattle.git_asked.proofs.Places.{one_at, within}
use Rattle.git_check_chambers.specs.Families.{AtLines, IsFirstReason, OfEach, OfFirst, finding_at}

pub at_lines : (line_of : Reason → ℕ) (asks : Reason → Type 0) (a : Option Reason) → IsFirstReason asks a → Finds (AtLines line_of asks) (finding_at line_of a)
at_lines line_of asks None h = λ r l e. h r
at_lines line_of asks (Some r) h = record {
  fails = λ t. h.fails (t refl);
  lines = λ l lt e. absurd (omega (arith, lt, e));
  reasons = λ q lt l e. h.before q lt;
}

module _ {A : Type 0} (asks : ℕ → A → Reason → ℕ → Type 0) (xs : List A) where
  pub first_none : Finds (OfFirst asks xs 0) None
  first_none = λ r l i x lt e. absurd (omega (arith, lt))

  one_more : (n : ℕ) (x : A) → slice_get xs n ≡ Some x → (r : Reason) (l : ℕ) → Both (OfFirst asks xs n) (asks n x) r l → OfFirst asks xs (n + 1) r l
  one_more n x at r l both i y lt e = elim (cases_lt i n) [
    | inl less ↦ both.0 i y less e
    | inr more ↦ (
        let i_is : n ≡ i = omega (arith, lt, more) in
        let y_is : x ≡ y = one_at xs i x y (subst (λ j. slice_get xs j ≡ Some x) i_is at) e in
        subst (λ z. asks i z r l) y_is (subst (λ j. asks j x r l) i_is both.1)
        )
  ]

  pub first_more : (n : ℕ) (x : A) (a b : Option Finding) → slice_get xs n ≡ Some x → Finds (OfFirst asks xs n) a → Finds (asks n x) b → Finds (OfFirst asks xs (n + 1)) (earlier_of a b)
  first_more n x a b at p q =
      finds_same (Both (OfFirst asks xs n) (asks n x)) (OfFirst asks xs (n + 1)) (earlier_of a b) (one_more n x at)
      (λ r l h. (λ i y lt e. h i y (omega (arith, lt)) e, h n x (omega arith) at)) (finds_both (OfFirst asks xs n) (asks n x) a b p q)

  pub first_all : (n : ℕ) (a : Option Finding) → length xs ≤ n → Finds (OfFirst asks xs n) a → Finds (OfEach asks xs) a
  first_all n a le p =
      finds_same (OfFirst asks xs n) (OfEach asks xs) a (λ r l h i x e. h i x (let w = within xs i x e in omega (arith, w, le)) e) (λ r l h i x lt e. h i x e) p
