-- The first of two findings is the first of what both ask, and there is one first finding.
use Rattle.std.proofs.Common.{◌≡◌, ◌⊎◌, inl, inr, ℕ, ◌<◌, ◌≤◌, ◌&&◌, ◌||◌, Bool, true, false, cond, Option, Some, None, refl, sym, subst, arith}
use Rattle.std.specs.Prelude.{nat_lt, ◌==◌}
use Rattle.std.proofs.lemmas.Bool.{cases_lt}
use Rattle.std.proofs.lemmas.Bool.Decides.{nat_tests}
use Rattle.git_asked.specs.declared.finding.Reason.{Reason}
use Rattle.git_asked.specs.declared.finding.Finding.{Finding}
use Rattle.git_asked.specs.Findings.{Both, FailsFirst, Finds, earlier_of, is_before, rank_of}
use Rattle.git_asked.proofs.Reasons.{one_rank}

-- f is given before g, or they are given alike
abbrev IsEarlier : Finding → Finding → Type 0
IsEarlier f g = (rank_of f.reason < rank_of g.reason) ⊎ ((rank_of f.reason ≡ rank_of g.reason) × (f.line ≤ g.line))

-- what the later finding's family asks before the earlier finding holds
kept : (Q : Reason → ℕ → Type 0) (f g : Finding) → IsEarlier f g → FailsFirst Q g.reason g.line → ((l : ℕ) → l < f.line → Q f.reason l) × ((q : Reason) → rank_of q < rank_of f.reason → (l : ℕ) → Q q l)
kept Q f g e h = elim e [
  | inl less ↦ (λ l lt. h.reasons f.reason less l, λ q lt l. h.reasons q (omega (arith, lt, less)) l)
  | inr same ↦ (
    λ l lt. subst (λ r. Q r l) (one_rank g.reason f.reason (sym same.0)) (h.lines l (omega (arith, lt, same.1))),
    λ q lt l. h.reasons q (omega (arith, lt, same.0)) l,
  )
]

first_of_two : (P Q : Reason → ℕ → Type 0) (f g : Finding) → IsEarlier f g → FailsFirst P f.reason f.line → FailsFirst Q g.reason g.line → FailsFirst (Both P Q) f.reason f.line
first_of_two P Q f g e p q =
    let k = kept Q f g e q in
    record { fails = λ b. p.fails b.0; lines = λ l lt. (p.lines l lt, k.0 l lt); reasons = λ r lt l. (p.reasons r lt l, k.1 r lt l) }

second_of_two : (P Q : Reason → ℕ → Type 0) (f g : Finding) → IsEarlier g f → FailsFirst P f.reason f.line → FailsFirst Q g.reason g.line → FailsFirst (Both P Q) g.reason g.line
second_of_two P Q f g e p q =
    let k = kept P g f e p in
    record { fails = λ b. q.fails b.1; lines = λ l lt. (k.0 l lt, q.lines l lt); reasons = λ r lt l. (k.1 r lt l, q.reasons r lt l) }

before_is : (g f : Finding) → is_before g f ≡ true → IsEarlier g f
before_is g f h = elim (cases_lt (rank_of g.reason) (rank_of f.reason)) [
  | inl less ↦ inl less
  | inr more ↦ inr (same_rank (rank_of g.reason) (rank_of f.reason) g.line f.line more h)
] where
  same_rank : (a b l m : ℕ) → b ≤ a → (nat_lt a b || (a == b && nat_lt l m)) ≡ true → (a ≡ b) × (l ≤ m)
  same_rank a b l m le t = (grind (arith, nat_tests), grind (arith, nat_tests))

not_before_is : (g f : Finding) → is_before g f ≡ false → IsEarlier f g
not_before_is g f h = elim (cases_lt (rank_of f.reason) (rank_of g.reason)) [
  | inl less ↦ inl less
  | inr more ↦ inr (same_rank (rank_of g.reason) (rank_of f.reason) g.line f.line more h)
] where
  same_rank : (a b l m : ℕ) → a ≤ b → (nat_lt a b || (a == b && nat_lt l m)) ≡ false → (b ≡ a) × (m ≤ l)
  same_rank a b l m le t = (grind (arith, nat_tests), grind (arith, nat_tests))

by_test : (P Q : Reason → ℕ → Type 0) (f g : Finding) (t : Bool) → is_before g f ≡ t → FailsFirst P f.reason f.line → FailsFirst Q g.reason g.line → Finds (Both P Q) (cond t (Some g) (Some f))
by_test P Q f g true e p q = second_of_two P Q f g (before_is g f e) p q
by_test P Q f g false e p q = first_of_two P Q f g (not_before_is g f e) p q

pub finds_both : (P Q : Reason → ℕ → Type 0) (a b : Option Finding) → Finds P a → Finds Q b → Finds (Both P Q) (earlier_of a b)
finds_both P Q None None p q = λ r l. (p r l, q r l)
finds_both P Q None (Some g) p q = record { fails = λ h. q.fails h.1; lines = λ l lt. (p g.reason l, q.lines l lt); reasons = λ r lt l. (p r l, q.reasons r lt l) }
finds_both P Q (Some f) None p q = record { fails = λ h. p.fails h.0; lines = λ l lt. (p.lines l lt, q f.reason l); reasons = λ r lt l. (p.reasons r lt l, q r l) }
finds_both P Q (Some f) (Some g) p q = by_test P Q f g (is_before g f) refl p q

-- the same is asked
pub finds_same : (P Q : Reason → ℕ → Type 0) (a : Option Finding) → ((r : Reason) (l : ℕ) → P r l → Q r l) → ((r : Reason) (l : ℕ) → Q r l → P r l) → Finds P a → Finds Q a
finds_same P Q None to from h = λ r l. to r l (h r l)
finds_same P Q (Some f) to from h = record { fails = λ q. h.fails (from f.reason f.line q); lines = λ l lt. to f.reason l (h.lines l lt); reasons = λ r lt l. to r l (h.reasons r lt l) }

-- ---- one first finding
module _ (P : Reason → ℕ → Type 0) (f g : Finding) (p : FailsFirst P f.reason f.line) (q : FailsFirst P g.reason g.line) where
  not_less : rank_of f.reason < rank_of g.reason → ⊥
  not_less less = p.fails (q.reasons f.reason less f.line)

  not_before : f.reason ≡ g.reason → f.line < g.line → ⊥
  not_before same less = p.fails (subst (λ r. P r f.line) (sym same) (q.lines f.line less))

pub one_finding : (P : Reason → ℕ → Type 0) (a b : Option Finding) → Finds P a → Finds P b → a ≡ b
one_finding P None None p q = refl
one_finding P None (Some g) p q = absurd (q.fails (p g.reason g.line))
one_finding P (Some f) None p q = absurd (p.fails (q f.reason f.line))
one_finding P (Some f) (Some g) p q =
    let rank : rank_of f.reason ≡ rank_of g.reason = elim (cases_lt (rank_of f.reason) (rank_of g.reason)) [
      | inl less ↦ absurd (not_less P f g p q less)
      | inr more ↦ elim (cases_lt (rank_of g.reason) (rank_of f.reason)) [ inl less ↦ absurd (not_less P g f q p less) | inr rest ↦ omega arith ]
    ] in
    let reason = one_rank f.reason g.reason rank in
    let line : f.line ≡ g.line = elim (cases_lt f.line g.line) [
      | inl less ↦ absurd (not_before P f g p q reason less)
      | inr more ↦ elim (cases_lt g.line f.line) [ inl less ↦ absurd (not_before P g f q p (sym reason) less) | inr rest ↦ omega arith ]
    ] in
    λ i. Some (record { reason = reason i; line = line i })
