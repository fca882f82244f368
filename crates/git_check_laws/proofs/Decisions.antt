-- What is decided: equality of numbers, vectors and lists, and whether something holds at some place.
use Rattle.std.proofs.Common.{◌≡◌, ◌∷◌, [], ◌<◌, ℕ, zero, suc, ℤ, inl, inr, List, length, get_or, ap, refl, subst, arith}
use Rattle.std.proofs.Math.IntN.{pos, negsuc}
use Rattle.std.specs.Prelude.{Bool, true, false, Option, Some, None, Contains}
use Rattle.std.specs.declared.cmp.Ordering.{Ordering}
use Rattle.std.specs.declared.cmp.Ordering.TheVariants.{Less, Equal, Greater}
use Rattle.std.proofs.lemmas.Bool.{cases_lt}
use Rattle.git_lemmas.specs.Members.{Member}
use Rattle.git_lemmas.proofs.Members.{contains_member, member_contains}
use Rattle.git_lemmas.proofs.Options.{some_is}
use Rattle.git_defs.specs.Vectors.{Vector}
use Rattle.git_machine.specs.Signatures.{Signature}
use Rattle.git_orbit.proofs.Settled.{Decided}

pub nat_decided : (m n : ℕ) → Decided (m ≡ n)
nat_decided m n = elim (cases_lt m n) [
  | inl less ↦ inr (λ e. omega (arith, e, less))
  | inr more ↦ elim (cases_lt n m) [
    | inl less ↦ inr (λ e. omega (arith, e, less))
    | inr rest ↦ inl (omega (arith, more, rest))
  ]
]

abbrev size_of : ℤ → ℕ
size_of (pos n) = n
size_of (negsuc n) = n

pub int_decided : (a b : ℤ) → Decided (a ≡ b)
int_decided (pos m) (pos n) = elim (nat_decided m n) [ inl e ↦ inl (ap pos e) | inr never ↦ inr (λ e. never (ap size_of e)) ]
int_decided (pos m) (negsuc n) = inr (λ e. cc e)
int_decided (negsuc m) (pos n) = inr (λ e. cc e)
int_decided (negsuc m) (negsuc n) = elim (nat_decided m n) [ inl e ↦ inl (ap negsuc e) | inr never ↦ inr (λ e. never (ap size_of e)) ]

-- ---- lists
abbrev rest_of : {A : Type 0} → List A → List A
rest_of [] = []
rest_of (x ∷ xs) = xs

pub list_decided : {A : Type 0} → ((a b : A) → Decided (a ≡ b)) → (xs ys : List A) → Decided (xs ≡ ys)
list_decided decide [] [] = inl refl
list_decided decide [] (y ∷ ys) = inr (λ e. let n = ap length e in omega (arith, n))
list_decided decide (x ∷ xs) [] = inr (λ e. let n = ap length e in omega (arith, n))
list_decided decide (x ∷ xs) (y ∷ ys) = elim (decide x y) [
  | inr never ↦ inr (λ e. never (ap (λ zs. get_or zs 0 x) e))
  | inl here ↦ elim (list_decided decide xs ys) [
    | inr never ↦ inr (λ e. never (ap rest_of e))
    | inl rest ↦ inl (λ i. here i ∷ rest i)
  ]
]

pub vector_decided : (u v : Vector) → Decided (u ≡ v)
vector_decided u v = list_decided int_decided u v

pub vectors_decided : (us vs : List Vector) → Decided (us ≡ vs)
vectors_decided us vs = list_decided vector_decided us vs

pub signature_decided : (s t : Signature) → Decided (s ≡ t)
signature_decided s t = list_decided nat_decided s t

member_decided : (v : Vector) (vs : List Vector) → Decided (Member v vs)
member_decided v [] = inr (λ m. m)
member_decided v (u ∷ us) = elim (vector_decided u v) [
  | inl e ↦ inl (inl e)
  | inr never ↦ elim (member_decided v us) [
    | inl m ↦ inl (inr m)
    | inr out ↦ inr (λ m. elim m [ inl e ↦ never e | inr o ↦ out o ])
  ]
]

pub contains_decided : (vs : List Vector) (v : Vector) → Decided (Contains vs v)
contains_decided vs v = elim (member_decided v vs) [
  | inl m ↦ inl (member_contains v vs m)
  | inr never ↦ inr (λ c. never (contains_member v vs c))
]

-- ---- others
pub option_decided : (a b : Option ℕ) → Decided (a ≡ b)
option_decided None None = inl refl
option_decided None (Some n) = inr (λ e. cc e)
option_decided (Some m) None = inr (λ e. cc e)
option_decided (Some m) (Some n) = elim (nat_decided m n) [ inl e ↦ inl (ap (λ (i : ℕ). Some i) e) | inr never ↦ inr (λ e. never (some_is m n e)) ]

pub less_decided : (o : Ordering) → Decided (o ≡ Less)
less_decided Less = inl refl
less_decided Equal = inr (λ e. cc e)
less_decided Greater = inr (λ e. cc e)

pub both_decided : {P Q : Type 0} → Decided P → Decided Q → Decided (P × Q)
both_decided (inl p) (inl q) = inl (p, q)
both_decided (inl p) (inr never) = inr (λ b. never b.1)
both_decided (inr never) q = inr (λ b. never b.0)

abbrev pub test_of : {P : Type 0} → Decided P → Bool
test_of (inl p) = true
test_of (inr never) = false

-- ---- some place below a bound
pub place_decided : (P : ℕ → Type 0) (n : ℕ) → ((i : ℕ) → i < n → Decided (P i)) → Decided ((i : ℕ) × (i < n) × P i)
place_decided P zero decide = inr (λ p. let low = p.1 in omega (arith, low))
place_decided P (suc n) decide = elim (decide n (omega arith)) [
  | inl p ↦ inl (n, (let low : n < suc n = omega arith in low), p)
  | inr never ↦ elim (place_decided P n (λ i low. decide i (omega (arith, low)))) [
    | inl p ↦ inl (p.0, (let low = p.1 in omega (arith, low)), p.2)
    | inr none ↦ inr (λ p. elim (cases_lt p.0 n) [
      | inl below ↦ none (p.0, below, p.2)
      | inr at ↦ (let low = p.1 in let e : p.0 ≡ n = omega (arith, low, at) in never (subst P e p.2))
    ])
  ]
]
