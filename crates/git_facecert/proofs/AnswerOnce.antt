-- A certificate has one answer.
use Rattle.std.proofs.Common.{ℕ, ◌≡◌, refl, List, sym, ap, arith, inl, inr, ◌⊎◌, All}
use Rattle.std.proofs.lemmas.Bool.{cases_lt}
use Rattle.git_algebra.specs.Polynomials.{Polynomial}
use Rattle.git_algebra.specs.Operations.{zero_polynomial, restricted}
use Rattle.git_ideals.specs.Division.{DividesToZero, PairsDivide}
use Rattle.git_facecert.specs.declared.certificate.FaceCert.TheVariants.{Monomial, Free}
use Rattle.git_facecert.specs.declared.certificate.Place.{Place}
use Rattle.git_facecert.specs.declared.certificate.Place.TheVariants.{Member, Generator, Clear, Pair, Product}
use Rattle.git_facecert.specs.declared.certificate.Accepted.{Accepted}
use Rattle.git_facecert.specs.declared.certificate.Accepted.TheVariants.{Yes, No}
use Rattle.git_facecert.specs.Certificates.{IsCofactor, IsMember, IsAcceptedMonomial, IsAcceptedFree}
use Rattle.git_facecert.specs.Answers.{FirstLacks, FirstPairLacks, ComesBefore, MonomialFails, FreeFails, IsMonomialAnswer, IsFreeAnswer}
use Rattle.git_facecert.specs.Laws.{OneAnswer}

-- what all have, none lacks first
none_lacks : (P : Polynomial → Type 0) (ps : List Polynomial) (n : ℕ) → FirstLacks P ps n → All P ps → ⊥
none_lacks P ps n f all = f.lacks (all f.place zero_polynomial f.within)

-- one is the first
first_once : (P : Polynomial → Type 0) (ps : List Polynomial) (m n : ℕ) → FirstLacks P ps m → FirstLacks P ps n → m ≡ n
first_once P ps m n f g = elim (cases_lt f.place g.place) [
  | inl less ↦ absurd (f.lacks (g.before f.place less))
  | inr more ↦ elim (cases_lt g.place f.place) [
    | inl less ↦ absurd (g.lacks (f.before g.place less))
    | inr same ↦ omega (arith, f.number, g.number)
  ]
]

none_pair : (members : List Polynomial) (m n : ℕ) → FirstPairLacks members m n → PairsDivide members → ⊥
none_pair members m n f all = f.lacks (all f.first f.second f.order f.within)

-- of two pairs of places one comes before the other, or they are one
before_or_same : (k l i j : ℕ) → ComesBefore k l i j ⊎ (ComesBefore i j k l ⊎ ((k ≡ i) × (l ≡ j)))
before_or_same k l i j = elim (cases_lt k i) [
  | inl less ↦ inl (inl less)
  | inr more ↦ elim (cases_lt i k) [
    | inl less ↦ inr (inl (inl less))
    | inr same ↦ second (omega arith)
  ]
]
  where
    second : k ≡ i → ComesBefore k l i j ⊎ (ComesBefore i j k l ⊎ ((k ≡ i) × (l ≡ j)))
    second e = elim (cases_lt l j) [
      | inl less ↦ inl (inr (e, less))
      | inr more ↦ elim (cases_lt j l) [
        | inl less ↦ inr (inl (inr (sym e, less)))
        | inr same ↦ inr (inr (e, omega arith))
      ]
    ]

pair_once : (members : List Polynomial) (m n k l : ℕ) → FirstPairLacks members m n → FirstPairLacks members k l → (m ≡ k) × (n ≡ l)
pair_once members m n k l f g = elim (before_or_same f.first f.second g.first g.second) [
  | inl before ↦ absurd (f.lacks (g.before f.first f.second f.order f.within before))
  | inr others ↦ elim others [
    | inl after ↦ absurd (g.lacks (f.before g.first g.second g.order g.within after))
    | inr same ↦ (omega (arith, f.numbers.0, g.numbers.0, same.0), omega (arith, f.numbers.1, g.numbers.1, same.1))
  ]
]

monomial_never : (generators : List Polynomial) (mask exponent : ℕ) (cofactors : List Polynomial) (place : Place) → MonomialFails generators mask exponent cofactors place → IsAcceptedMonomial generators mask exponent cofactors → ⊥
monomial_never generators mask exponent cofactors (Member i) f a = none_lacks (IsCofactor mask) cofactors i f.1 a.cofactors_are
monomial_never generators mask exponent cofactors (Generator i) f a = f
monomial_never generators mask exponent cofactors Clear f a = f
monomial_never generators mask exponent cofactors (Pair i j) f a = f
monomial_never generators mask exponent cofactors Product f a = (f a.one_each).1 a.small a.sum

monomial_place : (generators : List Polynomial) (mask exponent : ℕ) (cofactors : List Polynomial) (p q : Place) → MonomialFails generators mask exponent cofactors p → MonomialFails generators mask exponent cofactors q → p ≡ q
monomial_place generators mask exponent cofactors (Member i) (Member j) f g = ap Member (first_once (IsCofactor mask) cofactors i j f.1 g.1)
monomial_place generators mask exponent cofactors (Member i) Product f g = absurd (none_lacks (IsCofactor mask) cofactors i f.1 (g f.0).0)
monomial_place generators mask exponent cofactors Product (Member j) f g = absurd (none_lacks (IsCofactor mask) cofactors j g.1 (f g.0).0)
monomial_place generators mask exponent cofactors Product Product f g = refl
monomial_place generators mask exponent cofactors (Member i) (Generator j) f g = absurd g
monomial_place generators mask exponent cofactors (Member i) Clear f g = absurd g
monomial_place generators mask exponent cofactors (Member i) (Pair j k) f g = absurd g
monomial_place generators mask exponent cofactors Product (Generator j) f g = absurd g
monomial_place generators mask exponent cofactors Product Clear f g = absurd g
monomial_place generators mask exponent cofactors Product (Pair j k) f g = absurd g
monomial_place generators mask exponent cofactors (Generator i) q f g = absurd f
monomial_place generators mask exponent cofactors Clear q f g = absurd f
monomial_place generators mask exponent cofactors (Pair i j) q f g = absurd f

free_never : (generators : List Polynomial) (mask : ℕ) (members : List Polynomial) (place : Place) → FreeFails generators mask members place → IsAcceptedFree generators mask members → ⊥
free_never generators mask members (Member i) f a = none_lacks (IsMember mask) members i f a.members_are
free_never generators mask members (Generator i) f a = none_lacks (λ p. DividesToZero members (restricted mask p)) generators i f.1 a.generators_divide
free_never generators mask members Clear f a = f.1 a.clearing_divides
free_never generators mask members (Pair i j) f a = none_pair members i j f.2 a.pairs_divide
free_never generators mask members Product f a = f

free_place : (generators : List Polynomial) (mask : ℕ) (members : List Polynomial) (p q : Place) → FreeFails generators mask members p → FreeFails generators mask members q → p ≡ q
free_place generators mask members (Member i) (Member j) f g = ap Member (first_once (IsMember mask) members i j f g)
free_place generators mask members (Member i) (Generator j) f g = absurd (none_lacks (IsMember mask) members i f g.0)
free_place generators mask members (Member i) Clear f g = absurd (none_lacks (IsMember mask) members i f g.0.0)
free_place generators mask members (Member i) (Pair j k) f g = absurd (none_lacks (IsMember mask) members i f g.0.0)
free_place generators mask members (Generator i) (Member j) f g = absurd (none_lacks (IsMember mask) members j g f.0)
free_place generators mask members (Generator i) (Generator j) f g = ap Generator (first_once (λ p. DividesToZero members (restricted mask p)) generators i j f.1 g.1)
free_place generators mask members (Generator i) Clear f g = absurd (none_lacks (λ p. DividesToZero members (restricted mask p)) generators i f.1 g.0.1)
free_place generators mask members (Generator i) (Pair j k) f g = absurd (none_lacks (λ p. DividesToZero members (restricted mask p)) generators i f.1 g.0.1)
free_place generators mask members Clear (Member j) f g = absurd (none_lacks (IsMember mask) members j g f.0.0)
free_place generators mask members Clear (Generator j) f g = absurd (none_lacks (λ p. DividesToZero members (restricted mask p)) generators j g.1 f.0.1)
free_place generators mask members Clear Clear f g = refl
free_place generators mask members Clear (Pair j k) f g = absurd (f.1 g.1)
free_place generators mask members (Pair i j) (Member k) f g = absurd (none_lacks (IsMember mask) members k g f.0.0)
free_place generators mask members (Pair i j) (Generator k) f g = absurd (none_lacks (λ p. DividesToZero members (restricted mask p)) generators k g.1 f.0.1)
free_place generators mask members (Pair i j) Clear f g = absurd (g.1 f.1)
free_place generators mask members (Pair i j) (Pair k l) f g = let e = pair_once members i j k l f.2 g.2 in λ t. Pair (e.0 t) (e.1 t)
free_place generators mask members (Member i) Product f g = absurd g
free_place generators mask members (Generator i) Product f g = absurd g
free_place generators mask members Clear Product f g = absurd g
free_place generators mask members (Pair i j) Product f g = absurd g
free_place generators mask members Product q f g = absurd f

monomial_once : (generators : List Polynomial) (mask exponent : ℕ) (cofactors : List Polynomial) (a b : Accepted) → IsMonomialAnswer generators mask exponent cofactors a → IsMonomialAnswer generators mask exponent cofactors b → a ≡ b
monomial_once generators mask exponent cofactors Yes Yes h k = refl
monomial_once generators mask exponent cofactors Yes (No p) h k = absurd (monomial_never generators mask exponent cofactors p k h)
monomial_once generators mask exponent cofactors (No p) Yes h k = absurd (monomial_never generators mask exponent cofactors p h k)
monomial_once generators mask exponent cofactors (No p) (No q) h k = ap No (monomial_place generators mask exponent cofactors p q h k)

free_once : (generators : List Polynomial) (mask : ℕ) (members : List Polynomial) (a b : Accepted) → IsFreeAnswer generators mask members a → IsFreeAnswer generators mask members b → a ≡ b
free_once generators mask members Yes Yes h k = refl
free_once generators mask members Yes (No p) h k = absurd (free_never generators mask members p k h)
free_once generators mask members (No p) Yes h k = absurd (free_never generators mask members p h k)
free_once generators mask members (No p) (No q) h k = ap No (free_place generators mask members p q h k)

pub one_answer : OneAnswer
one_answer generators mask (Monomial exponent cofactors) a b h k = monomial_once generators mask exponent cofactors.items a b h k
one_answer generators mask (Free members) a b h k = free_once generators mask members.items a b h k
