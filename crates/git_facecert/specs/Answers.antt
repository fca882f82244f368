-- The first line of a certificate that fails, and where it is.
use Rattle.std.specs.Prelude.{ℕ, ◌+◌, ◌<◌, ◌≤◌, ◌^◌, ◌≡◌, ◌⊎◌, List, length, map, All}
use Rattle.git_algebra.specs.Exponents.{power}
use Rattle.git_algebra.specs.Polynomials.{Polynomial}
use Rattle.git_algebra.specs.Operations.{restricted}
use Rattle.git_ideals.specs.Ideals.{combination, monomial, clearing}
use Rattle.git_ideals.specs.Division.{member, DividesToZero, IsSPolynomial}
use Rattle.git_ideals.specs.Faces.{face_monomial}
use Rattle.git_facecert.specs.declared.certificate.FaceCert.{FaceCert}
use Rattle.git_facecert.specs.declared.certificate.FaceCert.TheVariants.{Monomial, Free}
use Rattle.git_facecert.specs.declared.certificate.Place.{Place}
use Rattle.git_facecert.specs.declared.certificate.Place.TheVariants.{Member, Generator, Clear, Pair, Product}
use Rattle.git_facecert.specs.declared.certificate.Accepted.{Accepted}
use Rattle.git_facecert.specs.declared.certificate.Accepted.TheVariants.{Yes, No}
use Rattle.git_facecert.specs.Certificates.{IsCofactor, IsMember, IsAcceptedMonomial, IsAcceptedFree}
use Rattle.git_facecert.specs.declared.certificate.TheConstants.{CERT_POWER}

-- the first of the polynomials that lacks a property has the number n, counted from 1
pub record FirstLacks (P : Polynomial → Type 0) (ps : List Polynomial) (n : ℕ) : Type 0 where
  pub place : ℕ
  pub number : n ≡ place + 1
  pub within : place < length ps
  pub lacks : P (member ps place) → ⊥
  pub before : (k : ℕ) → k < place → P (member ps k)

-- the S-polynomial of the members at two places divides to rest 0
abbrev pub PairDivides : List Polynomial → ℕ → ℕ → Type 0
PairDivides members i j = (s : Polynomial) → IsSPolynomial (member members i) (member members j) s → DividesToZero members s

-- the second place of the first pair with the first place i whose S-polynomial does not divide to rest 0
pub record FirstPartner (members : List Polynomial) (i j : ℕ) : Type 0 where
  pub order : i < j
  pub within : j < length members
  pub lacks : PairDivides members i j → ⊥
  pub before : (l : ℕ) → i < l → l < j → PairDivides members i l

-- one pair of places comes before another in lexicographic order
abbrev pub ComesBefore : ℕ → ℕ → ℕ → ℕ → Type 0
ComesBefore k l i j = (k < i) ⊎ ((k ≡ i) × (l < j))

-- the first pair whose S-polynomial does not divide to rest 0 has these numbers, counted from 1
pub record FirstPairLacks (members : List Polynomial) (m n : ℕ) : Type 0 where
  pub first : ℕ
  pub second : ℕ
  pub numbers : (m ≡ first + 1) × (n ≡ second + 1)
  pub order : first < second
  pub within : second < length members
  pub lacks : PairDivides members first second → ⊥
  pub before : (k l : ℕ) → k < l → l < length members → ComesBefore k l first second → PairDivides members k l

-- the power is too large, or the sum of products is another polynomial
abbrev pub SumFails : List Polynomial → ℕ → ℕ → List Polynomial → Type 0
SumFails generators mask exponent cofactors = exponent ≤ CERT_POWER → combination cofactors (map (restricted mask) generators) ≡ monomial (power (face_monomial mask) exponent) → ⊥

-- where a monomial certificate fails first
abbrev pub MonomialFails : List Polynomial → ℕ → ℕ → List Polynomial → Place → Type 0
MonomialFails generators mask exponent cofactors (Member i) = (length cofactors ≡ length generators) × FirstLacks (IsCofactor mask) cofactors i
MonomialFails generators mask exponent cofactors Product = length cofactors ≡ length generators → All (IsCofactor mask) cofactors × SumFails generators mask exponent cofactors
MonomialFails generators mask exponent cofactors place = ⊥

-- all members are ones, and all restricted generators divide to rest 0
abbrev pub GeneratorsPass : List Polynomial → ℕ → List Polynomial → Type 0
GeneratorsPass generators mask members = All (IsMember mask) members × All (λ f. DividesToZero members (restricted mask f)) generators

-- where a free certificate fails first
abbrev pub FreeFails : List Polynomial → ℕ → List Polynomial → Place → Type 0
FreeFails generators mask members (Member i) = FirstLacks (IsMember mask) members i
FreeFails generators mask members (Generator i) = All (IsMember mask) members × FirstLacks (λ f. DividesToZero members (restricted mask f)) generators i
FreeFails generators mask members Clear = GeneratorsPass generators mask members × (DividesToZero members (clearing (face_monomial mask)) → ⊥)
FreeFails generators mask members (Pair i j) = GeneratorsPass generators mask members × DividesToZero members (clearing (face_monomial mask)) × FirstPairLacks members i j
FreeFails generators mask members Product = ⊥

-- the answer is that of a monomial certificate
abbrev pub IsMonomialAnswer : List Polynomial → ℕ → ℕ → List Polynomial → Accepted → Type 0
IsMonomialAnswer generators mask exponent cofactors Yes = IsAcceptedMonomial generators mask exponent cofactors
IsMonomialAnswer generators mask exponent cofactors (No place) = MonomialFails generators mask exponent cofactors place

-- the answer is that of a free certificate
abbrev pub IsFreeAnswer : List Polynomial → ℕ → List Polynomial → Accepted → Type 0
IsFreeAnswer generators mask members Yes = IsAcceptedFree generators mask members
IsFreeAnswer generators mask members (No place) = FreeFails generators mask members place

-- the answer is the certificate's: it is accepted, or the place is that of the first line that fails
abbrev pub IsAnswer : List Polynomial → ℕ → FaceCert → Accepted → Type 0
IsAnswer generators mask (Monomial exponent cofactors) a = IsMonomialAnswer generators mask exponent cofactors.items a
IsAnswer generators mask (Free members) a = IsFreeAnswer generators mask members.items a

-- there are fewer than 2^32 cofactors or members
abbrev pub IsOfFewLines : FaceCert → Type 0
IsOfFewLines (Monomial exponent cofactors) = length cofactors.items < 2 ^ 32
IsOfFewLines (Free members) = length members.items < 2 ^ 32
