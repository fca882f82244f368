-- The grammar of the line of a polynomial: which bytes stand for which value.
use Rattle.std.specs.Prelude.{◌≡◌, ℕ, ◌-◌, ◌≤◌, ◌⊎◌, true, List, [], ◌∷◌, length, map, codes}
use Rattle.std.specs.List.{list_all}
use Rattle.git_lines.specs.declared.parts.Separator.TheVariants.{Star}
use Rattle.git_lines.specs.Grammar.{Together}
use Rattle.git_lines.specs.Numbers.{is_digit, value_of}
use Rattle.git_lines.specs.Parts.{Part, parts}
use Rattle.git_algebra.specs.Exponents.{Exponents, exponent}
use Rattle.git_algebra.specs.Sums.{Sum}
use Rattle.git_algebra.specs.Polynomials.{Polynomial, normal}
use Rattle.git_polytext.specs.Pieces.{signs, pieces}
use Rattle.git_polytext.specs.Terms.{after_sign, product_of}
use Rattle.git_limits.specs.declared.TheConstants.{TERMS, EXPONENT}

-- a token of digits alone, at most so many, and the number that it spells; each token has a byte
pub record IsNumber (limit : ℕ) (digits : List ℕ) (n : ℕ) : Type 0 where
  pub all : list_all is_digit digits ≡ true
  pub few : length digits ≤ limit
  pub value : value_of digits ≡ n

-- the signs of an exponent: `^` and a number of at most four digits, or nothing for 1
abbrev pub IsExponent : List (List ℕ) → ℕ → Type 0
IsExponent [] e = e ≡ 1
IsExponent (sign ∷ []) e = ⊥
IsExponent (sign ∷ digits ∷ []) e = (sign ≡ codes "^") × IsNumber 4 digits e
IsExponent (sign ∷ digits ∷ t ∷ ts) e = ⊥

-- a power of one of the variables T(1) to T(r): its place, from 0, and its exponent
pub record IsPower (r : ℕ) (text : List ℕ) (power : ℕ × ℕ) : Type 0 where
  pub digits : List ℕ
  pub index : ℕ
  pub exponent : List (List ℕ)
  pub are : signs text ≡ codes "T(" ∷ digits ∷ codes ")" ∷ exponent
  pub index_is : IsNumber 4 digits index
  pub first : 1 ≤ index
  pub last : index ≤ r
  pub place : power.0 ≡ index - 1
  pub exponent_is : IsExponent exponent power.1

-- a number of at most eighteen digits
pub record IsCoefficient (text : List ℕ) (n : ℕ) : Type 0 where
  pub digits : List ℕ
  pub is : signs text ≡ digits ∷ []
  pub number_is : IsNumber 18 digits n

-- the factors of a term: a number and powers, or powers alone, and then the number is 1
abbrev pub IsProduct : ℕ → List (List ℕ) → ℕ → List (ℕ × ℕ) → Type 0
IsProduct r [] n powers = ⊥
IsProduct r (first ∷ others) n powers =
    (IsCoefficient first n × Together (IsPower r) others powers) ⊎ ((n ≡ 1) × Together (IsPower r) (first ∷ others) powers)

-- a term after its sign, if any: factors between stars, whose product has no exponent above 64
pub record IsTerm (r : ℕ) (piece : Part) (term : Exponents × ℕ) : Type 0 where
  pub number : ℕ
  pub powers : List (ℕ × ℕ)
  pub factors : IsProduct r (map (λ p. p.text) (parts Star 1 piece.text)) number powers
  pub monomial : term.0 ≡ product_of powers
  pub small : (i : ℕ) → exponent term.0 i ≤ EXPONENT
  pub counted : term.1 ≡ after_sign piece.separator number

-- the line is that of this polynomial: the sum of at most two hundred terms, which stand between plus and minus signs
pub record IsPolynomialLine (r : ℕ) (content : List ℕ) (p : Polynomial) : Type 0 where
  pub terms : Sum
  pub are : Together (IsTerm r) (pieces content) terms
  pub few : length terms ≤ TERMS
  pub sum : p ≡ normal terms
