-- What the crate's laws say of monomials and polynomials.
use Rattle.std.specs.Prelude.{ℕ, ◌+◌, ◌-◌, ◌*◌, ◌%◌, ◌<◌, ◌≤◌, ◌≡◌, ◌↔◌, Some, if◌then◌else◌}
use Rattle.git_field.specs.declared.TheConstants.{MODULUS}
use Rattle.git_algebra.specs.Exponents.{Exponents, exponent, one, times, quotient, lcm, degree, Divides, in_face}
use Rattle.git_algebra.specs.Order.{Precedes, rank}
use Rattle.git_algebra.specs.Sums.{coefficient}
use Rattle.git_algebra.specs.Polynomials.{Polynomial}
use Rattle.git_algebra.specs.Operations.{zero_polynomial, one_polynomial, term_of, plus, minus, scaled, times_term, multiplied, restricted, lead_of, total_degree}

-- monomials multiply as numbers do, and divide exactly where they do at each place
pub record MonomialLaws : Type 0 where
  pub commute : (a b : Exponents) → times a b ≡ times b a
  pub associate : (a b c : Exponents) → times (times a b) c ≡ times a (times b c)
  pub one_is_neutral : (a : Exponents) → times one a ≡ a
  pub cancel : (a b c : Exponents) → times a b ≡ times a c → b ≡ c
  pub degrees_add : (a b : Exponents) → degree (times a b) ≡ degree a + degree b
  pub divide_by_places : (a b : Exponents) → Divides a b ↔ ((i : ℕ) → i < 17 → exponent a i ≤ exponent b i)
  pub quotient_is_the_cofactor : (a b : Exponents) → Divides a b → times a (quotient b a) ≡ b
  pub lcm_is_a_multiple : (a b : Exponents) → Divides a (lcm a b) × Divides b (lcm a b)
  pub lcm_is_least : (a b c : Exponents) → Divides a c → Divides b c → Divides (lcm a b) c

-- the order is that of the ranks; it is total, 1 is least, products keep it, and a greater total degree is greater
pub record OrderLaws : Type 0 where
  pub by_rank : (a b : Exponents) → Precedes a b ↔ rank a < rank b
  pub total : (a b : Exponents) → rank a ≡ rank b → a ≡ b
  pub least : (a : Exponents) → rank one ≤ rank a
  pub kept : (c a b : Exponents) → rank a < rank b → rank (times c a) < rank (times c b)
  pub graded : (a b : Exponents) → degree a < degree b → rank a < rank b

-- polynomials are a commutative ring
pub record RingLaws : Type 0 where
  pub sums_commute : (p q : Polynomial) → plus p q ≡ plus q p
  pub sums_associate : (p q r : Polynomial) → plus (plus p q) r ≡ plus p (plus q r)
  pub zero_is_neutral : (p : Polynomial) → plus zero_polynomial p ≡ p
  pub differences : (p q : Polynomial) → plus (minus p q) q ≡ p
  pub products_commute : (p q : Polynomial) → multiplied p q ≡ multiplied q p
  pub products_associate : (p q r : Polynomial) → multiplied (multiplied p q) r ≡ multiplied p (multiplied q r)
  pub one_is_neutral : (p : Polynomial) → multiplied one_polynomial p ≡ p
  pub products_distribute : (p q r : Polynomial) → multiplied p (plus q r) ≡ plus (multiplied p q) (multiplied p r)

-- a polynomial is fixed by its coefficients, and these are numbers modulo 32003
pub record CoefficientLaws : Type 0 where
  pub fix : (p q : Polynomial) → ((m : Exponents) → coefficient p.terms m ≡ coefficient q.terms m) → p ≡ q
  pub below : (p : Polynomial) (m : Exponents) → coefficient p.terms m < MODULUS
  pub sum : (p q : Polynomial) (m : Exponents) → coefficient (plus p q).terms m ≡ (coefficient p.terms m + coefficient q.terms m) % MODULUS
  pub difference : (p q : Polynomial) (m : Exponents) → coefficient (minus p q).terms m ≡ (coefficient p.terms m + (MODULUS - coefficient q.terms m)) % MODULUS
  pub multiple : (c : ℕ) (p : Polynomial) (m : Exponents) → coefficient (scaled c p).terms m ≡ (c * coefficient p.terms m) % MODULUS

-- a product by a term is the product of polynomials, and adds the term's exponents to each monomial
pub record TermLaws : Type 0 where
  pub product : (m : Exponents) (c : ℕ) (p : Polynomial) → times_term m c p ≡ multiplied (term_of m c) p
  pub shifted : (m : Exponents) (c : ℕ) (p : Polynomial) (a : Exponents) → coefficient (times_term m c p).terms (times m a) ≡ (c * coefficient p.terms a) % MODULUS
  pub others : (m : Exponents) (c : ℕ) (p : Polynomial) (a : Exponents) → (Divides m a → ⊥) → coefficient (times_term m c p).terms a ≡ 0

-- the lead of a product is the product of the leads, and the total degree is the lead's and adds
pub record LeadLaws : Type 0 where
  pub product : (p q : Polynomial) (s t : Exponents × ℕ) → lead_of p ≡ Some s → lead_of q ≡ Some t → lead_of (multiplied p q) ≡ Some (times s.0 t.0, (s.1 * t.1) % MODULUS)
  pub degree_is_of_lead : (p : Polynomial) (s : Exponents × ℕ) → lead_of p ≡ Some s → total_degree p ≡ degree s.0
  pub degrees_add : (p q : Polynomial) (s t : Exponents × ℕ) → lead_of p ≡ Some s → lead_of q ≡ Some t → total_degree (multiplied p q) ≡ total_degree p + total_degree q

-- to set variables to 0 keeps sums, products and 1, and the numbers of the monomials that are left
pub record RestrictionLaws : Type 0 where
  pub sum : (mask : ℕ) (p q : Polynomial) → restricted mask (plus p q) ≡ plus (restricted mask p) (restricted mask q)
  pub product : (mask : ℕ) (p q : Polynomial) → restricted mask (multiplied p q) ≡ multiplied (restricted mask p) (restricted mask q)
  pub one : (mask : ℕ) → restricted mask one_polynomial ≡ one_polynomial
  pub kept : (mask : ℕ) (p : Polynomial) (m : Exponents) → coefficient (restricted mask p).terms m ≡ (if in_face mask m then coefficient p.terms m else 0)
