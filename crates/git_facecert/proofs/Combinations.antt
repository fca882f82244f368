-- Sums of products of cofactors with restricted generators, one product after the other.
use Rattle.std.proofs.Common.{zero, suc, ℕ, ◌+◌, ◌-◌, ◌%◌, ◌<◌, ◌≤◌, ◌≡◌, refl, List, [], ◌∷◌, map, take, length, get_or, Bool, true, false, cond, sym, ap, ◌∙◌, add-one, arith, max}
use Rattle.std.specs.Prelude.{filter, ◌↔◌}
use Rattle.git_algebra.specs.Exponents.{degree, in_face}
use Rattle.git_algebra.specs.Sums.{Sum, coefficient}
use Rattle.git_algebra.specs.Polynomials.{Polynomial, normal}
use Rattle.git_algebra.specs.Operations.{zero_polynomial, plus, minus, multiplied, restricted, total_degree, greatest_degree}
use Rattle.git_algebra.proofs.Normal.{coefficient_below, terms_is}
use Rattle.git_algebra.proofs.Coefficients.{coefficient-minus, polynomial_from_coefficients}
use Rattle.git_algebra.proofs.Ring.{plus_comm, plus_assoc, zero-plus, minus-plus}
use Rattle.git_ideals.specs.Ideals.{combination}
use Rattle.git_poly.proofs.Faces.{kept_form}

-- one product more at the end
combination_suc : (mask i : ℕ) (hs fs : List Polynomial) (h f : Polynomial) → h ≡ get_or hs i h → f ≡ get_or fs i f → i < length hs → i < length fs
    → combination (take (suc i) hs) (map (restricted mask) (take (suc i) fs)) ≡ plus (combination (take i hs) (map (restricted mask) (take i fs))) (multiplied h (restricted mask f))
combination_suc mask i [] fs h f e g a b = absurd (omega arith)
combination_suc mask i (p ∷ hs) [] h f e g a b = absurd (omega arith)
combination_suc mask zero (p ∷ hs) (q ∷ fs) h f e g a b = plus_comm _ _ ∙ (λ i. plus zero_polynomial (multiplied (sym e i) (restricted mask (sym g i))))
combination_suc mask (suc i) (p ∷ hs) (q ∷ fs) h f e g a b =
    (λ t. plus (multiplied p (restricted mask q)) (combination_suc mask i hs fs h f e g (omega arith) (omega arith) t))
    ∙ sym (plus_assoc (multiplied p (restricted mask q)) (combination (take i hs) (map (restricted mask) (take i fs))) (multiplied h (restricted mask f)))

pub combination_more : (mask i : ℕ) (hs fs : List Polynomial) (h f : Polynomial) → h ≡ get_or hs i h → f ≡ get_or fs i f → i < length hs → i < length fs
    → combination (take (i + 1) hs) (map (restricted mask) (take (i + 1) fs)) ≡ plus (combination (take i hs) (map (restricted mask) (take i fs))) (multiplied h (restricted mask f))
combination_more mask i hs fs h f e g a b = ap (λ n. combination (take n hs) (map (restricted mask) (take n fs))) (add-one i) ∙ combination_suc mask i hs fs h f e g a b

-- all of them
pub combination_whole : (mask n : ℕ) (hs fs : List Polynomial) → length hs ≤ n → length fs ≤ n → combination (take n hs) (map (restricted mask) (take n fs)) ≡ combination hs (map (restricted mask) fs)
combination_whole mask n hs fs a b = λ t. combination (whole n hs a t) (map (restricted mask) (whole n fs b t))
  where
    whole : (n : ℕ) (ps : List Polynomial) → length ps ≤ n → take n ps ≡ ps
    whole zero [] h = refl
    whole (suc n) [] h = refl
    whole zero (p ∷ ps) h = absurd (omega arith)
    whole (suc n) (p ∷ ps) h = λ t. p ∷ whole n ps (omega arith) t

degree-kept : (mask : ℕ) (p : Sum) → greatest_degree (filter (λ t. in_face mask t.0) p) ≤ greatest_degree p
degree-kept mask [] = omega arith
degree-kept mask (t ∷ p) = by (in_face mask t.0) (degree-kept mask p)
  where
    by : (b : Bool) → greatest_degree (filter (λ t. in_face mask t.0) p) ≤ greatest_degree p → greatest_degree (cond b (t ∷ filter (λ t. in_face mask t.0) p) (filter (λ t. in_face mask t.0) p)) ≤ max (degree t.0) (greatest_degree p)
    by true ih = omega arith
    by false ih = omega arith

-- a restriction has no greater total degree
pub degree-restricted : (mask : ℕ) (p : Polynomial) → total_degree (restricted mask p) ≤ total_degree p
unfolding restricted
degree-restricted mask p =
    let same : (restricted mask p).terms ≡ filter (λ t. in_face mask t.0) p.terms = terms_is (filter (λ t. in_face mask t.0) p.terms) (restricted mask p) (kept_form mask p.terms p.proper).proper refl in
    omega (arith, ap greatest_degree same, degree-kept mask p.terms)

-- a difference is 0 exactly between two that are the same
pub zero_difference : (p q : Polynomial) → (minus p q ≡ zero_polynomial) ↔ (p ≡ q)
unfolding zero_polynomial normal
zero_difference p q = (
  λ e. sym (minus-plus p q) ∙ (λ t. plus (e t) q) ∙ zero-plus q,
  λ e. (λ t. minus (e t) q) ∙ polynomial_from_coefficients (minus q q) zero_polynomial (λ m. coefficient-minus q q m ∙ none (coefficient q.terms m) (coefficient_below q.terms q.proper m)),
)
  where
    none : (n : ℕ) → n < 32003 → (n + (32003 - n)) % 32003 ≡ 0
    none n h = omega arith
