-- Values of sums: they are linear, and a product's is taken term by term, so the order and the grouping of factors don't matter.
use Rattle.std.proofs.Common.{ℕ, ◌+◌, ◌*◌, ◌≡◌, refl, [], ◌∷◌, ◌++◌, sym, ◌∙◌, ap, arith}
use Rattle.std.proofs.Math.Nat.{mul_assoc}
use Rattle.git_algebra.specs.Exponents.{Exponents, times, one}
use Rattle.git_algebra.specs.Sums.{Sum, value, shift, product, unit}
use Rattle.git_algebra.proofs.Monomials.{times_comm, times_assoc, one-times}

pub value-append : (f : Exponents → ℕ) (p q : Sum) → value f (p ++ q) ≡ value f p + value f q
value-append f [] q = omega arith
value-append f (t ∷ p) q = let ih : value f (p ++ q) ≡ value f p + value f q = value-append f p q in omega arith

pub value-shift : (f : Exponents → ℕ) (m : Exponents) (c : ℕ) (p : Sum) → value f (shift m c p) ≡ c * value (λ a. f (times m a)) p
value-shift f m c [] = omega arith
value-shift f m c (t ∷ p) =
    let ih : value f (shift m c p) ≡ c * value (λ a. f (times m a)) p = value-shift f m c p in
    let e : c * t.1 * f (times m t.0) ≡ c * (t.1 * f (times m t.0)) = mul_assoc c t.1 (f (times m t.0)) in
    omega arith

pub value-product : (f : Exponents → ℕ) (p q : Sum) → value f (product p q) ≡ value (λ a. value (λ b. f (times a b)) q) p
value-product f [] q = refl
value-product f (t ∷ p) q =
    let ih : value f (product p q) ≡ value (λ a. value (λ b. f (times a b)) q) p = value-product f p q in
    omega (arith, value-append f (shift t.0 t.1 q) (product p q), value-shift f t.0 t.1 q)

-- the value is linear in the function too
pub value-zero : (p : Sum) → value (λ _. 0) p ≡ 0
value-zero [] = refl
value-zero (t ∷ p) = omega (arith, value-zero p)

pub value_linear : (c : ℕ) (f g : Exponents → ℕ) (p : Sum) → value (λ a. c * f a + g a) p ≡ c * value f p + value g p
value_linear c f g [] = omega arith
value_linear c f g (t ∷ p) =
    let ih : value (λ a. c * f a + g a) p ≡ c * value f p + value g p = value_linear c f g p in
    let e : t.1 * (c * f t.0) ≡ c * (t.1 * f t.0) = omega arith in
    omega arith

pub value_exchange : (f : Exponents → Exponents → ℕ) (p q : Sum) → value (λ a. value (f a) q) p ≡ value (λ b. value (λ a. f a b) p) q
value_exchange f [] q = sym (value-zero q)
value_exchange f (t ∷ p) q =
    ap (λ n. t.1 * value (f t.0) q + n) (value_exchange f p q)
    ∙ sym (value_linear t.1 (f t.0) (λ b. value (λ a. f a b) p) q)

pub product_comm : (f : Exponents → ℕ) (p q : Sum) → value f (product p q) ≡ value f (product q p)
product_comm f p q =
    value-product f p q
    ∙ value_exchange (λ a b. f (times a b)) p q
    ∙ (λ i. value (λ b. value (λ a. f (times_comm a b i)) p) q)
    ∙ sym (value-product f q p)

pub product_assoc : (f : Exponents → ℕ) (p q r : Sum) → value f (product (product p q) r) ≡ value f (product p (product q r))
product_assoc f p q r =
    value-product f (product p q) r
    ∙ value-product (λ a. value (λ c. f (times a c)) r) p q
    ∙ (λ i. value (λ a. value (λ b. value (λ c. f (times_assoc a b c i)) r) q) p)
    ∙ (λ i. value (λ a. sym (value-product (λ d. f (times a d)) q r) i) p)
    ∙ sym (value-product f p (product q r))

pub product-append_right : (f : Exponents → ℕ) (p q r : Sum) → value f (product p (q ++ r)) ≡ value f (product p q) + value f (product p r)
product-append_right f p q r =
    product_comm f p (q ++ r)
    ∙ value-product f (q ++ r) p
    ∙ value-append (λ a. value (λ b. f (times a b)) p) q r
    ∙ (λ i. (sym (value-product f q p) ∙ product_comm f q p) i + (sym (value-product f r p) ∙ product_comm f r p) i)

pub product-append_left : (f : Exponents → ℕ) (p q r : Sum) → value f (product (p ++ q) r) ≡ value f (product p r) + value f (product q r)
product-append_left f p q r =
    value-product f (p ++ q) r
    ∙ value-append (λ a. value (λ b. f (times a b)) r) p q
    ∙ (λ i. sym (value-product f p r) i + sym (value-product f q r) i)

pub product-unit : (f : Exponents → ℕ) (p : Sum) → value f (product unit p) ≡ value f p
unfolding unit
product-unit f p =
    value-product f ((one, 1) ∷ []) p
    ∙ (λ i. 1 * value (λ b. f (one-times b i)) p + 0)
    ∙ omega arith
