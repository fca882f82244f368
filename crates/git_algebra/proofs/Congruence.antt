-- What is alike modulo 32003 stays so in sums and products.
use Rattle.std.proofs.Common.{ℕ, ◌+◌, ◌*◌, ◌%◌, ◌≡◌, refl, [], ◌∷◌, ◌++◌, sym, ◌∙◌, ap, arith}
use Rattle.std.proofs.Math.Nat.{add-mod}
use Rattle.std.proofs.lemmas.Nat.{mul-mod}
use Rattle.git_algebra.specs.Exponents.{Exponents, times}
use Rattle.git_algebra.specs.Sums.{Sum, value, product, unit, Mod, Alike}
use Rattle.git_algebra.proofs.Values.{value-append, value-product, product_comm, product_assoc, product-append_left, product-append_right, product-unit}

pub mod_refl : (a : ℕ) → Mod a a
mod_refl a = record { same = refl }

pub mod_is : {a b : ℕ} → a ≡ b → Mod a b
mod_is e = record { same = ap (λ n. n % 32003) e }

pub mod_sym : {a b : ℕ} → Mod a b → Mod b a
mod_sym h = record { same = sym h.same }

pub mod_trans : {a b c : ℕ} → Mod a b → Mod b c → Mod a c
mod_trans h k = record { same = h.same ∙ k.same }

pub mod_add : {a b c d : ℕ} → Mod a b → Mod c d → Mod (a + c) (b + d)
mod_add {a} {b} {c} {d} h k = record { same = add-mod a c 32003 ∙ (λ i. (h.same i + k.same i) % 32003) ∙ sym (add-mod b d 32003) }

pub mod_mul : {a b c d : ℕ} → Mod a b → Mod c d → Mod (a * c) (b * d)
mod_mul {a} {b} {c} {d} h k = record { same = mul-mod a c 32003 ∙ (λ i. (h.same i * k.same i) % 32003) ∙ sym (mul-mod b d 32003) }

pub alike_refl : (p : Sum) → Alike p p
alike_refl p = record { values = λ f. mod_refl _ }

pub alike_sym : {p q : Sum} → Alike p q → Alike q p
alike_sym h = record { values = λ f. mod_sym (h.values f) }

pub alike_trans : {p q r : Sum} → Alike p q → Alike q r → Alike p r
alike_trans h k = record { values = λ f. mod_trans (h.values f) (k.values f) }

pub alike-append : {p q r s : Sum} → Alike p q → Alike r s → Alike (p ++ r) (q ++ s)
alike-append {p} {q} {r} {s} h k = record { values = λ f. mod_trans (mod_is (value-append f p r)) (mod_trans (mod_add (h.values f) (k.values f)) (mod_is (sym (value-append f q s)))) }

value_mod : (f g : Exponents → ℕ) → ((a : Exponents) → Mod (f a) (g a)) → (p : Sum) → Mod (value f p) (value g p)
value_mod f g h [] = mod_refl 0
value_mod f g h (t ∷ p) = mod_add (mod_mul (mod_refl t.1) (h t.0)) (value_mod f g h p)

pub alike-product_right : (p : Sum) {q r : Sum} → Alike q r → Alike (product p q) (product p r)
alike-product_right p {q} {r} h = record {
  values = λ f.
      mod_trans (mod_is (value-product f p q))
      (mod_trans (value_mod (λ a. value (λ b. f (times a b)) q) (λ a. value (λ b. f (times a b)) r) (λ a. h.values (λ b. f (times a b))) p)
      (mod_is (sym (value-product f p r))));
}

pub alike_comm : (p q : Sum) → Alike (product p q) (product q p)
alike_comm p q = record { values = λ f. mod_is (product_comm f p q) }

pub alike_assoc : (p q r : Sum) → Alike (product (product p q) r) (product p (product q r))
alike_assoc p q r = record { values = λ f. mod_is (product_assoc f p q r) }

pub alike-product_left : {p q : Sum} (r : Sum) → Alike p q → Alike (product p r) (product q r)
alike-product_left {p} {q} r h = alike_trans (alike_comm p r) (alike_trans (alike-product_right r h) (alike_comm r q))

pub alike-product : {p q r s : Sum} → Alike p q → Alike r s → Alike (product p r) (product q s)
alike-product {p} {q} {r} {s} h k = alike_trans (alike-product_left r h) (alike-product_right q k)

pub alike_distrib_right : (p q r : Sum) → Alike (product p (q ++ r)) (product p q ++ product p r)
alike_distrib_right p q r = record { values = λ f. mod_is (product-append_right f p q r ∙ sym (value-append f (product p q) (product p r))) }

pub alike_distrib_left : (p q r : Sum) → Alike (product (p ++ q) r) (product p r ++ product q r)
alike_distrib_left p q r = record { values = λ f. mod_is (product-append_left f p q r ∙ sym (value-append f (product p r) (product q r))) }

pub alike_swap : (p q : Sum) → Alike (p ++ q) (q ++ p)
alike_swap p q = record { values = λ f. mod_is (omega (arith, value-append f p q, value-append f q p)) }

pub alike_unit : (p : Sum) → Alike (product unit p) p
alike_unit p = record { values = λ f. mod_is (product-unit f p) }
