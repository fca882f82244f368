-- The extra variable: a power of a monomial e is in an ideal where 1 is in the ideal with 1 - y e, and the other way round.
use Rattle.std.specs.Prelude.{ℕ, zero, suc, ◌+◌, ◌-◌, ◌*◌, ◌<◌, ◌≤◌, ◌≡◌, refl, List, [], ◌∷◌, ◌++◌, map}
use Rattle.std.proofs.Common.{sym, ◌∙◌, ap, subst, arith, zero-add}
use Rattle.git_algebra.specs.Exponents.{Exponents, times, one, power}
use Rattle.git_algebra.proofs.Monomials.{times_comm, times_assoc, one-times, times-one, power-zero, power-suc, power-times}
use Rattle.git_algebra.specs.Sums.{Sum, value, product, unit, Mod, Alike}
use Rattle.git_algebra.proofs.Values.{value-append, value-product}
use Rattle.git_algebra.proofs.Congruence.{mod_refl, mod_is, mod_sym, mod_trans, mod_add}
use Rattle.git_ideals.specs.Ideals.{y}
use Rattle.git_ideals.specs.Extra.{extra, without_extra, traded, mapped}
use Rattle.git_ideals.proofs.ExtraExponents.{extra-y, without_extra-y, extra-one, extra-times, without_extra-times, without_extra_same}
use Rattle.git_ideals.proofs.SumIdeals.{sum_combination, SumInIdeal, ideal_alike, ideal-append, ideal-product, ideal_here, ideal_there}

abbrev pub single : Exponents → Sum
single m = (m, 1) ∷ []

-- 1 - y e
abbrev pub clear : Exponents → Sum
clear e = (one, 1) ∷ (times y e, 32002) ∷ []

-- one power fewer
fewer : {fs : List Sum} (e : Exponents) (n : ℕ) → SumInIdeal (clear e ∷ fs) (single (power (times y e) (suc n))) → SumInIdeal (clear e ∷ fs) (single (power (times y e) n))
fewer {fs} e n h = ideal_alike (ideal-append (ideal-product (single (power (times y e) n)) (ideal_here (clear e) fs)) h)
    (record { values = λ f. mod_trans (mod_is (parts f)) (numbers (f (power (times y e) n)) (f (times (power (times y e) n) (times y e)))) })
  where
    numbers : (u v : ℕ) → Mod (u + 32002 * v + v) (1 * u + 0)
    numbers u v = record { same = let d : u + 32002 * v + v ≡ (1 * u + 0) + v * 32003 = omega arith in omega (arith, d) }

    parts : (f : Exponents → ℕ) → value f (product (single (power (times y e) n)) (clear e) ++ single (power (times y e) (suc n))) ≡ f (power (times y e) n) + 32002 * f (times (power (times y e) n) (times y e)) + f (times (power (times y e) n) (times y e))
    parts f =
        let a : f (times (power (times y e) n) one) ≡ f (power (times y e) n) = ap f (times-one (power (times y e) n)) in
        let b : f (power (times y e) (suc n)) ≡ f (times (power (times y e) n) (times y e)) = ap f (power-suc (times y e) n ∙ times_comm (times y e) (power (times y e) n)) in
        omega (arith, a, b)

down : {fs : List Sum} (e : Exponents) (n : ℕ) → SumInIdeal (clear e ∷ fs) (single (power (times y e) n)) → SumInIdeal (clear e ∷ fs) unit
unfolding unit
down {fs} e zero h = subst (λ (m : Exponents). SumInIdeal (clear e ∷ fs) (single m)) (power-zero (times y e)) h
down e (suc n) h = down e n (fewer e n h)

-- a power in the ideal gives 1 in the ideal with 1 - y e
pub unit_from_power : (fs : List Sum) (e : Exponents) (n : ℕ) → SumInIdeal fs (single (power e n)) → SumInIdeal (clear e ∷ fs) unit
unit_from_power fs e n h = down e n (ideal_alike (ideal-product (single (power y n)) (ideal_there (clear e) fs h))
    (record { values = λ f. mod_is (let d : f (times (power y n) (power e n)) ≡ f (power (times y e) n) = ap f (sym (power-times y e n)) in omega (arith, d)) }))

-- each term has less than n of the extra variable
abbrev pub Fewer : ℕ → Sum → Type 0
Fewer n [] = Unit {0}
Fewer n (t ∷ p) = (extra t.0 < n) × Fewer n p

abbrev pub NoExtra : Sum → Type 0
NoExtra [] = Unit {0}
NoExtra (t ∷ p) = (extra t.0 ≡ 0) × NoExtra p

abbrev pub AllNoExtra : List Sum → Type 0
AllNoExtra [] = Unit {0}
AllNoExtra (f ∷ fs) = NoExtra f × AllNoExtra fs

total_extra : Sum → ℕ
total_extra [] = 0
total_extra (t ∷ p) = extra t.0 + total_extra p

pub fewer_more : (n k : ℕ) (p : Sum) → n ≤ k → Fewer n p → Fewer k p
fewer_more n k [] h u = tt
fewer_more n k (t ∷ p) h u = (omega (arith, u.0), fewer_more n k p h u.1)

fewer_than_total : (p : Sum) → Fewer (suc (total_extra p)) p
unfolding total_extra
fewer_than_total [] = tt
fewer_than_total (t ∷ p) = (omega arith, fewer_more _ _ p (omega arith) (fewer_than_total p))

pub value-mapped : (g : Exponents → Exponents) (f : Exponents → ℕ) (p : Sum) → value f (mapped g p) ≡ value (λ a. f (g a)) p
value-mapped g f [] = refl
value-mapped g f (t ∷ p) = ap (λ n. t.1 * f (g t.0) + n) (value-mapped g f p)

traded-times : (e : Exponents) (n : ℕ) (a b : Exponents) → extra b ≡ 0 → traded e n (times a b) ≡ times (traded e n a) b
unfolding traded
traded-times e n a b none =
    let k : n - extra (times a b) ≡ n - extra a = omega (arith, extra-times a b) in
    (λ i. times ((without_extra-times a b ∙ ap (times (without_extra a)) (without_extra_same b none)) i) (power e (k i)))
    ∙ times_assoc (without_extra a) b (power e (n - extra a))
    ∙ ap (times (without_extra a)) (times_comm b (power e (n - extra a)))
    ∙ sym (times_assoc (without_extra a) (power e (n - extra a)) b)

traded-clear : (e : Exponents) (n : ℕ) (a : Exponents) → extra e ≡ 0 → extra a < n → traded e n (times a (times y e)) ≡ traded e n a
unfolding traded
traded-clear e n a none few =
    let k : n - extra a ≡ suc (n - extra (times a (times y e))) = omega (arith, extra-times a (times y e), extra-times y e, extra-y) in
    let w : without_extra (times a (times y e)) ≡ times (without_extra a) e =
    without_extra-times a (times y e)
    ∙ ap (times (without_extra a)) (without_extra-times y e ∙ (λ i. times (without_extra-y i) (without_extra_same e none i)) ∙ one-times e) in
    (λ i. times (w i) (power e (n - extra (times a (times y e)))))
    ∙ times_assoc (without_extra a) e (power e (n - extra (times a (times y e))))
    ∙ ap (times (without_extra a)) (sym (power-suc e (n - extra (times a (times y e)))))
    ∙ (λ i. times (without_extra a) (power e (sym k i)))

pub traded-one : (e : Exponents) (n : ℕ) → traded e n one ≡ power e n
unfolding traded
traded-one e n =
    let k : n - extra one ≡ n = omega (arith, extra-one) in
    (λ i. times (without_extra_same one extra-one i) (power e (k i))) ∙ one-times (power e n)

-- products with 1 - y e go to nothing
pub traded_clear_none : (e : Exponents) (n : ℕ) → extra e ≡ 0 → (f : Exponents → ℕ) (h : Sum) → Fewer n h → Mod (value (λ a. f (traded e n a)) (product h (clear e))) 0
traded_clear_none e n none f h few = mod_trans (mod_is (value-product (λ a. f (traded e n a)) h (clear e))) (each h few)
  where
    numbers : (c u : ℕ) → Mod (c * (1 * u + (32002 * u + 0))) 0
    numbers c u = record { same = let d : c * (1 * u + (32002 * u + 0)) ≡ c * u * 32003 = omega arith in omega (arith, d) }

    each : (h : Sum) → Fewer n h → Mod (value (λ a. value (λ b. f (traded e n (times a b))) (clear e)) h) 0
    each [] few = mod_refl 0
    each (t ∷ h) few = mod_add
        (mod_trans (mod_is (λ i. t.1 * (1 * f (traded e n (times-one t.0 i)) + (32002 * f (traded-clear e n t.0 none few.0 i) + 0)))) (numbers t.1 (f (traded e n t.0))))
        (each h few.1)

-- the others go to products with the same generator
traded_product : (e : Exponents) (n : ℕ) (f : Exponents → ℕ) (h g : Sum) → NoExtra g → value (λ a. f (traded e n a)) (product h g) ≡ value f (product (mapped (traded e n) h) g)
traded_product e n f h g none =
    value-product (λ a. f (traded e n a)) h g
    ∙ (λ i. value (λ a. inner a g none i) h)
    ∙ sym (value-mapped (traded e n) (λ a. value (λ b. f (times a b)) g) h)
    ∙ sym (value-product f (mapped (traded e n) h) g)
  where
    inner : (a : Exponents) (g : Sum) → NoExtra g → value (λ b. f (traded e n (times a b))) g ≡ value (λ b. f (times (traded e n a) b)) g
    inner a [] none = refl
    inner a (t ∷ g) none = λ i. t.1 * f (traded-times e n a t.0 none.0 i) + inner a g none.1 i

pub traded_combination : (e : Exponents) (n : ℕ) (f : Exponents → ℕ) (hs fs : List Sum) → AllNoExtra fs → value (λ a. f (traded e n a)) (sum_combination hs fs) ≡ value f (sum_combination (map (mapped (traded e n)) hs) fs)
traded_combination e n f [] fs none = refl
traded_combination e n f (h ∷ hs) [] none = refl
traded_combination e n f (h ∷ hs) (g ∷ fs) none =
    value-append (λ a. f (traded e n a)) (product h g) (sum_combination hs fs)
    ∙ (λ i. traded_product e n f h g none.0 i + traded_combination e n f hs fs none.1 i)
    ∙ sym (value-append f (product (mapped (traded e n) h) g) (sum_combination (map (mapped (traded e n)) hs) fs))

pub record PowerIn (fs : List Sum) (e : Exponents) : Type 0 where
  pub exponent : ℕ
  pub inside : SumInIdeal fs (single (power e exponent))

-- 1 in the ideal with 1 - y e gives a power of e in the ideal
pub power_from_unit : (fs : List Sum) (e : Exponents) → extra e ≡ 0 → AllNoExtra fs → SumInIdeal (clear e ∷ fs) unit → PowerIn fs e
unfolding unit
power_from_unit fs e none free h = from h.cofactors h.sums
  where
    with_first : (h : Sum) (hs : List Sum) → Alike (product h (clear e) ++ sum_combination hs fs) unit → PowerIn fs e
    with_first h hs sums =
        let n : ℕ = suc (total_extra h) in
        record {
          exponent = suc (total_extra h);
          inside = record {
            cofactors = map (mapped (traded e (suc (total_extra h)))) hs;
            sums = record {
              values = λ f.
                  let g : Exponents → ℕ = λ a. f (traded e (suc (total_extra h)) a) in
                  mod_trans (mod_is (sym (traded_combination e (suc (total_extra h)) f hs fs free)))
                  (mod_trans (mod_is (sym (zero-add (value g (sum_combination hs fs)))))
                  (mod_trans (mod_add (mod_sym (traded_clear_none e (suc (total_extra h)) none f h (fewer_than_total h))) (mod_refl (value g (sum_combination hs fs))))
                  (mod_trans (mod_is (sym (value-append g (product h (clear e)) (sum_combination hs fs))))
                  (mod_trans (sums.values g) (mod_is (λ i. 1 * f (traded-one e (suc (total_extra h)) i) + 0))))));
            };
          };
        }

    from : (hs : List Sum) → Alike (sum_combination hs (clear e ∷ fs)) unit → PowerIn fs e
    from [] sums = with_first [] [] sums
    from (h ∷ hs) sums = with_first h hs sums
