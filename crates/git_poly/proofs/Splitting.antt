-- The product of a list is the sum of the products of its two parts.
use Rattle.std.proofs.Common.{zero, suc, ℕ, ◌≤◌, ◌≡◌, refl, List, [], ◌∷◌, ◌++◌, take, drop, sym, subst, arith}
use Rattle.git_algebra.specs.Sums.{Sum, product, Alike}
use Rattle.git_algebra.specs.Polynomials.{Proper, RanksBelow}
use Rattle.git_algebra.specs.Operations.{greatest_degree}
use Rattle.git_algebra.proofs.Congruence.{alike_trans, alike_sym, alike-append, alike_comm, alike_distrib_left}
use Rattle.git_poly.specs.declared.term.Term.{Term}
use Rattle.git_poly.specs.Terms.{sum_of, IsForm}

ranks_front : (n : ℕ) (p q : Sum) → RanksBelow n (p ++ q) → RanksBelow n p
ranks_front n [] q u = tt
ranks_front n (t ∷ p) q u = (u.0, ranks_front n p q u.1)

proper_front : (p q : Sum) → Proper (p ++ q) → Proper p
proper_front [] q u = tt
proper_front (t ∷ p) q u = (u.0, u.1, ranks_front _ p q u.2, proper_front p q u.3)

proper_rest : (p q : Sum) → Proper (p ++ q) → Proper q
proper_rest [] q u = u
proper_rest (t ∷ p) q u = proper_rest p q u.3

-- a list of terms in two parts
pub sum_of-parts : (ts : List Term) (n : ℕ) → sum_of ts ≡ sum_of (take n ts) ++ sum_of (drop n ts)
sum_of-parts [] zero = refl
sum_of-parts [] (suc n) = refl
sum_of-parts (t ∷ ts) zero = refl
sum_of-parts (t ∷ ts) (suc n) = λ i. (t.mono, t.number) ∷ sum_of-parts ts n i

pub proper-take : (ts : List Term) (n : ℕ) → Proper (sum_of ts) → Proper (sum_of (take n ts))
proper-take ts n u = proper_front _ (sum_of (drop n ts)) (subst Proper (sum_of-parts ts n) u)

pub proper-drop : (ts : List Term) (n : ℕ) → Proper (sum_of ts) → Proper (sum_of (drop n ts))
proper-drop ts n u = proper_rest (sum_of (take n ts)) _ (subst Proper (sum_of-parts ts n) u)

pub greatest_degree-take : (ts : List Term) (n : ℕ) → greatest_degree (sum_of (take n ts)) ≤ greatest_degree (sum_of ts)
greatest_degree-take [] zero = omega arith
greatest_degree-take [] (suc n) = omega arith
greatest_degree-take (t ∷ ts) zero = omega arith
greatest_degree-take (t ∷ ts) (suc n) = omega (arith, greatest_degree-take ts n)

pub greatest_degree-drop : (ts : List Term) (n : ℕ) → greatest_degree (sum_of (drop n ts)) ≤ greatest_degree (sum_of ts)
greatest_degree-drop [] zero = omega arith
greatest_degree-drop [] (suc n) = omega arith
greatest_degree-drop (t ∷ ts) zero = omega arith
greatest_degree-drop (t ∷ ts) (suc n) = omega (arith, greatest_degree-drop ts n)

-- the product from those of the parts
pub product_of_parts : (ts : List Term) (n : ℕ) (q front back whole : Sum) → IsForm front (product (sum_of (take n ts)) q) → IsForm back (product (sum_of (drop n ts)) q) → IsForm whole (front ++ back) → IsForm whole (product (sum_of ts) q)
product_of_parts ts n q front back whole h k w = record {
  whole = alike_trans w.whole (alike_trans (alike-append h.whole k.whole)
      (subst (λ (s : Sum). Alike (product (sum_of (take n ts)) q ++ product (sum_of (drop n ts)) q) (product s q)) (sym (sum_of-parts ts n))
      (alike_sym (alike_distrib_left (sum_of (take n ts)) (sum_of (drop n ts)) q))));
  proper = w.proper;
}

-- a product by the factors in the other order
pub product_turned : (whole p q : Sum) → IsForm whole (product q p) → IsForm whole (product p q)
product_turned whole p q h = record { whole = alike_trans h.whole (alike_comm q p); proper = h.proper }
