-- Two proper sums merged into one.
use Rattle.std.proofs.Common.{zero, suc, refl, ℕ, ◌+◌, ◌*◌, ◌%◌, ◌<◌, ◌≡◌, ◌≢◌, [], ◌∷◌, ◌++◌, sym, ap, subst, arith, append_assoc, append-nil, ◌⊎◌, inl, inr}
use Rattle.std.proofs.Math.Nat.{mod-mod}
use Rattle.git_algebra.specs.Exponents.{Exponents}
use Rattle.git_algebra.specs.Order.{rank}
use Rattle.git_algebra.specs.Sums.{Sum, value, Mod, Alike}
use Rattle.git_algebra.specs.Polynomials.{Proper, RanksBelow, ranks_more, entry}
use Rattle.git_algebra.proofs.Ranks.{rank_injective}
use Rattle.git_algebra.proofs.Values.{value-append}
use Rattle.git_algebra.proofs.Congruence.{mod_refl, mod_is, mod_trans, mod_add, mod_mul, alike_refl, alike_trans}
use Rattle.git_poly.specs.Terms.{IsForm}

-- a merge of p and q on its way: what is out, and what is left of each
pub record Merging (p q out left right : Sum) : Type 0 where
  pub whole : Alike (out ++ (left ++ right)) (p ++ q)
  pub left_proper : Proper (out ++ left)
  pub right_proper : Proper (out ++ right)

ranks_split : (n : ℕ) (p q : Sum) → RanksBelow n (p ++ q) → RanksBelow n p × RanksBelow n q
ranks_split n [] q u = (tt, u)
ranks_split n (t ∷ p) q u = let k = ranks_split n p q u.1 in ((u.0, k.0), k.1)

ranks_join : (n : ℕ) (p q : Sum) → RanksBelow n p → RanksBelow n q → RanksBelow n (p ++ q)
ranks_join n [] q u v = v
ranks_join n (t ∷ p) q u v = (u.0, ranks_join n p q u.1 v)

proper_back : (out p : Sum) → Proper (out ++ p) → Proper p
proper_back [] p u = u
proper_back (t ∷ out) p u = proper_back out p u.3

-- a term between what is out and what it ranks above
proper_between : (out : Sum) (t : Exponents × ℕ) (p q : Sum) → Proper (out ++ (t ∷ p)) → Proper (out ++ q) → RanksBelow (rank t.0) q → Proper (out ++ (t ∷ q))
proper_between [] t p q u v w = (u.0, u.1, w, v)
proper_between (o ∷ out) t p q u v w =
    let a = ranks_split (rank o.0) out (t ∷ p) u.2 in
    let b = ranks_split (rank o.0) out q v.2 in
    (u.0, u.1, ranks_join (rank o.0) out (t ∷ q) a.0 (a.1.0, b.1), proper_between out t p q u.3 v.3 w)

-- another number at a term
proper_renumbered : (out : Sum) (t : Exponents × ℕ) (n : ℕ) (p : Sum) → 0 < n → n < 32003 → Proper (out ++ (t ∷ p)) → Proper (out ++ ((t.0, n) ∷ p))
proper_renumbered [] t n p h k u = (h, k, u.2, u.3)
proper_renumbered (o ∷ out) t n p h k u =
    let a = ranks_split (rank o.0) out (t ∷ p) u.2 in
    (u.0, u.1, ranks_join (rank o.0) out ((t.0, n) ∷ p) a.0 a.1, proper_renumbered out t n p h k u.3)

proper_without : (out : Sum) (t : Exponents × ℕ) (p : Sum) → Proper (out ++ (t ∷ p)) → Proper (out ++ p)
proper_without [] t p u = u.3
proper_without (o ∷ out) t p u =
    let a = ranks_split (rank o.0) out (t ∷ p) u.2 in
    (u.0, u.1, ranks_join (rank o.0) out p a.0 a.1.1, proper_without out t p u.3)

one_more : (out : Sum) (t : Exponents × ℕ) (p : Sum) → Proper (out ++ (t ∷ p)) → Proper ((out ++ (t ∷ [])) ++ p)
one_more out t p u = rw append_assoc u

below_head : (out : Sum) (t u : Exponents × ℕ) (p : Sum) → Proper (out ++ (u ∷ p)) → rank u.0 < rank t.0 → RanksBelow (rank t.0) (u ∷ p)
below_head out t u p v h = let k = proper_back out (u ∷ p) v in (h, ranks_more _ _ p (omega arith) k.2)

pub merging_none : (p q : Sum) → Proper p → Proper q → Merging p q [] p q
merging_none p q u v = record { whole = alike_refl _; left_proper = u; right_proper = v }

pub merging_left : (p q out : Sum) (t u : Exponents × ℕ) (left right : Sum) → Merging p q out (t ∷ left) (u ∷ right) → rank u.0 < rank t.0 → Merging p q (out ++ (t ∷ [])) left (u ∷ right)
merging_left p q out t u left right m h = record {
  whole = alike_trans (record { values = λ f. mod_is (omega (arith, value-append f (out ++ (t ∷ [])) (left ++ (u ∷ right)), value-append f out (t ∷ []), value-append f out (t ∷ (left ++ (u ∷ right))))) }) m.whole;
  left_proper = one_more out t left m.left_proper;
  right_proper = one_more out t (u ∷ right) (proper_between out t left (u ∷ right) m.left_proper m.right_proper (below_head out t u right m.right_proper h));
}

pub merging_right : (p q out : Sum) (t u : Exponents × ℕ) (left right : Sum) → Merging p q out (t ∷ left) (u ∷ right) → rank t.0 < rank u.0 → Merging p q (out ++ (u ∷ [])) (t ∷ left) right
merging_right p q out t u left right m h = record {
  whole = alike_trans (record { values = λ f. mod_is (omega (arith, value-append f (out ++ (u ∷ [])) (t ∷ (left ++ right)), value-append f out (u ∷ []), value-append f left right, value-append f left (u ∷ right), value-append f out (t ∷ (left ++ (u ∷ right))))) }) m.whole;
  left_proper = one_more out u (t ∷ left) (proper_between out u right (t ∷ left) m.right_proper m.left_proper (below_head out u t left m.left_proper h));
  right_proper = one_more out u right m.right_proper;
}

both_numbers : (a b x n l r o : ℕ) → n ≡ (a + b) % 32003 → Mod (o + (n * x + (l + r))) (o + (a * x + (l + (b * x + r))))
both_numbers a b x n l r o e = mod_trans (mod_add (mod_refl o) (mod_add (mod_mul (mod_trans (mod_is e) (record { same = mod-mod (a + b) 32003 })) (mod_refl x)) (mod_refl (l + r)))) (mod_is (omega arith))

merging_both : (p q out : Sum) (t u : Exponents × ℕ) (n : ℕ) (left right : Sum) → Merging p q out (t ∷ left) (u ∷ right) → rank t.0 ≡ rank u.0 → n ≡ (t.1 + u.1) % 32003 → n ≢ 0 → Merging p q (out ++ ((t.0, n) ∷ [])) left right
merging_both p q out t u n left right m h e ne =
    let same : t.0 ≡ u.0 = rank_injective t.0 u.0 h in record {
      whole = alike_trans (record {
        values = λ f.
            mod_trans (mod_is (omega (arith, value-append f (out ++ ((t.0, n) ∷ [])) (left ++ right), value-append f out ((t.0, n) ∷ []), value-append f left right)))
            (mod_trans (both_numbers t.1 u.1 (f t.0) n (value f left) (value f right) (value f out) e)
            (mod_is (let d : u.1 * f t.0 ≡ u.1 * f u.0 = ap (λ k. u.1 * f k) same in omega (arith, d, value-append f left (u ∷ right), value-append f out (t ∷ (left ++ (u ∷ right)))))));
      }) m.whole;
      left_proper = one_more out (t.0, n) left (proper_renumbered out t n left (omega arith) (omega arith) m.left_proper);
      right_proper = one_more out (t.0, n) right (subst (λ (k : Exponents). Proper (out ++ ((k, n) ∷ right))) (sym same) (proper_renumbered out u n right (omega arith) (omega arith) m.right_proper));
    }

merging_neither : (p q out : Sum) (t u : Exponents × ℕ) (left right : Sum) → Merging p q out (t ∷ left) (u ∷ right) → rank t.0 ≡ rank u.0 → (t.1 + u.1) % 32003 ≡ 0 → Merging p q out left right
merging_neither p q out t u left right m h e =
    let same : t.0 ≡ u.0 = rank_injective t.0 u.0 h in record {
      whole = alike_trans (record {
        values = λ f.
            mod_trans (mod_is (omega (arith, value-append f out (left ++ right), value-append f left right)))
            (mod_trans (both_numbers t.1 u.1 (f t.0) 0 (value f left) (value f right) (value f out) (sym e))
            (mod_is (let d : u.1 * f t.0 ≡ u.1 * f u.0 = ap (λ k. u.1 * f k) same in omega (arith, d, value-append f left (u ∷ right), value-append f out (t ∷ (left ++ (u ∷ right)))))));
      }) m.whole;
      left_proper = proper_without out t left m.left_proper;
      right_proper = proper_without out u right m.right_proper;
    }

-- where one list has nothing left
pub merged_left : (p q out left : Sum) → Merging p q out left [] → IsForm (out ++ left) (p ++ q)
merged_left p q out left m = record { whole = alike_trans (record { values = λ f. mod_is (omega (arith, value-append f out left, value-append f out (left ++ []), value-append f left [])) }) m.whole; proper = m.left_proper }

pub merged_right : (p q out right : Sum) → Merging p q out [] right → IsForm (out ++ right) (p ++ q)
merged_right p q out right m = record { whole = m.whole; proper = m.right_proper }

pub merged_one : (p q out left right : Sum) → Merging p q out left right → (left ≡ []) ⊎ (right ≡ []) → IsForm ((out ++ left) ++ right) (p ++ q)
merged_one p q out left right m (inl e) =
    subst (λ (s : Sum). IsForm ((out ++ s) ++ right) (p ++ q)) (sym e) (rw append_assoc (merged_right p q out right (subst (λ (s : Sum). Merging p q out s right) e m)))
merged_one p q out left right m (inr e) =
    subst (λ (s : Sum). IsForm ((out ++ left) ++ s) (p ++ q)) (sym e) (rw append_assoc (subst (λ (s : Sum). IsForm (out ++ s) (p ++ q)) (sym (append-nil left)) (merged_left p q out left (subst (λ (s : Sum). Merging p q out left s) e m))))

-- the next term of the second list, below which all of the first is
pub merging_second : (p q out : Sum) (u : Exponents × ℕ) (left right : Sum) → Merging p q out left (u ∷ right) → RanksBelow (rank u.0) left → Merging p q (out ++ (u ∷ [])) left right
merging_second p q out u left right m below = record {
  whole = alike_trans (record { values = λ f. mod_is (omega (arith, value-append f (out ++ (u ∷ [])) (left ++ right), value-append f out (u ∷ []), value-append f left right, value-append f out (left ++ (u ∷ right)), value-append f left (u ∷ right))) }) m.whole;
  left_proper = one_more out u left (proper_between out u right left m.right_proper m.left_proper below);
  right_proper = one_more out u right m.right_proper;
}

-- a piece of the first list, each term above the next one of the second
abbrev pub RanksAbove : ℕ → Sum → Type 0
RanksAbove n [] = Unit {0}
RanksAbove n (t ∷ p) = (n < rank t.0) × RanksAbove n p

pub merging_piece : (p q out : Sum) (piece : Sum) (u : Exponents × ℕ) (left right : Sum) → Merging p q out (piece ++ left) (u ∷ right) → RanksAbove (rank u.0) piece → Merging p q (out ++ piece) left (u ∷ right)
merging_piece p q out [] u left right m above = subst (λ (s : Sum). Merging p q s left (u ∷ right)) (sym (append-nil out)) m
merging_piece p q out (t ∷ piece) u left right m above =
    subst (λ (s : Sum). Merging p q s left (u ∷ right)) (append_assoc out (t ∷ []) piece)
    (merging_piece p q (out ++ (t ∷ [])) piece u left right (merging_left p q out t u (piece ++ left) right m above.0) above.1)

-- terms of one monomial, their numbers added
pub merging_sum : (p q out : Sum) (t u : Exponents × ℕ) (n : ℕ) (left right : Sum) → Merging p q out (t ∷ left) (u ∷ right) → rank t.0 ≡ rank u.0 → n ≡ (t.1 + u.1) % 32003 → Merging p q (out ++ entry u.0 n []) left right
merging_sum p q out t u zero left right m h e = subst (λ (s : Sum). Merging p q s left right) (sym (append-nil out)) (merging_neither p q out t u left right m h (sym e))
merging_sum p q out t u (suc n) left right m h e =
    subst (λ (k : Exponents). Merging p q (out ++ ((k, suc n) ∷ [])) left right) (rank_injective t.0 u.0 h)
    (merging_both p q out t u (suc n) left right m h e (λ none. absurd (omega (arith, none))))

pub entry_alone : (m : Exponents) (n : ℕ) → 0 < n → entry m n [] ≡ (m, n) ∷ []
entry_alone m zero h = absurd (omega arith)
entry_alone m (suc n) h = refl

-- the next number of the second list isn't 0
pub second_positive : (p q out left : Sum) (u : Exponents × ℕ) (right : Sum) → Merging p q out left (u ∷ right) → 0 < u.1
second_positive p q out left u right m = (proper_back out (u ∷ right) m.right_proper).0

pub back_proper : {p q out left right : Sum} → Merging p q out left right → Proper left
back_proper {p} {q} {out} {left} {right} m = proper_back out left m.left_proper

-- a merge at other sums
pub moved : {p q out left right out' left' right' : Sum} → out ≡ out' → left ≡ left' → right ≡ right' → Merging p q out left right → Merging p q out' left' right'
moved {p} {q} a b c m = subst (λ s. s) (λ i. Merging p q (a i) (b i) (c i)) m
