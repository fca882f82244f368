-- The terms of a map: one more, the greatest, and all of them in descending order.
use Rattle.std.proofs.Common.{Option, All, zero, suc, ℕ, ◌+◌, ◌-◌, ◌*◌, ◌%◌, ◌<◌, ◌≤◌, ◌≡◌, refl, [], ◌∷◌, ◌++◌, length, take, Some, None, Bool, true, false, cond, sym, ◌∙◌, ap, subst, arith, unwrap_or, slice_get}
use Rattle.std.proofs.Math.Nat.{mod-mod, mul_assoc}
use Rattle.std.specs.List.{AllByRecursion}
use Rattle.std.specs.List.Sorted.{IsStrictlySortedBy}
use Rattle.std.specs.declared.cmp.Ordering.{Ordering}
use Rattle.std.specs.declared.cmp.Ordering.TheVariants.{Less, Equal, Greater}
use Rattle.std.specs.Ordering.{nat_cmp, on, is_eq, match_ordering}
use Rattle.std.specs.Cmp.{ranked}
use Rattle.std.specs.Map.{lookup, remove_entry, keys_of}
use Rattle.std.specs.BTreeMap.{insert_entry, is_at}
use Rattle.std.proofs.lemmas.List.{take_more, take_all}
use Rattle.std.proofs.lemmas.Option.{slice_get_within, get_or_from_slice_get}
use Rattle.git_algebra.specs.Exponents.{Exponents, times, degree}
use Rattle.git_algebra.specs.Order.{rank}
use Rattle.git_algebra.specs.Sums.{Sum, value, shift, coefficient, Mod, Alike}
use Rattle.git_algebra.specs.Polynomials.{Polynomial, RanksBelow, normal}
use Rattle.git_algebra.specs.Operations.{zero_polynomial, term_of, plus, minus, times_term, lead_of, greatest_degree}
use Rattle.git_algebra.proofs.Ranks.{rank_injective}
use Rattle.git_algebra.proofs.Values.{value-append, value-shift}
use Rattle.git_algebra.proofs.Congruence.{mod_refl, mod_is, mod_sym, mod_trans, mod_add, mod_mul, alike_refl, alike_sym, alike_trans}
use Rattle.git_algebra.proofs.Leads.{at_same, at_other}
use Rattle.git_algebra.proofs.Normal.{value_past, normal_alike, same_from_alike}
use Rattle.git_algebra.proofs.Products.{lead_of-normal}
use Rattle.git_algebra.proofs.Every.{Every, every-append, every-normal, all_from_every}
use Rattle.git_ideals.proofs.Cancelling.{less_values}
use Rattle.git_reduce.specs.Entries.{AreNumbers}

-- the number at a monomial
abbrev pub number_at : Sum → Exponents → ℕ
number_at p m = unwrap_or (lookup (is_at (on rank nat_cmp m)) p) 0

-- what stands in an entry counts once less after it is removed
value-remove_entry : (f : Exponents → ℕ) (m : Exponents) (p : Sum) → value f (remove_entry (is_at (on rank nat_cmp m)) p) + number_at p m * f m ≡ value f p
value-remove_entry f m [] = omega arith
value-remove_entry f m (t ∷ p) = by (nat_cmp (rank m) (rank t.0)) refl (value-remove_entry f m p)
  where
    by : (r : Ordering) → r ≡ nat_cmp (rank m) (rank t.0) → value f (remove_entry (is_at (on rank nat_cmp m)) p) + number_at p m * f m ≡ value f p
        → value f (cond (is_eq r) p (t ∷ remove_entry (is_at (on rank nat_cmp m)) p)) + unwrap_or (cond (is_eq r) (Some t.1) (lookup (is_at (on rank nat_cmp m)) p)) 0 * f m ≡ t.1 * f t.0 + value f p
    by Less e ih = omega (arith, ih)
    by Equal e ih = let d : t.1 * f m ≡ t.1 * f t.0 = ap (λ k. t.1 * f k) (rank_injective m t.0 (ranked _ _ Equal e)) in omega (arith, d)
    by Greater e ih = omega (arith, ih)

-- a monomial below all keys has no entry
nothing_at : (n : ℕ) (m : Exponents) (p : Sum) → rank m < n → AllByRecursion (λ y. nat_cmp n (rank y) ≡ Less) (keys_of p) → number_at p m ≡ 0
nothing_at n m [] h u = refl
nothing_at n m (t ∷ p) h u = by (nat_cmp (rank m) (rank t.0)) refl (nothing_at n m p h u.1)
  where
    above : n < rank t.0
    above = ranked n (rank t.0) Less (sym u.0)

    by : (r : Ordering) → r ≡ nat_cmp (rank m) (rank t.0) → number_at p m ≡ 0 → unwrap_or (cond (is_eq r) (Some t.1) (lookup (is_at (on rank nat_cmp m)) p)) 0 ≡ 0
    by Less e ih = ih
    by Equal e ih = absurd (omega (arith, ranked (rank m) (rank t.0) Equal e, h, above))
    by Greater e ih = ih

-- what stood in an entry counts once less after it is replaced
value-insert_entry : (f : Exponents → ℕ) (m : Exponents) (n : ℕ) (p : Sum) → IsStrictlySortedBy (on rank nat_cmp) (keys_of p) → value f (insert_entry (on rank nat_cmp) p m n) + number_at p m * f m ≡ n * f m + value f p
unfolding IsStrictlySortedBy
value-insert_entry f m n [] u = omega arith
value-insert_entry f m n (t ∷ p) u = by (nat_cmp (rank m) (rank t.0)) refl (value-insert_entry f m n p u.1)
  where
    by : (r : Ordering) → r ≡ nat_cmp (rank m) (rank t.0) → value f (insert_entry (on rank nat_cmp) p m n) + number_at p m * f m ≡ n * f m + value f p
        → value f (match_ordering r ((m, n) ∷ t ∷ p) ((t.0, n) ∷ p) (t ∷ insert_entry (on rank nat_cmp) p m n)) + unwrap_or (cond (is_eq r) (Some t.1) (lookup (is_at (on rank nat_cmp m)) p)) 0 * f m ≡ n * f m + (t.1 * f t.0 + value f p)
    by Less e ih = let none : number_at p m * f m ≡ 0 * f m = ap (λ k. k * f m) (nothing_at (rank t.0) m p (ranked _ _ Less e) u.0) in omega (arith, none)
    by Equal e ih =
        let same : m ≡ t.0 = rank_injective m t.0 (ranked _ _ Equal e) in
        let new : n * f m ≡ n * f t.0 = ap (λ k. n * f k) same in
        let old : t.1 * f m ≡ t.1 * f t.0 = ap (λ k. t.1 * f k) same in
        omega (arith, new, old)
    by Greater e ih = omega (arith, ih)

numbers-remove_entry : (m : Exponents) (p : Sum) → AreNumbers p → AreNumbers (remove_entry (is_at (on rank nat_cmp m)) p)
numbers-remove_entry m [] u = tt
numbers-remove_entry m (t ∷ p) u = by (is_at (on rank nat_cmp m) t.0) (numbers-remove_entry m p u.2)
  where
    by : (b : Bool) → AreNumbers (remove_entry (is_at (on rank nat_cmp m)) p) → AreNumbers (cond b p (t ∷ remove_entry (is_at (on rank nat_cmp m)) p))
    by true ih = u.2
    by false ih = (u.0, u.1, ih)

numbers-insert_entry : (m : Exponents) (n : ℕ) (p : Sum) → 0 < n → n < 32003 → AreNumbers p → AreNumbers (insert_entry (on rank nat_cmp) p m n)
numbers-insert_entry m n [] h k u = (h, k, tt)
numbers-insert_entry m n (t ∷ p) h k u = by (nat_cmp (rank m) (rank t.0)) (numbers-insert_entry m n p h k u.2)
  where
    by : (r : Ordering) → AreNumbers (insert_entry (on rank nat_cmp) p m n) → AreNumbers (match_ordering r ((m, n) ∷ t ∷ p) ((t.0, n) ∷ p) (t ∷ insert_entry (on rank nat_cmp) p m n))
    by Less ih = (h, k, u)
    by Equal ih = (h, k, u.2)
    by Greater ih = (u.0, u.1, ih)

-- one term more, where its monomial had no entry
pub added_alone : (m : Exponents) (c : ℕ) (old new : Sum) → IsStrictlySortedBy (on rank nat_cmp) (keys_of old) → lookup (is_at (on rank nat_cmp m)) old ≡ None → new ≡ insert_entry (on rank nat_cmp) old m c → Alike new ((m, c) ∷ old)
added_alone m c old new u none e = record {
  values = λ f. mod_is (
      let whole : value f new + number_at old m * f m ≡ c * f m + value f old = ap (λ (p : Sum). value f p + number_at old m * f m) e ∙ value-insert_entry f m c old u in
      let nothing : number_at old m * f m ≡ 0 * f m = ap (λ (o : Option ℕ). unwrap_or o 0 * f m) none in
      omega (arith, whole, nothing));
}

-- one term more, where the entry d of its monomial becomes the sum s
replaced : (m : Exponents) (c d s : ℕ) (old new : Sum) → lookup (is_at (on rank nat_cmp m)) old ≡ Some d → s ≡ (c + d) % 32003
    → ((f : Exponents → ℕ) → value f new + number_at old m * f m ≡ s * f m + value f old) → Alike new ((m, c) ∷ old)
replaced m c d s old new found is last = record {
  values = λ f.
      let there : number_at old m * f m ≡ d * f m = ap (λ (o : Option ℕ). unwrap_or o 0 * f m) found in
      let whole : value f new + d * f m ≡ s * f m + value f old = omega (arith, there, last f) in
      let sum : Mod (s * f m) ((c + d) * f m) = mod_mul (record { same = ap (λ n. n % 32003) is ∙ mod-mod (c + d) 32003 }) (mod_refl (f m)) in
      less (value f new) (c * f m + value f old) (d * f m) (mod_trans (mod_is whole) (mod_trans (mod_add sum (mod_refl (value f old))) (mod_is (omega arith))));
}
  where
    less : (a b x : ℕ) → Mod (a + x) (b + x) → Mod a b
    less a b x h =
        let k : Mod (a + x + 32002 * x) (b + x + 32002 * x) = mod_add h (mod_refl (32002 * x)) in
        mod_trans (whole a) (mod_trans k (mod_sym (whole b)))
      where
        whole : (n : ℕ) → Mod n (n + x + 32002 * x)
        whole n = record { same = let e : n + x + 32002 * x ≡ n + x * 32003 = omega arith in omega (arith, e) }

pub sum_kept : (m : Exponents) (c d s : ℕ) (old new : Sum) → IsStrictlySortedBy (on rank nat_cmp) (keys_of old) → lookup (is_at (on rank nat_cmp m)) old ≡ Some d
    → s ≡ (c + d) % 32003 → new ≡ insert_entry (on rank nat_cmp) old m s → Alike new ((m, c) ∷ old)
sum_kept m c d s old new u found is e = replaced m c d s old new found is (λ f. ap (λ (p : Sum). value f p + number_at old m * f m) e ∙ value-insert_entry f m s old u)

pub sum_taken_out : (m : Exponents) (c d s : ℕ) (old new : Sum) → lookup (is_at (on rank nat_cmp m)) old ≡ Some d
    → s ≡ (c + d) % 32003 → s ≡ 0 → new ≡ remove_entry (is_at (on rank nat_cmp m)) old → Alike new ((m, c) ∷ old)
sum_taken_out m c d s old new found is none e = replaced m c d s old new found is (λ f.
    let whole : value f new + number_at old m * f m ≡ value f old = ap (λ (p : Sum). value f p + number_at old m * f m) e ∙ value-remove_entry f m old in
    let zero_times : s * f m ≡ 0 * f m = ap (λ n. n * f m) none in
    omega (arith, whole, zero_times))

pub numbers_put : (m : Exponents) (n : ℕ) (old new : Sum) → new ≡ insert_entry (on rank nat_cmp) old m n → 0 < n → n < 32003 → AreNumbers old → AreNumbers new
numbers_put m n old new e some below u = subst AreNumbers (sym e) (numbers-insert_entry m n old some below u)

pub numbers_left : (m : Exponents) (old new : Sum) → new ≡ remove_entry (is_at (on rank nat_cmp m)) old → AreNumbers old → AreNumbers new
numbers_left m old new e u = subst AreNumbers (sym e) (numbers-remove_entry m old u)

-- the first terms of a list, and one more
pub take_next : (p : Sum) (i : ℕ) (t : Exponents × ℕ) → slice_get p i ≡ Some t → take (i + 1) p ≡ take i p ++ t ∷ []
take_next p i t e = take_more p i t (slice_get_within p i t e) ∙ ap (λ (u : Exponents × ℕ). take i p ++ u ∷ []) (get_or_from_slice_get p i t t e)

pub one_taken : (p : Sum) (i : ℕ) (t : Exponents × ℕ) (old new : Sum) → slice_get p i ≡ Some t → Alike new (t ∷ old) → Alike old (take i p) → Alike new (take (i + 1) p)
one_taken p i t old new e a b = record {
  values = λ f.
      mod_trans (a.values f)
      (mod_trans (mod_add (mod_refl (t.1 * f t.0)) (b.values f))
      (mod_is (omega (arith, ap (value f) (take_next p i t e), value-append f (take i p) (t ∷ [])))));
}

-- the same of terms that are multiplied, behind a start
pub one_multiplied : (start p : Sum) (m : Exponents) (c i : ℕ) (t s : Exponents × ℕ) (old new : Sum) → slice_get p i ≡ Some t → s.0 ≡ times m t.0 → s.1 ≡ (c * t.1) % 32003 → Alike new (s ∷ old) → Alike old (start ++ shift m c (take i p)) → Alike new (start ++ shift m c (take (i + 1) p))
one_multiplied start p m c i t s old new e mono number a b = record {
  values = λ f.
      mod_trans (a.values f)
      (mod_trans (mod_add (mod_mul {b = c * t.1} (record { same = ap (λ n. n % 32003) number ∙ mod-mod (c * t.1) 32003 }) (mod_is (ap f mono))) (b.values f))
      (mod_is (let whole : value f (start ++ shift m c (take (i + 1) p)) ≡ value f start + c * (value (λ k. f (times m k)) (take i p) + (t.1 * f (times m t.0) + 0)) =
      value-append f start (shift m c (take (i + 1) p)) ∙ ap (λ n. value f start + n) (value-shift f m c (take (i + 1) p) ∙ ap (λ n. c * n) (ap (value (λ k. f (times m k))) (take_next p i t e) ∙ value-append (λ k. f (times m k)) (take i p) (t ∷ []))) in
      let part : value f (start ++ shift m c (take i p)) ≡ value f start + c * value (λ k. f (times m k)) (take i p) = value-append f start (shift m c (take i p)) ∙ ap (λ n. value f start + n) (value-shift f m c (take i p)) in
      omega (arith, whole, part))));
}

pub minus_is : (new start : Sum) (p g : Polynomial) (m : Exponents) (c d : ℕ) → normal start ≡ p → d ≡ (32003 - c) % 32003 → c < 32003 → Alike new (start ++ shift m d g.terms) → normal new ≡ minus p (times_term m c g)
minus_is new start p g m c d e is small h = same_from_alike _ _ (record {
  values = λ f.
      let v : ℕ = value (λ k. f (times m k)) g.terms in
      mod_trans ((normal_alike new).values f)
      (mod_trans (h.values f)
      (mod_trans (mod_is (value-append f start (shift m d g.terms) ∙ ap (λ n. value f start + n) (value-shift f m d g.terms)))
      (mod_trans (mod_add
      (mod_trans (mod_sym ((normal_alike start).values f)) (mod_is (ap (λ (q : Polynomial). value f q.terms) e)))
      (mod_mul (negative c d is small) (mod_refl (value (λ k. f (times m k)) g.terms))))
      (mod_trans (mod_is (let k : 32002 * c * value (λ k. f (times m k)) g.terms ≡ 32002 * (c * value (λ k. f (times m k)) g.terms) = mul_assoc 32002 c (value (λ k. f (times m k)) g.terms) in omega (arith, k)))
      (mod_sym (less_values p g m c f))))));
})
  where
    negative : (c d : ℕ) → d ≡ (32003 - c) % 32003 → c < 32003 → Mod d (32002 * c)
    negative c d e below = record { same = let k : 32002 * c + 32003 ≡ (32003 - c) + c * 32003 = omega arith in omega (arith, e, k) }

-- the last entry
below_last : (n : ℕ) (es : Sum) (k : ℕ) (t : Exponents × ℕ) → AllByRecursion (λ y. nat_cmp n (rank y) ≡ Less) (keys_of es) → slice_get es k ≡ Some t → n < rank t.0
below_last n [] k t u e = absurd cc
below_last n (s ∷ es) zero t u e = let same : s ≡ t = cc in omega (arith, ranked n (rank s.0) Less (sym u.0), ap (λ (v : Exponents × ℕ). rank v.0) same)
below_last n (s ∷ es) (suc k) t u e = below_last n es k t u.1 e

last_found : (es : Sum) (k : ℕ) (t : Exponents × ℕ) → suc k ≡ length es → IsStrictlySortedBy (on rank nat_cmp) (keys_of es) → slice_get es k ≡ Some t → (coefficient es t.0 ≡ t.1) × RanksBelow (suc (rank t.0)) es
unfolding IsStrictlySortedBy
last_found [] k t h u e = absurd cc
last_found (s ∷ []) zero t h u e =
    let same : s ≡ t = cc in
    subst (λ (v : Exponents × ℕ). (coefficient (s ∷ []) v.0 ≡ v.1) × RanksBelow (suc (rank v.0)) (s ∷ [])) same
    ((λ i. s.1 * at_same s.0 s.0 refl i + 0) ∙ omega arith, (omega arith, tt))
last_found (s ∷ []) (suc k) t h u e = absurd (omega arith)
last_found (s ∷ (r ∷ es)) zero t h u e = absurd (omega arith)
last_found (s ∷ (r ∷ es)) (suc k) t h u e =
    let ih = last_found (r ∷ es) k t (omega arith) u.1 e in
    let less : rank s.0 < rank t.0 = below_last (rank s.0) (r ∷ es) k t u.0 e in
    let here : coefficient (s ∷ (r ∷ es)) t.0 ≡ s.1 * 0 + coefficient (r ∷ es) t.0 = λ i. s.1 * at_other t.0 s.0 (λ d. absurd (omega (arith, d, less))) i + coefficient (r ∷ es) t.0 in
    (omega (arith, here, ih.0), (omega (arith, less), ih.1))

number_of_entry : (es : Sum) (k : ℕ) (t : Exponents × ℕ) → AreNumbers es → slice_get es k ≡ Some t → (0 < t.1) × (t.1 < 32003)
number_of_entry [] k t u e = absurd cc
number_of_entry (s ∷ es) zero t u e =
    let same : s ≡ t = cc in
    let n : s.1 ≡ t.1 = ap (λ (v : Exponents × ℕ). v.1) same in
    (omega (arith, u.0, n), omega (arith, u.1, n))
number_of_entry (s ∷ es) (suc k) t u e = number_of_entry es k t u.2 e

pub lead_of_entries : (es : Sum) (k : ℕ) (t : Exponents × ℕ) → suc k ≡ length es → IsStrictlySortedBy (on rank nat_cmp) (keys_of es) → AreNumbers es → slice_get es k ≡ Some t → lead_of (normal es) ≡ Some t
lead_of_entries es k t h u numbers e =
    let found = last_found es k t h u e in
    let n = number_of_entry es k t numbers e in
    lead_of-normal es t.0 (record {
      some = λ none. absurd (omega (arith, none.same, found.0, n.0, n.1));
      above = record { none = λ m le. mod_is (value_past (suc (rank t.0)) es found.1 m le) };
    })
    ∙ (let number : coefficient es t.0 % 32003 ≡ t.1 = omega (arith, found.0, n.1) in λ i. Some (t.0, number i))

pub no_entries : (es : Sum) (p : Polynomial) → length es ≡ 0 → normal es ≡ p → lead_of p ≡ None
unfolding normal
no_entries [] p none e = ap lead_of (sym e)
no_entries (s ∷ es) p none e = absurd (omega arith)

-- the entries below each monomial of a polynomial
abbrev pub AreAbove : Polynomial → Sum → Type 0
AreAbove p es = Every (λ a. Every (λ b. rank a < rank b) p.terms) es

above_front : (P : Exponents → Type 0) (p q : Sum) → Every P (p ++ q) → Every P p
above_front P [] q u = tt
above_front P (t ∷ p) q u = (u.0, above_front P p q u.1)

above_last : (P : Exponents → Type 0) (p : Sum) (t : Exponents × ℕ) → Every P (p ++ t ∷ []) → P t.0
above_last P [] t u = u.0
above_last P (s ∷ p) t u = above_last P p t u.1

-- the last entry is below
pub last_below : (p : Polynomial) (es new : Sum) (t : Exponents × ℕ) → es ≡ new ++ t ∷ [] → AreAbove p es → All (λ s. rank t.0 < rank s.0) p.terms
last_below p es new t e u = all_from_every (λ b. rank t.0 < rank b) p.terms (above_last (λ a. Every (λ b. rank a < rank b) p.terms) new t (subst (λ (s : Sum). AreAbove p s) e u))

-- the others are below too, once it is appended
pub others_below : (p q : Polynomial) (es new : Sum) (t : Exponents × ℕ) → es ≡ new ++ t ∷ [] → All (λ k. on rank nat_cmp k t.0 ≡ Less) (keys_of new) → q ≡ plus p (term_of t.0 t.1) → AreAbove p es → AreAbove q new
unfolding plus term_of
others_below p q es new t e below is u =
    subst (λ (r : Polynomial). AreAbove r new) (sym is) (each new below (above_front (λ a. Every (λ b. rank a < rank b) p.terms) new (t ∷ []) (subst (λ (s : Sum). AreAbove p s) e u)))
  where
    each : (es : Sum) → All (λ k. on rank nat_cmp k t.0 ≡ Less) (keys_of es) → Every (λ a. Every (λ b. rank a < rank b) p.terms) es → Every (λ a. Every (λ b. rank a < rank b) (plus p (term_of t.0 t.1)).terms) es
    each [] below v = tt
    each (s ∷ es) below v = (
      every-normal (λ b. rank s.0 < rank b) (p.terms ++ (normal ((t.0, t.1) ∷ [])).terms)
          (every-append (λ b. rank s.0 < rank b) p.terms (normal ((t.0, t.1) ∷ [])).terms v.0
          (every-normal (λ b. rank s.0 < rank b) ((t.0, t.1) ∷ []) (ranked (rank s.0) (rank t.0) Less (sym (below 0 s.0 (omega arith))), tt))),
      each es (λ k d h. below (suc k) d (omega arith)) v.1,
    )

pub one_popped : (p q : Polynomial) (es new start : Sum) (t : Exponents × ℕ) → es ≡ new ++ t ∷ [] → q ≡ plus p (term_of t.0 t.1) → Alike (p.terms ++ es) start → Alike (q.terms ++ new) start
unfolding plus term_of
one_popped p q es new start t e is a = record {
  values = λ f.
      mod_trans (mod_is (value-append f q.terms new ∙ ap (λ (r : Polynomial). value f r.terms + value f new) is))
      (mod_trans (mod_add
      (mod_trans ((normal_alike (p.terms ++ (normal ((t.0, t.1) ∷ [])).terms)).values f)
      (mod_trans (mod_is (value-append f p.terms (normal ((t.0, t.1) ∷ [])).terms)) (mod_add (mod_refl (value f p.terms)) ((normal_alike ((t.0, t.1) ∷ [])).values f))))
      (mod_refl (value f new)))
      (mod_trans (mod_is (omega (arith, value-append f p.terms es, ap (value f) e, value-append f new (t ∷ [])))) (a.values f)));
}

pub nothing_above : (p : Polynomial) (es : Sum) → p ≡ zero_polynomial → AreAbove p es
unfolding zero_polynomial normal
nothing_above p es e = subst (λ (q : Polynomial). AreAbove q es) (sym e) (each es)
  where
    each : (es : Sum) → AreAbove (normal []) es
    each [] = tt
    each (s ∷ es) = (tt, each es)

pub nothing_yet : (p : Polynomial) (es : Sum) → p ≡ zero_polynomial → Alike (p.terms ++ es) es
unfolding zero_polynomial normal
nothing_yet p es e = subst (λ (q : Polynomial). Alike (q.terms ++ es) es) (sym e) (alike_refl es)

pub none_over : (n : ℕ) → (0 < n → false ≡ true) → n ≡ 0
none_over zero h = refl
none_over (suc n) h = absurd (let e : false ≡ true = h (omega arith) in cc)

pub all_popped : (p q : Polynomial) (es start : Sum) → length es ≡ 0 → Alike (p.terms ++ es) start → normal start ≡ q → p ≡ q
all_popped p q [] start none a e = same_from_alike p q (alike_trans (record { values = λ f. mod_is (omega (arith, value-append f p.terms [])) }) (alike_trans a (alike_trans (alike_sym (normal_alike start)) (subst (λ (r : Polynomial). Alike (normal start).terms r.terms) e (alike_refl (normal start).terms)))))
all_popped p q (s ∷ es) start none a e = absurd (omega arith)

pub degree_at : (p : Sum) (i : ℕ) (t : Exponents × ℕ) → slice_get p i ≡ Some t → degree t.0 ≤ greatest_degree p
degree_at [] i t e = absurd cc
degree_at (s ∷ p) zero t e = let same : s ≡ t = cc in omega (arith, ap (λ (v : Exponents × ℕ). degree v.0) same)
degree_at (s ∷ p) (suc i) t e = omega (arith, degree_at p i t e)

pub taken_whole : (es : Sum) (n : ℕ) (p : Polynomial) → length p.terms ≤ n → Alike es (take n p.terms) → normal es ≡ p
taken_whole es n p all a = same_from_alike (normal es) p (alike_trans (normal_alike es) (subst (λ (s : Sum). Alike es s) (take_all n p.terms all) a))

pub multiplied_whole : (es start : Sum) (n : ℕ) (p g : Polynomial) (m : Exponents) (c d : ℕ) → length g.terms ≤ n → Alike es (start ++ shift m d (take n g.terms)) → normal start ≡ p → d ≡ (32003 - c) % 32003 → c < 32003 → normal es ≡ minus p (times_term m c g)
multiplied_whole es start n p g m c d all a e is small = minus_is es start p g m c d e is small (subst (λ (s : Sum). Alike es (start ++ shift m d s)) (take_all n g.terms all) a)
