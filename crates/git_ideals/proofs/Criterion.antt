-- Buchberger's criterion.
use Rattle.std.specs.Prelude.{ℕ, zero, suc, ◌+◌, ◌*◌, ◌%◌, ◌<◌, ◌≤◌, ◌≡◌, List, [], ◌∷◌, ◌++◌}
use Rattle.std.proofs.Common.{sym, ◌∙◌, ap, subst, arith, inl, inr}
use Rattle.std.proofs.lemmas.Bool.{cases_lt, cases_eq}
use Rattle.std.proofs.Math.Nat.{mul_assoc}
use Rattle.git_algebra.specs.Exponents.{Exponents, times, one}
use Rattle.git_algebra.proofs.Monomials.{times_assoc, one-times}
use Rattle.git_algebra.specs.Order.{rank}
use Rattle.git_algebra.proofs.Ranks.{rank_injective, rank-times}
use Rattle.git_algebra.specs.Sums.{Sum, value, shift, Mod, Alike, at as at_monomial, coefficient}
use Rattle.git_algebra.proofs.Values.{value-append, value-shift}
use Rattle.git_algebra.proofs.Congruence.{mod_refl, mod_is, mod_sym, mod_trans, mod_add, mod_mul, alike_refl, alike_sym, alike_trans, alike-append}
use Rattle.git_algebra.proofs.Leads.{Below, Lead, coefficient-shift, below_more, below_nil, below-append, below_alike, below-shift}

pub record Member : Type 0 where
  pub sum : Sum
  pub lead : Exponents
  pub is_lead : Lead sum lead
  pub monic : Mod (coefficient sum lead) 1

-- a member of the list times one term
pub record Item (G : Member → Type 0) : Type 0 where
  pub member : Member
  pub inside : G member
  pub factor : Exponents
  pub number : ℕ

module _ {G : Member → Type 0} where
  abbrev pub place : Item G → Exponents
  place i = times i.factor i.member.lead

  abbrev pub item_sum : Item G → Sum
  item_sum i = shift i.factor i.number i.member.sum

  abbrev pub spread : List (Item G) → Sum
  spread [] = []
  spread (i ∷ is) = item_sum i ++ spread is

  abbrev pub Under : ℕ → List (Item G) → Type 0
  Under r [] = Unit {0}
  Under r (i ∷ is) = (rank (place i) < r) × Under r is

-- p is a sum of members times terms, all of whose leads rank below r
pub record Reps (G : Member → Type 0) (r : ℕ) (p : Sum) : Type 0 where
  pub items : List (Item G)
  pub under : Under r items
  pub sums : Alike (spread items) p

value_shift_shift : (f : Exponents → ℕ) (w : Exponents) (n : ℕ) (a : Exponents) (c : ℕ) (p : Sum) → value f (shift (times w a) (n * c) p) ≡ n * value (λ b. f (times w b)) (shift a c p)
value_shift_shift f w n a c p =
    value-shift f (times w a) (n * c) p
    ∙ (λ i. n * c * value (λ b. f (times_assoc w a b i)) p)
    ∙ mul_assoc n c (value (λ b. f (times w (times a b))) p)
    ∙ ap (λ k. n * k) (sym (value-shift (λ b. f (times w b)) a c p))

module _ {G : Member → Type 0} where
  pub reps_alike : {r : ℕ} {p q : Sum} → Reps G r p → Alike p q → Reps G r q
  reps_alike k e = record { items = k.items; under = k.under; sums = alike_trans k.sums e }

  pub reps_nil : (r : ℕ) → Reps G r []
  reps_nil r = record { items = []; under = tt; sums = alike_refl [] }

  under-append : (r : ℕ) (is js : List (Item G)) → Under r is → Under r js → Under r (is ++ js)
  under-append r [] js u v = v
  under-append r (i ∷ is) js u v = (u.0, under-append r is js u.1 v)

  spread-append : (is js : List (Item G)) → Alike (spread (is ++ js)) (spread is ++ spread js)
  spread-append [] js = alike_refl _
  spread-append (i ∷ is) js =
      alike_trans (alike-append (alike_refl (item_sum i)) (spread-append is js)) (alike_regroup (item_sum i) (spread is) (spread js))
    where
      alike_regroup : (p q r : Sum) → Alike (p ++ (q ++ r)) ((p ++ q) ++ r)
      alike_regroup p q r = record { values = λ f. mod_is (omega (arith, value-append f p (q ++ r), value-append f q r, value-append f (p ++ q) r, value-append f p q)) }

  pub reps-append : {r : ℕ} {p q : Sum} → Reps G r p → Reps G r q → Reps G r (p ++ q)
  reps-append {r} k l = record {
    items = k.items ++ l.items;
    under = under-append r k.items l.items k.under l.under;
    sums = alike_trans (spread-append k.items l.items) (alike-append k.sums l.sums);
  }

  -- each item times one more term
  moved : Exponents → ℕ → List (Item G) → List (Item G)
  moved w n [] = []
  moved w n (i ∷ is) = record i { factor = times w i.factor; number = n * i.number } ∷ moved w n is

  spread-moved : (f : Exponents → ℕ) (w : Exponents) (n : ℕ) (is : List (Item G)) → value f (spread (moved w n is)) ≡ n * value (λ b. f (times w b)) (spread is)
  unfolding moved
  spread-moved f w n [] = omega arith
  spread-moved f w n (i ∷ is) =
      let head : value f (shift (times w i.factor) (n * i.number) i.member.sum) ≡ n * value (λ b. f (times w b)) (item_sum i) = value_shift_shift f w n i.factor i.number i.member.sum in
      let tail : value f (spread (moved w n is)) ≡ n * value (λ b. f (times w b)) (spread is) = spread-moved f w n is in
      value-append f (shift (times w i.factor) (n * i.number) i.member.sum) (spread (moved w n is))
      ∙ (λ j. head j + tail j)
      ∙ (let e : n * value (λ b. f (times w b)) (item_sum i ++ spread is) ≡ n * (value (λ b. f (times w b)) (item_sum i) + value (λ b. f (times w b)) (spread is)) = ap (λ k. n * k) (value-append (λ b. f (times w b)) (item_sum i) (spread is)) in omega arith)

  under-moved : (w : Exponents) (n : ℕ) (m : Exponents) (is : List (Item G)) → Under (rank m) is → Under (rank (times w m)) (moved w n is)
  unfolding moved
  under-moved w n m [] u = tt
  under-moved w n m (i ∷ is) u =
      (rw (times_assoc w i.factor i.member.lead) (rank-times w (place i) m u.0), under-moved w n m is u.1)

  pub reps-shift : (w : Exponents) (n : ℕ) (m : Exponents) {p : Sum} → Reps G (rank m) p → Reps G (rank (times w m)) (shift w n p)
  reps-shift w n m {p} k = record {
    items = moved w n k.items;
    under = under-moved w n m k.items k.under;
    sums = record {
      values = λ f.
          mod_trans (mod_is (spread-moved f w n k.items))
          (mod_trans (mod_mul (mod_refl n) (k.sums.values (λ b. f (times w b))))
          (mod_is (sym (value-shift f w n p))));
    };
  }

  under-scaled : (n r : ℕ) (is : List (Item G)) → Under r is → Under r (moved one n is)
  unfolding moved
  under-scaled n r [] u = tt
  under-scaled n r (i ∷ is) u = (rw (one-times i.factor) u.0, under-scaled n r is u.1)

  pub reps_scaled : (n : ℕ) {r : ℕ} {p : Sum} → Reps G r p → Reps G r (shift one n p)
  reps_scaled n {r} {p} k = record {
    items = moved one n k.items;
    under = under-scaled n r k.items k.under;
    sums = record {
      values = λ f.
          mod_trans (mod_is (spread-moved f one n k.items))
          (mod_trans (mod_mul (mod_refl n) (k.sums.values (λ b. f (times one b))))
          (mod_is (sym (value-shift f one n p))));
    };
  }

  spread_below : (r : ℕ) (is : List (Item G)) → Under r is → Below r (spread is)
  spread_below r [] u = below_nil r
  spread_below r (i ∷ is) u = below-append (below_more u.0 (below-shift i.factor i.number i.member.sum i.member.lead i.member.is_lead.above)) (spread_below r is u.1)

  pub reps_below : {r : ℕ} {p : Sum} → Reps G r p → Below r p
  reps_below {r} k = below_alike k.sums (spread_below r k.items k.under)

-- two products of members with one lead differ by what ranks below it
pub record Closed (G : Member → Type 0) : Type 0 where
  pub close : (g h : Member) → G g → G h → (a b : Exponents) → times a g.lead ≡ times b h.lead → Reps G (rank (times a g.lead)) (shift a 1 g.sum ++ shift b 32002 h.sum)

-- a sum at rank r at most, as what ranks below r and at most one product at r
data Split (G : Member → Type 0) (r : ℕ) (p : Sum) : Type 0 where
  lower : Reps G r p → Split G r p
  top : (i : Item G) → rank (place i) ≡ r → (rest : Sum) → Reps G r rest → Alike (item_sum i ++ rest) p → Split G r p

-- two products at one lead, as one of them and a multiple of their difference
one_of_two : (a b : Exponents) (n k : ℕ) (p q rest : Sum) → Alike (shift b (n + k) q ++ (shift one n (shift a 1 p ++ shift b 32002 q) ++ rest)) (shift a n p ++ (shift b k q ++ rest))
one_of_two a b n k p q rest = record { values = λ f. values f }
  where
    numbers : (x y z : ℕ) → Mod ((n + k) * y + (n * (1 * x + 32002 * y) + z)) (n * x + (k * y + z))
    numbers x y z = record { same = let e : (n + k) * y + (n * (1 * x + 32002 * y) + z) ≡ (n * x + (k * y + z)) + n * y * 32003 = omega arith in omega (arith, e) }

    values : (f : Exponents → ℕ) → Mod (value f (shift b (n + k) q ++ (shift one n (shift a 1 p ++ shift b 32002 q) ++ rest))) (value f (shift a n p ++ (shift b k q ++ rest)))
    values f =
        let x : ℕ = value (λ c. f (times a c)) p in
        let y : ℕ = value (λ c. f (times b c)) q in
        let inner : value (λ c. f (times one c)) (shift a 1 p ++ shift b 32002 q) ≡ 1 * x + 32002 * y =
        (λ i. value (λ c. f (one-times c i)) (shift a 1 p ++ shift b 32002 q)) ∙ value-append f (shift a 1 p) (shift b 32002 q) ∙ (λ i. value-shift f a 1 p i + value-shift f b 32002 q i) in
        let left : value f (shift b (n + k) q ++ (shift one n (shift a 1 p ++ shift b 32002 q) ++ rest)) ≡ (n + k) * y + (n * (1 * x + 32002 * y) + value f rest) =
        value-append f (shift b (n + k) q) (shift one n (shift a 1 p ++ shift b 32002 q) ++ rest)
        ∙ (λ i. value-shift f b (n + k) q i + (value-append f (shift one n (shift a 1 p ++ shift b 32002 q)) rest ∙ (λ j. (value-shift f one n (shift a 1 p ++ shift b 32002 q) ∙ ap (λ m. n * m) inner) j + value f rest)) i) in
        let right : value f (shift a n p ++ (shift b k q ++ rest)) ≡ n * x + (k * y + value f rest) =
        value-append f (shift a n p) (shift b k q ++ rest)
        ∙ (λ i. value-shift f a n p i + (value-append f (shift b k q) rest ∙ (λ j. value-shift f b k q j + value f rest)) i) in
        mod_trans (mod_is left) (mod_trans (numbers x y (value f rest)) (mod_is (sym right)))

same_under : {G : Member → Type 0} {r s : ℕ} {p : Sum} → r ≡ s → Reps G r p → Reps G s p
same_under {G} {r} {s} {p} e k = subst (λ n. Reps G n p) e k

alike_swap_front : (p q r : Sum) → Alike (p ++ (q ++ r)) (q ++ (p ++ r))
alike_swap_front p q r = record { values = λ f. mod_is (omega (arith, value-append f p (q ++ r), value-append f q r, value-append f q (p ++ r), value-append f p r)) }

split : {G : Member → Type 0} → Closed G → (r : ℕ) (is : List (Item G)) → Under (suc r) is → Split G r (spread is)
split closed r [] u = lower (reps_nil r)
split {G} closed r (i ∷ is) u = elim (cases_lt (rank (place i)) r) [
  | inl below ↦ under_it (split closed r is u.1)
      (record { items = i ∷ []; under = (below, tt); sums = record { values = λ f. mod_is (value-append f (item_sum i) [] ∙ omega arith) } })
  | inr not ↦ at_it (split closed r is u.1) (omega arith)
]
  where
    under_it : Split G r (spread is) → Reps G r (item_sum i) → Split G r (item_sum i ++ spread is)
    under_it (lower k) here = lower (reps-append here k)
    under_it (top t at rest k e) here =
        top t at (item_sum i ++ rest) (reps-append here k) (alike_trans (alike_swap_front (item_sum t) (item_sum i) rest) (alike-append (alike_refl (item_sum i)) e))

    at_it : Split G r (spread is) → rank (place i) ≡ r → Split G r (item_sum i ++ spread is)
    at_it (lower k) here = top i here (spread is) k (alike_refl _)
    at_it (top t at rest k e) here =
        top (record t { number = i.number + t.number }) at
        (shift one i.number (shift i.factor 1 i.member.sum ++ shift t.factor 32002 t.member.sum) ++ rest)
        (reps-append (reps_scaled i.number (same_under here (closed.close i.member t.member i.inside t.inside i.factor t.factor (rank_injective (place i) (place t) (here ∙ sym at))))) k)
        (alike_trans (one_of_two i.factor t.factor i.number t.number i.member.sum t.member.sum rest) (alike-append (alike_refl (item_sum i)) e))

-- a multiple of a term is nothing where its number is 0 modulo 32003
shift_none : (a : Exponents) (n : ℕ) (p rest : Sum) → Mod n 0 → Alike (shift a n p ++ rest) rest
shift_none a n p rest h = record {
  values = λ f.
      mod_trans (mod_is (value-append f (shift a n p) rest ∙ ap (λ k. k + value f rest) (value-shift f a n p)))
      (mod_trans (mod_add (mod_mul h (mod_refl (value (λ b. f (times a b)) p))) (mod_refl (value f rest))) (mod_is (omega arith)));
}

-- The criterion: the lead of what members sum to is a multiple of a member's lead
pub record Divisor (G : Member → Type 0) (m : Exponents) : Type 0 where
  pub member : Member
  pub inside : G member
  pub factor : Exponents
  pub multiple : times factor member.lead ≡ m

pub criterion : {G : Member → Type 0} → Closed G → (r : ℕ) (p : Sum) → Reps G r p → (m : Exponents) → Lead p m → Divisor G m
criterion closed zero p k m lead = absurd (lead.some ((reps_below k).none m (omega arith)))
criterion {G} closed (suc r) p k m lead = found (split closed r k.items k.under) (λ q l e. criterion closed r q l m e)
  where
    found : Split G r (spread k.items) → ((q : Sum) → Reps G r q → Lead q m → Divisor G m) → Divisor G m
    found (lower l) less = less p (reps_alike l k.sums) lead
    found (top t at rest l e) less = elim (cases_eq (t.number % 32003) (0 % 32003)) [
      | inl none ↦ less p (reps_alike l (alike_trans (alike_sym (shift_none t.factor t.number t.member.sum rest (record { same = none }))) whole)) lead
      | inr some ↦
          let there : Mod (coefficient p (place t)) t.number =
          mod_trans (mod_sym (whole.values (at_monomial (place t))))
          (mod_trans (mod_is (value-append (at_monomial (place t)) (item_sum t) rest ∙ ap (λ n. n + coefficient rest (place t)) (coefficient-shift t.factor t.number t.member.sum t.member.lead)))
          (mod_trans (mod_add (mod_mul (mod_refl t.number) t.member.monic) ((reps_below l).none (place t) (omega arith))) (mod_is (omega arith)))) in
          let low : rank m < suc r = elim (cases_lt (rank m) (suc r)) [
            | inl is ↦ is
            | inr not ↦ absurd (lead.some ((reps_below k).none m not))
          ] in
          let high : rank (place t) ≤ rank m = elim (cases_lt (rank m) (rank (place t))) [
            | inl under ↦ absurd (some (mod_trans (mod_sym there) (lead.above.none (place t) under)).same)
            | inr is ↦ is
          ] in
          record { member = t.member; inside = t.inside; factor = t.factor; multiple = rank_injective (place t) m (omega arith) }
    ]
      where
        whole : Alike (item_sum t ++ rest) p
        whole = alike_trans e k.sums
