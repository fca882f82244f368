-- The monomials that reading finds apart are those of the definition, and there is one such pair.
use Rattle.std.proofs.Common.{◌≡◌, ◌≢◌, ◌⊎◌, ◌<◌, inl, inr, ℕ, true, false, cond, List, [], ◌∷◌, Option, Some, None, refl, sym, ap, ◌∙◌, subst, arith, ℤ}
use Rattle.std.specs.Prelude.{Contains, IsNone, IfSome, ◌↔◌}
use Rattle.std.specs.Option.{option_map}
use Rattle.std.specs.Ordering.{int_eq, nat_cmp, MatchOrdering}
use Rattle.std.specs.declared.cmp.Ordering.{Ordering}
use Rattle.std.specs.declared.cmp.Ordering.TheVariants.{Less, Equal, Greater}
use Rattle.std.specs.Cmp.{ranks}
use Rattle.std.specs.Cmp.Rules.{signed_items}
use Rattle.std.specs.Cmp.Lexicographic.{pointwise}
use Rattle.std.proofs.lemmas.Bool.{and_parts, and_from}
use Rattle.git_defs.specs.Vectors.{Vector}
use Rattle.git_lemmas.specs.Members.{Member}
use Rattle.git_lemmas.proofs.Members.{member_contains, contains_member}
use Rattle.git_grading.specs.Gradings.{Degrees}
use Rattle.git_algebra.specs.Exponents.{Exponents}
use Rattle.git_algebra.specs.Order.{rank}
use Rattle.git_algebra.specs.Sums.{Sum}
use Rattle.git_algebra.specs.Polynomials.{Polynomial, Proper, RanksBelow}
use Rattle.git_algebra.specs.Operations.{lead_of, first_term}
use Rattle.git_algebra.proofs.Ranks.{rank_injective}
use Rattle.git_poly.specs.Degrees.{HasMonomial}
use Rattle.git_degrees.specs.Torsions.{TorsionRow}
use Rattle.git_degrees.specs.Degrees.{degree_in, IsHomogeneous, AreApart, same_degree, first_apart, apart, AreApartAsRead}
use Rattle.git_lemmas.proofs.Options.{yes_or_no, some_is}

abbrev degree : Degrees → List TorsionRow → Exponents → Vector × List ℤ
degree d rows a = degree_in d rows a

pub same_is : (d : Degrees) (rows : List TorsionRow) (a b : Exponents) → same_degree d rows a b ≡ true → degree d rows a ≡ degree d rows b
same_is d rows a b e =
    let both = and_parts (pointwise int_eq (degree d rows a).0 (degree d rows b).0) (pointwise int_eq (degree d rows a).1 (degree d rows b).1) e in
    let first = (signed_items (degree d rows a).0 (degree d rows b).0).0 both.0 in
    let second = (signed_items (degree d rows a).1 (degree d rows b).1).0 both.1 in
    λ i. (first i, second i)

pub same_from : (d : Degrees) (rows : List TorsionRow) (a b : Exponents) → degree d rows a ≡ degree d rows b → same_degree d rows a b ≡ true
same_from d rows a b e =
    let first = (signed_items (degree d rows a).0 (degree d rows b).0).1 (ap (λ (q : Vector × List ℤ). q.0) e) in
    let second = (signed_items (degree d rows a).1 (degree d rows b).1).1 (ap (λ (q : Vector × List ℤ). q.1) e) in
    and_from (pointwise int_eq (degree d rows a).0 (degree d rows b).0) (pointwise int_eq (degree d rows a).1 (degree d rows b).1) first second

other_is : (d : Degrees) (rows : List TorsionRow) (a b : Exponents) → same_degree d rows a b ≡ false → degree d rows b ≢ degree d rows a
other_is d rows a b e same = let clash : true ≡ false = sym (same_from d rows a b (sym same)) ∙ e in cc clash

-- ---- the first of another degree in a list

below_first : (n : ℕ) (ts : Sum) (x : Exponents) (c : ℕ) → RanksBelow n ts → Member (x, c) ts → rank x < n
below_first n [] x c below m = absurd m
below_first n (t ∷ ts) x c below (inl e) = let same : rank t.0 ≡ rank x = ap (λ (p : Exponents × ℕ). rank p.0) e in omega (arith, below.0, same)
below_first n (t ∷ ts) x c below (inr m) = below_first n ts x c below.1 m

pub none_apart : (d : Degrees) (rows : List TorsionRow) (a : Exponents) (ts : Sum) → first_apart d rows a ts ≡ None → (x : Exponents) (c : ℕ) → Member (x, c) ts → degree d rows x ≡ degree d rows a
none_apart d rows a [] e x c m = absurd m
none_apart d rows a (t ∷ ts) e x c m = by (yes_or_no (same_degree d rows a t.0)) (λ f n. none_apart d rows a ts f x c n) m
  where
    by : (same_degree d rows a t.0 ≡ true) ⊎ (same_degree d rows a t.0 ≡ false) → (first_apart d rows a ts ≡ None → Member (x, c) ts → degree d rows x ≡ degree d rows a)
        → Member (x, c) (t ∷ ts) → degree d rows x ≡ degree d rows a
    by (inl same) rest (inl here) = ap (λ (p : Exponents × ℕ). degree d rows p.0) (sym here) ∙ sym (same_is d rows a t.0 same)
    by (inl same) rest (inr m) = let f : cond (same_degree d rows a t.0) (first_apart d rows a ts) (Some t.0) ≡ first_apart d rows a ts = rw same refl in rest (sym f ∙ e) m
    by (inr other) rest m = let f : cond (same_degree d rows a t.0) (first_apart d rows a ts) (Some t.0) ≡ Some t.0 = rw other refl in absurd (let clash : Some t.0 ≡ None = sym f ∙ e in cc clash)

-- the first monomial of another degree, and it is the greatest
pub record FoundApart (d : Degrees) (rows : List TorsionRow) (a b : Exponents) (ts : Sum) : Type 0 where
  pub number : ℕ
  pub there : Member (b, number) ts
  pub other : degree d rows b ≢ degree d rows a
  pub greatest : (x : Exponents) (c : ℕ) → Member (x, c) ts → rank b < rank x → degree d rows x ≡ degree d rows a

pub some_apart : (d : Degrees) (rows : List TorsionRow) (a b : Exponents) (ts : Sum) → Proper ts → first_apart d rows a ts ≡ Some b → FoundApart d rows a b ts
some_apart d rows a b [] proper e = absurd (cc e)
some_apart d rows a b (t ∷ ts) proper e = by (yes_or_no (same_degree d rows a t.0)) (λ f. some_apart d rows a b ts proper.3 f)
  where
    later : same_degree d rows a t.0 ≡ true → FoundApart d rows a b ts → FoundApart d rows a b (t ∷ ts)
    later same f = record {
      number = f.number;
      there = inr f.there;
      other = f.other;
      greatest = λ x c m above. greatest x c m above;
    } where
      greatest : (x : Exponents) (c : ℕ) → Member (x, c) (t ∷ ts) → rank b < rank x → degree d rows x ≡ degree d rows a
      greatest x c (inl here) above = ap (λ (p : Exponents × ℕ). degree d rows p.0) (sym here) ∙ sym (same_is d rows a t.0 same)
      greatest x c (inr m) above = f.greatest x c m above

    now : same_degree d rows a t.0 ≡ false → t.0 ≡ b → FoundApart d rows a b (t ∷ ts)
    now other is = record {
      number = t.1;
      there = inl (λ i. (is i, t.1));
      other = subst (λ x. degree d rows x ≢ degree d rows a) is (other_is d rows a t.0 other);
      greatest = λ x c m above. absurd (greatest x c m above);
    } where
      greatest : (x : Exponents) (c : ℕ) → Member (x, c) (t ∷ ts) → rank b < rank x → ⊥
      greatest x c (inl here) above = let same : rank t.0 ≡ rank x = ap (λ (p : Exponents × ℕ). rank p.0) here in omega (arith, same, ap rank is, above)
      greatest x c (inr m) above = let below = below_first (rank t.0) ts x c proper.2 m in omega (arith, below, ap rank is, above)

    by : (same_degree d rows a t.0 ≡ true) ⊎ (same_degree d rows a t.0 ≡ false) → (first_apart d rows a ts ≡ Some b → FoundApart d rows a b ts) → FoundApart d rows a b (t ∷ ts)
    by (inl same) rest = let f : cond (same_degree d rows a t.0) (first_apart d rows a ts) (Some t.0) ≡ first_apart d rows a ts = rw same refl in later same (rest (sym f ∙ e))
    by (inr other) rest = let f : cond (same_degree d rows a t.0) (first_apart d rows a ts) (Some t.0) ≡ Some t.0 = rw other refl in now other (let same : Some t.0 ≡ Some b = sym f ∙ e in cc same)

-- ---- a polynomial

member_of : (p : Polynomial) (a : Exponents) (h : HasMonomial p a) → Member (a, h.number) p.terms
member_of p a h = contains_member (a, h.number) p.terms h.term

found_by : (d : Degrees) (rows : List TorsionRow) (p : Polynomial) (ts : Sum) → p.terms ≡ ts → AreApartAsRead d rows p (apart d rows ts)
found_by d rows p [] e = λ a b ha hb. absurd (subst (λ (s : Sum). Member (a, ha.number) s) e (member_of p a ha))
found_by d rows p (t ∷ ts) e = by (first_apart d rows t.0 ts) refl
  where
    inside : (x : Exponents) (h : HasMonomial p x) → Member (x, h.number) (t ∷ ts)
    inside x h = subst (λ (s : Sum). Member (x, h.number) s) e (member_of p x h)

    proper : Proper (t ∷ ts)
    proper = subst Proper e p.proper

    none : first_apart d rows t.0 ts ≡ None → (x : Exponents) (c : ℕ) → Member (x, c) (t ∷ ts) → degree d rows x ≡ degree d rows t.0
    none f x c (inl here) = ap (λ (q : Exponents × ℕ). degree d rows q.0) (sym here)
    none f x c (inr m) = none_apart d rows t.0 ts f x c m

    greatest : (b : Exponents) → FoundApart d rows t.0 b ts → (x : Exponents) (c : ℕ) → Member (x, c) (t ∷ ts) → rank b < rank x → degree d rows x ≡ degree d rows t.0
    greatest b g x c (inl here) above = ap (λ (q : Exponents × ℕ). degree d rows q.0) (sym here)
    greatest b g x c (inr m) above = g.greatest x c m above

    by : (o : Option Exponents) → first_apart d rows t.0 ts ≡ o → AreApartAsRead d rows p (option_map (λ m. (t.0, m)) o)
    by None f = λ a b ha hb. none f a ha.number (inside a ha) ∙ sym (none f b hb.number (inside b hb))
    by (Some b) f = let g = some_apart d rows t.0 b ts proper.3 f in record {
      number = t.1;
      lead = ap first_term e;
      has = record { number = g.number; term = subst (λ (s : Sum). Contains s (b, g.number)) (sym e) (member_contains (b, g.number) (t ∷ ts) (inr g.there)) };
      apart = g.other;
      greatest = λ x h above. greatest b g x h.number (inside x h) above;
    }

pub found : (d : Degrees) (rows : List TorsionRow) (p : Polynomial) → AreApartAsRead d rows p (apart d rows p.terms)
found d rows p = found_by d rows p p.terms refl

-- ---- there is one such pair

pub lead_there : (p : Polynomial) (a : Exponents) (n : ℕ) → lead_of p ≡ Some (a, n) → HasMonomial p a
lead_there p a n e = by p.terms refl
  where
    by : (ts : Sum) → p.terms ≡ ts → HasMonomial p a
    by [] is = absurd (let f : None ≡ Some (a, n) = sym (ap first_term is) ∙ e in cc f)
    by (t ∷ ts) is =
        let f : Some t ≡ Some (a, n) = sym (ap first_term is) ∙ e in
        let same : t ≡ (a, n) = cc f in
        record { number = n; term = subst (λ (s : Sum). Contains s (a, n)) (sym is) (member_contains (a, n) (t ∷ ts) (inl same)) }

pub not_both : (d : Degrees) (rows : List TorsionRow) (p : Polynomial) (a b : Exponents) → IsHomogeneous d rows p → AreApart d rows p a b → ⊥
not_both d rows p a b one g = g.apart (one b a g.has (lead_there p a g.number g.lead))

second_same : (d : Degrees) (rows : List TorsionRow) (p : Polynomial) (a b c : Exponents) → AreApart d rows p a b → AreApart d rows p a c → b ≡ c
second_same d rows p a b c g h = by (nat_cmp (rank b) (rank c)) (ranks (rank b) (rank c))
  where
    by : (o : Ordering) → MatchOrdering o (rank b < rank c) (rank b ≡ rank c) (rank c < rank b) → b ≡ c
    by Less l = absurd (h.apart (g.greatest c h.has l))
    by Equal l = rank_injective b c l
    by Greater l = absurd (g.apart (h.greatest b g.has l))

pub pair_same : (d : Degrees) (rows : List TorsionRow) (p : Polynomial) (x y : Exponents × Exponents) → AreApart d rows p x.0 x.1 → AreApart d rows p y.0 y.1 → x ≡ y
pair_same d rows p x y g h =
    let both : Some (x.0, g.number) ≡ Some (y.0, h.number) = sym g.lead ∙ h.lead in
    let first : x.0 ≡ y.0 = ap (λ (q : Exponents × ℕ). q.0) (some_is (x.0, g.number) (y.0, h.number) both) in
    let second = second_same d rows p y.0 x.1 y.1 (subst (λ a. AreApart d rows p a x.1) first g) h in
    λ i. (first i, second i)

apart_by : (d : Degrees) (rows : List TorsionRow) (p : Polynomial) (o r : Option (Exponents × Exponents)) → AreApartAsRead d rows p o
    → (IsNone r ↔ IsHomogeneous d rows p) → IfSome r (λ pair. AreApart d rows p pair.0 pair.1) → o ≡ r
apart_by d rows p None None h none some = refl
apart_by d rows p None (Some y) h none some = absurd (not_both d rows p y.0 y.1 h some)
apart_by d rows p (Some x) None h none some = absurd (not_both d rows p x.0 x.1 (none.0 refl) h)
apart_by d rows p (Some x) (Some y) h none some = ap (λ z. Some z) (pair_same d rows p x y h some)

-- what the polynomial answers is what reading finds
pub apart_is : (d : Degrees) (rows : List TorsionRow) (p : Polynomial) (r : Option (Exponents × Exponents))
    → (IsNone r ↔ IsHomogeneous d rows p) → IfSome r (λ pair. AreApart d rows p pair.0 pair.1) → apart d rows p.terms ≡ r
apart_is d rows p r none some = apart_by d rows p (apart d rows p.terms) r (found d rows p) none some
