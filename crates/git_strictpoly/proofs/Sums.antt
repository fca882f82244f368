-- What is read strictly is what is printed, and the other way round.
use Rattle.std.proofs.Common.{◌≡◌, ℕ, zero, suc, ◌+◌, ◌-◌, ◌<◌, ◌≤◌, Bool, true, false, cond, List, [], ◌∷◌, ◌++◌, length, ◌||◌, Ok, refl, sym, ap, ◌∙◌, subst, length-append, arith}
use Rattle.std.specs.Prelude.{ℤ, pos, ◌-ℤ◌, ◌<ℤ◌, ◌≤ℤ◌, int_lt, nat_le, nat_lt, ◌==◌, codes, unsigned_abs}
use Rattle.std.specs.Str.{bytes_eq}
use Rattle.std.specs.List.{AllByRecursion}
use Rattle.std.proofs.lemmas.Slice.Eq.{bytes_eq-Decides}
use Rattle.std.proofs.lemmas.Bool.{eqb-true}
use Rattle.std.proofs.lemmas.Bool.Decides.{nat_tests}
use Rattle.std.proofs.lemmas.Int.{ints}
use Rattle.git_lines.specs.declared.fault.FormKind.TheVariants.{Syntax}
use Rattle.git_lines.specs.Reading.{◌>>=◌}
use Rattle.git_lines.proofs.Exact.{bind_ok, ok_is}
use Rattle.git_field.specs.Field.{signed_of}
use Rattle.git_algebra.specs.Exponents.{Exponents}
use Rattle.git_algebra.specs.Order.{rank}
use Rattle.git_algebra.specs.Sums.{Sum}
use Rattle.git_algebra.specs.Polynomials.{Polynomial, Proper, RanksBelow, ranks_more, normal}
use Rattle.git_algebra.proofs.Normal.{terms_is, normal_of}
use Rattle.git_polytext.specs.Printing.{is_negative, sign_text, term_text, signed_terms, terms_text, polynomial_text}
use Rattle.git_strictpoly.specs.Strict.{guard, begins, after_first, signed, sign_front, later_term, term_front, terms_after, terms_front, sum_front, strict_polynomial}
use Rattle.git_strictpoly.specs.Laws.{FitsMonomial, FitsTerm, FitsPoly}
use Rattle.git_strictpoly.proofs.Fronts.{guard_is, guard_again, le_is, le_again, begins_is}
use Rattle.git_strictpoly.proofs.Powers.{IsEnd}
use Rattle.git_strictpoly.proofs.TermsRead.{size_text, term_is, IsBegun, TermAgain, term_again}
use Rattle.git_strictpoly.specs.declared.limits.TheConstants.{LARGEST_SIZE}

-- ---- signs

-- a number modulo 32003 by its sign and its size
record IsSized (negative : Bool) (n c : ℕ) : Type 0 where
  some : 0 < c
  below : c < 32003
  sign : is_negative c ≡ negative
  size : unsigned_abs (signed_of c) ≡ n

not_below : (z : ℤ) → pos 0 ≤ℤ z → int_lt z (pos 0) ≡ false
not_below z h = grind (arith, ints)

is_below : (z : ℤ) → z <ℤ pos 0 → int_lt z (pos 0) ≡ true
is_below z h = grind (arith, ints)

not_le : (a b : ℕ) → b < a → nat_le a b ≡ false
not_le a b h = grind (arith, nat_tests)

positive_sized : (c : ℕ) → 1 ≤ c → c ≤ LARGEST_SIZE → IsSized false c c
positive_sized c some high =
    let e = le_again c LARGEST_SIZE high in
    record { some = some; below = omega (arith, high); sign = rw e (not_below (pos c) (omega (arith, ints))); size = rw e refl }

negative_sized : (n c : ℕ) → 1 ≤ n → n ≤ LARGEST_SIZE → c ≡ 32003 - n → IsSized true n c
negative_sized n c some high is =
    let e : nat_le c LARGEST_SIZE ≡ false = not_le c LARGEST_SIZE (omega (arith, is, high)) in
    record {
      some = omega (arith, is, high);
      below = omega (arith, is, some);
      sign = rw e (is_below (pos c -ℤ pos 32003) (omega (arith, ints, is, some, high)));
      size = rw e (omega (arith, ints, is, some, high));
    }

signed_sized : (negative : Bool) (n : ℕ) → 1 ≤ n → n ≤ LARGEST_SIZE → IsSized negative n (signed negative n)
signed_sized true n some high = negative_sized n (32003 - n) some high refl
signed_sized false n some high = positive_sized n some high

-- a number modulo 32003 that is not 0 has a sign and a size
record Sized (c : ℕ) : Type 0 where
  some : 1 ≤ unsigned_abs (signed_of c)
  high : unsigned_abs (signed_of c) ≤ LARGEST_SIZE
  back : signed (is_negative c) (unsigned_abs (signed_of c)) ≡ c

sized_from : (c n : ℕ) (negative : Bool) → IsSized negative n c → 1 ≤ n → n ≤ LARGEST_SIZE → signed negative n ≡ c → Sized c
sized_from c n negative is some high back = record {
  some = omega (arith, is.size, some);
  high = omega (arith, is.size, high);
  back = (λ i. signed (is.sign i) (is.size i)) ∙ back;
}

sized_of : (c : ℕ) → 0 < c → c < 32003 → Sized c
sized_of c some below = by (nat_le c LARGEST_SIZE) refl
  where
    by : (low : Bool) → nat_le c LARGEST_SIZE ≡ low → Sized c
    by true e = let high : c ≤ LARGEST_SIZE = le_is c LARGEST_SIZE e in sized_from c c false (positive_sized c some high) some high refl
    by false e =
        let low : LARGEST_SIZE < c = grind (arith, nat_tests) in
        let back : 32003 - (32003 - c) ≡ c = omega (arith, below) in
        sized_from c (32003 - c) true (negative_sized (32003 - c) c (omega (arith, below)) (omega (arith, low)) (sym back)) (omega (arith, below)) (omega (arith, low)) back

-- ---- the terms after a sign

sign_byte : (b c : ℕ) → (b == 43 || b == 45) ≡ true → is_negative c ≡ (b == 45) → sign_text false c ≡ b ∷ []
sign_byte b c test is = by (b == 45) refl
  where
    by : (minus : Bool) → (b == 45) ≡ minus → sign_text false c ≡ b ∷ []
    by true e = let same : b ≡ 45 = eqb-true b 45 e in ap (λ (x : Bool). cond x (codes "-") (codes "+")) (is ∙ e) ∙ ap (λ k. k ∷ []) (sym same)
    by false e = let same : b ≡ 43 = grind (arith, nat_tests, test, e) in ap (λ (x : Bool). cond x (codes "-") (codes "+")) (is ∙ e) ∙ ap (λ k. k ∷ []) (sym same)

-- a term of its monomial, sign and size
term_made : (negative : Bool) (n : ℕ) (m : Exponents) (t : List ℕ) → IsSized negative n (signed negative n) → term_text (m, signed negative n) ++ t ≡ size_text n m ++ t
term_made negative n m t is = ap (λ k. size_text k m ++ t) is.size

-- what the terms after a term tell of the bytes that they are read from
abbrev TermsAre : ℕ → ℕ → List ℕ → Sum → Type 0
TermsAre r limit s ts = (s ≡ signed_terms false ts) × RanksBelow limit ts × Proper ts × AllByRecursion (FitsTerm r) ts

rank_test : (a b : ℕ) → nat_lt a b ≡ true → a < b
rank_test a b h = grind (arith, nat_tests)

rank_test_again : (a b : ℕ) → a < b → nat_lt a b ≡ true
rank_test_again a b h = grind (arith, nat_tests)

more_terms : (r : ℕ) (before m : Exponents) (b n : ℕ) (s u : List ℕ) (ts : Sum) → (b == 43 || b == 45) ≡ true → s ≡ size_text n m ++ u → 1 ≤ n → n ≤ LARGEST_SIZE → FitsMonomial r m → rank m < rank before → TermsAre r (rank m) u ts
    → TermsAre r (rank before) (b ∷ s) ((m, signed (b == 45) n) ∷ ts)
more_terms r before m b n s u ts test text some high fits below more =
    let sized = signed_sized (b == 45) n some high in
    let c = signed (b == 45) n in
    let whole : b ∷ s ≡ sign_text false c ++ term_text (m, c) ++ signed_terms false ts =
    ap (λ x. b ∷ x) (text ∙ sym (term_made (b == 45) n m u sized) ∙ ap (λ x. term_text (m, c) ++ x) more.0) ∙ ap (λ x. x ++ term_text (m, c) ++ signed_terms false ts) (sym (sign_byte b c test sized.sign)) in
    (whole, (below, ranks_more (rank m) (rank before) ts (omega (arith, below)) more.1), (sized.some, sized.below, more.1, more.2), (fits, more.3))

terms_are : (n r : ℕ) → r ≤ 16 → (before : Exponents) (s : List ℕ) (ts : Sum) → terms_after n r before s ≡ Ok ts → TermsAre r (rank before) s ts
unfolding terms_after later_term
terms_are zero r small before [] ts e = let q : [] ≡ ts = ok_is [] ts e in subst (TermsAre r (rank before) []) q (refl, tt, tt, tt)
terms_are zero r small before (b ∷ s) ts e = absurd (cc e)
terms_are (suc n) r small before [] ts e = let q : [] ≡ ts = ok_is [] ts e in subst (TermsAre r (rank before) []) q (refl, tt, tt, tt)
terms_are (suc n) r small before (b ∷ s) ts e =
    let l = bind_ok (later_term r before (b ∷ s)) _ ts e in
    let o = bind_ok (terms_after n r l.0.0.0 l.0.1) _ ts l.2 in
    let g = bind_ok (sign_front (b ∷ s)) _ l.0 l.1 in
    let h = bind_ok (guard (b == 43 || b == 45) Syntax) _ g.0 g.1 in
    let t = bind_ok (term_front r s) _ l.0 g.2 in
    let w = bind_ok (guard (nat_lt (rank t.0.0.0) (rank before)) Syntax) _ l.0 t.2 in
    let p = ok_is ((t.0.0.0, signed g.0 t.0.0.1), t.0.1) l.0 w.2 in
    let q = ok_is (l.0.0 ∷ o.0) ts o.2 in
    let negative : (b == 45) ≡ g.0 = ok_is (b == 45) g.0 h.2 in
    let term = term_is r small s t.0.0.0 t.0.0.1 t.0.1 t.1 in
    let rest : TermsAre r (rank t.0.0.0) t.0.1 o.0 = subst (λ (z : (Exponents × ℕ) × List ℕ). TermsAre r (rank z.0.0) z.1 o.0) (sym p) (terms_are n r small l.0.0.0 l.0.1 o.0 o.1) in
    let made = more_terms r before t.0.0.0 b t.0.0.1 s t.0.1 o.0 (guard_is _ Syntax h.0 h.1) term.0 term.1 term.2 term.3 (rank_test _ _ (guard_is _ Syntax w.0 w.1)) rest in
    subst (TermsAre r (rank before) (b ∷ s)) (ap (λ (k : Bool). (t.0.0.0, signed k t.0.0.1) ∷ o.0) negative ∙ ap (λ z. z.0 ∷ o.0) p ∙ q) made

-- ---- the first term

record FirstAre (r : ℕ) (negative : Bool) (s : List ℕ) (ts : Sum) : Type 0 where
  first : Exponents × ℕ
  others : Sum
  are : first ∷ others ≡ ts
  sign : is_negative first.1 ≡ negative
  text : s ≡ term_text first ++ signed_terms false others
  proper : Proper ts
  fits : AllByRecursion (FitsTerm r) ts

first_are : (r : ℕ) → r ≤ 16 → (negative : Bool) (s : List ℕ) (ts : Sum) → terms_front r negative s ≡ Ok ts → FirstAre r negative s ts
unfolding terms_front
first_are r small negative s ts e =
    let t = bind_ok (term_front r s) _ ts e in
    let o = bind_ok (terms_after (length t.0.1) r t.0.0.0 t.0.1) _ ts t.2 in
    let q = ok_is ((t.0.0.0, signed negative t.0.0.1) ∷ o.0) ts o.2 in
    let term = term_is r small s t.0.0.0 t.0.0.1 t.0.1 t.1 in
    let more = terms_are (length t.0.1) r small t.0.0.0 t.0.1 o.0 o.1 in
    let sized = signed_sized negative t.0.0.1 term.1 term.2 in
    record {
      first = (t.0.0.0, signed negative t.0.0.1);
      others = o.0;
      are = q;
      sign = sized.sign;
      text = term.0 ∙ sym (term_made negative t.0.0.1 t.0.0.0 t.0.1 sized) ∙ ap (λ x. term_text (t.0.0.0, signed negative t.0.0.1) ++ x) more.0;
      proper = subst Proper q (sized.some, sized.below, more.1, more.2);
      fits = subst (AllByRecursion (FitsTerm r)) q (term.3, more.3);
    }

abbrev SumIs : ℕ → List ℕ → Sum → Type 0
SumIs r text ts = (text ≡ terms_text ts) × Proper ts × AllByRecursion (FitsTerm r) ts

first_sum : (r : ℕ) (negative : Bool) (text s : List ℕ) (ts : Sum) → text ≡ cond negative (codes "-") [] ++ s → FirstAre r negative s ts → SumIs r text ts
first_sum r true text s ts is f =
    let whole : text ≡ signed_terms true (f.first ∷ f.others) = is ∙ ap (λ x. 45 ∷ x) f.text ∙ ap (λ (b : Bool). cond b (codes "-") [] ++ term_text f.first ++ signed_terms false f.others) (sym f.sign) in
    (whole ∙ ap terms_text f.are, f.proper, f.fits)
first_sum r false text s ts is f =
    let whole : text ≡ signed_terms true (f.first ∷ f.others) = is ∙ f.text ∙ ap (λ (b : Bool). cond b (codes "-") [] ++ term_text f.first ++ signed_terms false f.others) (sym f.sign) in
    (whole ∙ ap terms_text f.are, f.proper, f.fits)

sum_by : (r : ℕ) → r ≤ 16 → (text : List ℕ) (ts : Sum) (zero_test minus : Bool) → bytes_eq text (codes "0") ≡ zero_test → begins 45 text ≡ minus
    → cond zero_test (Ok []) (cond minus (terms_front r true (after_first text)) (terms_front r false text)) ≡ Ok ts → SumIs r text ts
sum_by r small text ts true minus z b e =
    let q : [] ≡ ts = ok_is [] ts e in
    subst (SumIs r text) q ((bytes_eq-Decides text (codes "0")).0 z, tt, tt)
sum_by r small text ts false true z b e = first_sum r true text (after_first text) ts (begins_is 45 text b) (first_are r small true (after_first text) ts e)
sum_by r small text ts false false z b e = first_sum r false text text ts refl (first_are r small false text ts e)

pub texts_are_printed : (r : ℕ) (text : List ℕ) (p : Polynomial) → r ≤ 16 → strict_polynomial r text ≡ Ok p → (text ≡ polynomial_text p) × FitsPoly r p
unfolding strict_polynomial polynomial_text
texts_are_printed r text p small e =
    let a = bind_ok (sum_front r text) _ p e in
    let x = sum_by r small text a.0 (bytes_eq text (codes "0")) (begins 45 text) refl refl a.1 in
    let same : a.0 ≡ p.terms = sym (terms_is a.0 p x.1 (ok_is (normal a.0) p a.2)) in
    (x.0 ∙ ap terms_text same, subst (AllByRecursion (FitsTerm r)) same x.2)

-- ---- what is printed is read

sign_end : (b : ℕ) (x : List ℕ) → (b == 43 || b == 45) ≡ true → IsEnd (b ∷ x)
sign_end b x h = by (b == 45) refl
  where
    plain : b ≡ 43 → IsEnd (b ∷ x)
    plain e = subst (λ k. IsEnd (k ∷ x)) (sym e) (record { quiet = record { no_digit = refl; no_caret = refl }; no_star = refl })

    by : (minus : Bool) → (b == 45) ≡ minus → IsEnd (b ∷ x)
    by true e = subst (λ k. IsEnd (k ∷ x)) (sym (eqb-true b 45 e)) (record { quiet = record { no_digit = refl; no_caret = refl }; no_star = refl })
    by false e = plain (grind (arith, nat_tests, h, e))

-- the byte of a later term's sign
record LaterSign (c : ℕ) : Type 0 where
  byte : ℕ
  is : sign_text false c ≡ byte ∷ []
  known : (byte == 43 || byte == 45) ≡ true
  minus : (byte == 45) ≡ is_negative c

later_sign : (c : ℕ) → LaterSign c
later_sign c = by (is_negative c) refl
  where
    by : (negative : Bool) → is_negative c ≡ negative → LaterSign c
    by true e = record { byte = 45; is = rw e refl; known = refl; minus = sym e }
    by false e = record { byte = 43; is = rw e refl; known = refl; minus = sym e }

terms_end : (ts : Sum) → IsEnd (signed_terms false ts)
terms_end [] = record { quiet = record { no_digit = refl; no_caret = refl }; no_star = refl }
terms_end (t ∷ ts) =
    let sign = later_sign t.1 in
    let text : signed_terms false (t ∷ ts) ≡ sign.byte ∷ (term_text t ++ signed_terms false ts) = ap (λ x. x ++ term_text t ++ signed_terms false ts) sign.is in
    subst IsEnd (sym text) (sign_end sign.byte (term_text t ++ signed_terms false ts) sign.known)

terms_long : (ts : Sum) → length ts ≤ length (signed_terms false ts)
terms_long [] = omega arith
terms_long (t ∷ ts) =
    let sign = later_sign t.1 in
    let text : length (signed_terms false (t ∷ ts)) ≡ suc (length (term_text t ++ signed_terms false ts)) = ap (λ x. length (x ++ term_text t ++ signed_terms false ts)) sign.is in
    let parted : length (term_text t ++ signed_terms false ts) ≡ length (term_text t) + length (signed_terms false ts) = length-append (term_text t) (signed_terms false ts) in
    omega (arith, text, parted, terms_long ts)

printed_term : (r : ℕ) → r ≤ 16 → (t : Exponents × ℕ) (u : List ℕ) → 0 < t.1 → t.1 < 32003 → FitsTerm r t → IsEnd u → TermAgain r t.0 (unsigned_abs (signed_of t.1)) u
printed_term r small t u some below fits end = let s = sized_of t.1 some below in term_again r small t.0 (unsigned_abs (signed_of t.1)) u s.some s.high fits end

terms_again : (n r : ℕ) → r ≤ 16 → (before : Exponents) (ts : Sum) → length ts ≤ n → RanksBelow (rank before) ts → Proper ts → AllByRecursion (FitsTerm r) ts → terms_after n r before (signed_terms false ts) ≡ Ok ts
unfolding terms_after later_term
terms_again zero r small before [] few below proper fits = refl
terms_again zero r small before (t ∷ ts) few below proper fits = absurd (omega (arith, few))
terms_again (suc n) r small before [] few below proper fits = refl
terms_again (suc n) r small before (t ∷ ts) few below proper fits =
    let sign = later_sign t.1 in
    let rest = signed_terms false ts in
    let text : signed_terms false (t ∷ ts) ≡ sign.byte ∷ (term_text t ++ rest) = ap (λ x. x ++ term_text t ++ rest) sign.is in
    let known : sign_front (sign.byte ∷ (term_text t ++ rest)) ≡ Ok (is_negative t.1) = ap (λ b. guard b Syntax >>= λ u. Ok (sign.byte == 45)) sign.known ∙ ap (λ b. Ok b) sign.minus in
    let term = printed_term r small t rest proper.0 proper.1 fits.0 (terms_end ts) in
    let order = guard_again (nat_lt (rank t.0) (rank before)) Syntax (rank_test_again _ _ below.0) in
    let more = terms_again n r small t.0 ts (omega (arith, few)) proper.2 proper.3 fits.1 in
    let back = (sized_of t.1 proper.0 proper.1).back in
    ap (terms_after (suc n) r before) text ∙ rw (known, term.0, order, more) (ap (λ c. Ok ((t.0, c) ∷ ts)) back)

first_again : (r : ℕ) → r ≤ 16 → (t : Exponents × ℕ) (ts : Sum) → Proper (t ∷ ts) → AllByRecursion (FitsTerm r) (t ∷ ts) → terms_front r (is_negative t.1) (term_text t ++ signed_terms false ts) ≡ Ok (t ∷ ts)
unfolding terms_front
first_again r small t ts proper fits =
    let rest = signed_terms false ts in
    let term = printed_term r small t rest proper.0 proper.1 fits.0 (terms_end ts) in
    let more = terms_again (length rest) r small t.0 ts (terms_long ts) proper.2 proper.3 fits.1 in
    let back = (sized_of t.1 proper.0 proper.1).back in
    rw (term.0, more) (ap (λ c. Ok ((t.0, c) ∷ ts)) back)

no_zero_text : (text : List ℕ) → begins 48 text ≡ false → bytes_eq text (codes "0") ≡ false
no_zero_text text h = by (bytes_eq text (codes "0")) refl
  where
    by : (test : Bool) → bytes_eq text (codes "0") ≡ test → test ≡ false
    by true e = let is : text ≡ codes "0" = (bytes_eq-Decides text (codes "0")).0 e in let z : begins 48 (codes "0") ≡ false = ap (begins 48) (sym is) ∙ h in absurd (cc z)
    by false e = refl

sum_again : (r : ℕ) → r ≤ 16 → (ts : Sum) → Proper ts → AllByRecursion (FitsTerm r) ts → sum_front r (terms_text ts) ≡ Ok ts
sum_again r small [] proper fits = refl
sum_again r small (t ∷ ts) proper fits = by (is_negative t.1) refl
  where
    rest : List ℕ
    rest = term_text t ++ signed_terms false ts

    begun : IsBegun rest
    begun = (printed_term r small t (signed_terms false ts) proper.0 proper.1 fits.0 (terms_end ts)).1

    by : (negative : Bool) → is_negative t.1 ≡ negative → sum_front r (signed_terms true (t ∷ ts)) ≡ Ok (t ∷ ts)
    by true e =
        let text : signed_terms true (t ∷ ts) ≡ 45 ∷ rest = ap (λ (negative : Bool). cond negative (codes "-") [] ++ term_text t ++ signed_terms false ts) e in
        let some : bytes_eq (45 ∷ rest) (codes "0") ≡ false = no_zero_text (45 ∷ rest) refl in
        ap (sum_front r) text ∙ ap (λ b. cond b (Ok []) (terms_front r true rest)) some ∙ ap (λ negative. terms_front r negative rest) (sym e) ∙ first_again r small t ts proper fits
    by false e =
        let text : signed_terms true (t ∷ ts) ≡ rest = ap (λ (negative : Bool). cond negative (codes "-") [] ++ term_text t ++ signed_terms false ts) e in
        let some : bytes_eq rest (codes "0") ≡ false = no_zero_text rest begun.no_zero in
        ap (sum_front r) text ∙ (λ i. cond (some i) (Ok []) (cond (begun.no_minus i) (terms_front r true (after_first rest)) (terms_front r false rest))) ∙ ap (λ negative. terms_front r negative rest) (sym e) ∙ first_again r small t ts proper fits

pub printed_is_read : (r : ℕ) (p : Polynomial) → r ≤ 16 → FitsPoly r p → strict_polynomial r (polynomial_text p) ≡ Ok p
unfolding strict_polynomial polynomial_text
printed_is_read r p small fits = rw (sum_again r small p.terms p.proper fits) (ap (λ q. Ok q) (normal_of p))
