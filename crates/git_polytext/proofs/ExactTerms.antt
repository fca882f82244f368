-- What reading takes of a term is what the grammar says.
use Rattle.std.proofs.Common.{◌≡◌, ℕ, ◌+◌, ◌≤◌, ◌⊎◌, inl, inr, Bool, true, false, cond, List, [], ◌∷◌, map, ◌&&◌, Option, Some, None, Ok, Err, refl, sym, ap, ◌∙◌, subst, arith}
use Rattle.std.specs.Prelude.{codes, nat_le}
use Rattle.std.specs.List.{list_all}
use Rattle.std.proofs.lemmas.Slice.Eq.{bytes_eq-Decides}
use Rattle.std.proofs.lemmas.Bool.{or_left, or_right}
use Rattle.git_lines.specs.declared.parts.Separator.TheVariants.{Star}
use Rattle.git_lines.specs.Tokens.{Token, RestOfLine, next_token, texts}
use Rattle.git_lines.specs.Numbers.{is_digit}
use Rattle.git_lines.specs.Parts.{Part, parts, separates}
use Rattle.git_lines.proofs.Exact.{bind_ok, ok_is, with_tokens, next_takes, next_again, texts_cons, texts_nil}
use Rattle.git_algebra.specs.Exponents.{Exponents, exponent, one, times, variable_power}
use Rattle.git_algebra.proofs.Monomials.{one-times, exponent-one, exponent-times, exponent_same}
use Rattle.git_polytext.specs.declared.fault.PolynomialFault.{PolynomialFault}
use Rattle.git_polytext.specs.Pieces.{signs}
use Rattle.git_polytext.specs.Terms.{after_sign, product_of}
use Rattle.git_polytext.specs.Reading.{number_sign, no_sign, power_signs, power_parts, signs_of, begins_term, within_count, begun, first_in, first_factor, term_in, term_part}
use Rattle.git_polytext.specs.Grammar.{IsNumber, IsPower, IsCoefficient, IsProduct, IsTerm}
use Rattle.git_polytext.proofs.Bounds.{one_small, raised_small}
use Rattle.git_polytext.proofs.Columns.{signs_same, part_texts, parts_same}
use Rattle.git_polytext.proofs.ExactSigns.{number_takes, number_again, nothing_takes, nothing_again, power_takes, power_again, factors_take, factors_again, place_below}

-- ---- the first factor: a number, or a power of a variable

pub record IsFirstPower (r : ℕ) (text : List ℕ) (m : Exponents) (n : ℕ) : Type 0 where
  pub power : ℕ × ℕ
  pub is : IsPower r text power
  pub small : exponent one power.0 + power.1 ≤ 64
  pub monomial : m ≡ times one (variable_power power.0 power.1)
  pub counted : n ≡ 1

abbrev pub IsFirst : ℕ → List ℕ → Exponents → ℕ → Type 0
IsFirst r text m n = (IsCoefficient text n × (m ≡ one)) ⊎ IsFirstPower r text m n

begun_takes : (r start : ℕ) (rest : RestOfLine) (test : Bool) (m : Exponents) (n : ℕ) (text : List ℕ) → texts rest.tokens ≡ signs text → begun r start rest test ≡ Ok (m, n) → IsFirst r text m n
begun_takes r start rest true m n text are e =
    let k = bind_ok (number_sign 18 rest) _ (m, n) e in
    let z = bind_ok (no_sign k.0.1) _ (m, n) k.2 in
    let p = ok_is (one, k.0.0) (m, n) z.2 in
    let tn = number_takes 18 rest k.0.1 k.0.0 k.1 in
    let tokens : texts rest.tokens ≡ tn.0.text ∷ [] = ap texts (tn.1 ∙ ap (λ l. tn.0 ∷ l) (nothing_takes k.0.1 z.0 z.1)) in
    inl (record { digits = tn.0.text; is = sym are ∙ tokens; number_is = subst (λ x. IsNumber 18 tn.0.text x) (ap (λ q. q.1) p) tn.2 }, sym (ap (λ q. q.0) p))
begun_takes r start rest false m n text are e =
    let v = bind_ok (power_signs r start one rest) _ (m, n) e in
    let p = ok_is (v.0, 1) (m, n) v.2 in
    let tv = power_takes r start one rest v.0 text are v.1 in
    inr (record { power = tv.0; is = tv.1; small = tv.2; monomial = sym (ap (λ q. q.0) p) ∙ tv.3; counted = sym (ap (λ q. q.1) p) })

-- its first token begins a term
begins_by : (r : ℕ) (text : List ℕ) (m : Exponents) (n : ℕ) (t : Token) (ts : List Token) → texts (t ∷ ts) ≡ signs text → IsFirst r text m n → begins_term t.text ≡ true
begins_by r text m n t ts are (inl (c, o)) =
    let head : t.text ≡ c.digits = let both : texts (t ∷ ts) ≡ c.digits ∷ [] = are ∙ c.is in cc both in
    or_left _ _ (or_left _ _ (subst (λ l. list_all is_digit l ≡ true) (sym head) c.number_is.all))
begins_by r text m n t ts are (inr f) =
    let head : t.text ≡ codes "T(" = let both : texts (t ∷ ts) ≡ codes "T(" ∷ f.is.digits ∷ codes ")" ∷ f.is.exponent = are ∙ f.is.are in cc both in
    or_left _ _ (or_right _ _ ((bytes_eq-Decides t.text (codes "T(")).1 head))

full_by : (full begins : Bool) (d : PolynomialFault) (u : Unit {0}) → begins ≡ true → cond (full && begins) (Err d) (Ok tt) ≡ Ok u → full ≡ false
full_by full false d u b e = absurd (cc b)
full_by true true d u b e = absurd (cc e)
full_by false true d u b e = refl

first_found : (full : Bool) (r : ℕ) (rest : RestOfLine) (o : Option (Token × RestOfLine)) (start : ℕ) (m : Exponents) (n : ℕ) (text : List ℕ)
    → texts rest.tokens ≡ signs text → next_token rest ≡ o → first_in full r rest o ≡ Ok (start, (m, n)) → IsFirst r text m n × (full ≡ false)
first_found full r rest None start m n text are o e = absurd (cc e)
first_found full r rest (Some p) start m n text are o e =
    let k = bind_ok (within_count full rest.line p.0) _ (start, (m, n)) e in
    let b = bind_ok (begun r p.0.column rest (list_all is_digit p.0.text)) _ (start, (m, n)) k.2 in
    let same : b.0 ≡ (m, n) = ap (λ q. q.1) (ok_is (p.0.column, b.0) (start, (m, n)) b.2) in
    let is = begun_takes r p.0.column rest (list_all is_digit p.0.text) m n text are (b.1 ∙ ap (λ q. Ok q) same) in
    let tokens = next_takes rest p.1 p.0 o in
    let begins = begins_by r text m n p.0 p.1.tokens (ap texts (sym tokens) ∙ are) is in
    (is, full_by full (begins_term p.0.text) _ k.0 begins k.1)

pub first_takes : (full : Bool) (r : ℕ) (rest : RestOfLine) (start : ℕ) (m : Exponents) (n : ℕ) (text : List ℕ)
    → texts rest.tokens ≡ signs text → first_factor full r rest ≡ Ok (start, (m, n)) → IsFirst r text m n × (full ≡ false)
unfolding first_factor
first_takes full r rest start m n text are e = first_found full r rest (next_token rest) start m n text are refl e

no_digits : (t : List ℕ) → t ≡ codes "T(" → list_all is_digit t ≡ false
no_digits t e = rw e refl

pub number_first : (r : ℕ) (rest : RestOfLine) (n : ℕ) (text : List ℕ) → texts rest.tokens ≡ signs text → IsCoefficient text n → (start : ℕ) × (first_factor false r rest ≡ Ok (start, (one, n)))
unfolding first_factor
number_first r rest n text are c =
    let a = texts_cons rest.tokens c.digits [] (are ∙ c.is) in
    let tokens : rest.tokens ≡ a.0 ∷ [] = a.2 ∙ ap (λ l. a.0 ∷ l) (texts_nil a.1 a.4) in
    let number = subst (λ t. IsNumber 18 t n) (sym a.3) c.number_is in
    (a.0.column, rw (next_again rest a.0 [] tokens, number.all, number_again 18 rest a.0 [] n tokens number, nothing_again (with_tokens rest []) refl) refl)

pub power_first : (r : ℕ) (rest : RestOfLine) (v : ℕ × ℕ) (text : List ℕ) → texts rest.tokens ≡ signs text → IsPower r text v → exponent one v.0 + v.1 ≤ 64
    → (start : ℕ) × (first_factor false r rest ≡ Ok (start, (times one (variable_power v.0 v.1), 1)))
unfolding first_factor
power_first r rest v text are p small =
    let a = texts_cons rest.tokens _ _ (are ∙ p.are) in
    let other = no_digits a.0.text a.3 in
    let read = power_again r a.0.column one rest v text are p small in
    (a.0.column, rw (next_again rest a.0 a.1 a.2, other, read) refl)

-- ---- a term

-- the texts of the factors, at whatever column the term stands
factors_of : (p : Part) (ps : List Part) → parts Star p.column p.text ≡ ps → map (λ q. q.text) (parts Star 1 p.text) ≡ part_texts ps
factors_of p ps is = parts_same (separates Star) None None 1 p.column p.text ∙ ap part_texts is

term_by : (r line : ℕ) (p q : Part) (qs : List Part) (start n : ℕ) (m product : Exponents) → parts Star p.column p.text ≡ q ∷ qs
    → IsFirst r q.text m n → power_parts r line start m qs ≡ Ok product → IsTerm r p (product, after_sign p.separator n)
term_by r line p q qs start n m product is (inl (c, o)) e =
    let f = factors_take r line start m qs product e in
    record {
      number = n;
      powers = f.0;
      factors = subst (λ l. IsProduct r l n f.0) (sym (factors_of p (q ∷ qs) is)) (inl (c, f.1));
      monomial = f.2 ∙ ap (λ a. times a (product_of f.0)) o ∙ one-times (product_of f.0);
      small = f.3 (λ i. subst (λ a. exponent a i ≤ 64) (sym o) (one_small i));
      counted = refl;
    }
term_by r line p q qs start n m product is (inr v) e =
    let f = factors_take r line start m qs product e in
    let first : m ≡ variable_power v.power.0 v.power.1 = v.monomial ∙ one-times (variable_power v.power.0 v.power.1) in
    record {
      number = n;
      powers = v.power ∷ f.0;
      factors = subst (λ l. IsProduct r l n (v.power ∷ f.0)) (sym (factors_of p (q ∷ qs) is)) (inr (v.counted, (v.is, f.1)));
      monomial = f.2 ∙ ap (λ a. times a (product_of f.0)) first;
      small = f.3 (λ i. subst (λ a. exponent a i ≤ 64) (sym v.monomial) (raised_small one v.power.0 v.power.1 one_small v.small i));
      counted = refl;
    }

term_found : (full : Bool) (r line : ℕ) (p : Part) (ps : List Part) (t : Exponents × ℕ) → parts Star p.column p.text ≡ ps → term_in full r line p.separator ps ≡ Ok t → IsTerm r p t × (full ≡ false)
term_found full r line p [] t is e = absurd (cc e)
term_found full r line p (q ∷ qs) t is e =
    let f = bind_ok (first_factor full r (signs_of line q)) _ t e in
    let v = bind_ok (power_parts r line f.0.0 f.0.1.0 qs) _ t f.2 in
    let same = ok_is (v.0, after_sign p.separator f.0.1.1) t v.2 in
    let tf = first_takes full r (signs_of line q) f.0.0 f.0.1.0 f.0.1.1 q.text (signs_same line q.column q.text) f.1 in
    (subst (λ w. IsTerm r p w) same (term_by r line p q qs f.0.0 f.0.1.1 f.0.1.0 v.0 is tf.0 v.1), tf.1)

pub term_takes : (r line count : ℕ) (p : Part) (t : Exponents × ℕ) → term_part r line count p ≡ Ok t → IsTerm r p t × (nat_le 200 count ≡ false)
unfolding term_part
term_takes r line count p t e = term_found (nat_le 200 count) r line p (parts Star p.column p.text) t refl e

term_from : (r line : ℕ) (sign : Option ℕ) (ps : List Part) (t : Exponents × ℕ) (number : ℕ) (powers : List (ℕ × ℕ)) → r ≤ 16 → IsProduct r (part_texts ps) number powers
    → t.0 ≡ product_of powers → ((i : ℕ) → exponent t.0 i ≤ 64) → t.1 ≡ after_sign sign number → term_in false r line sign ps ≡ Ok t
term_from r line sign [] t number powers few h is small counted = absurd h
term_from r line sign (q ∷ qs) t number powers few (inl (c, others)) is small counted =
    let f = number_first r (signs_of line q) number q.text (signs_same line q.column q.text) c in
    let whole : times one (product_of powers) ≡ t.0 = one-times (product_of powers) ∙ sym is in
    let v = factors_again r line f.0 one qs powers few others (λ i. subst (λ a. exponent a i ≤ 64) (sym whole) (small i)) in
    rw (f.1, v) (λ i. Ok (whole i, sym counted i))
term_from r line sign (q ∷ qs) t number [] few (inr (unit, all)) is small counted = absurd all
term_from r line sign (q ∷ qs) t number (x ∷ powers) few (inr (unit, all)) is small counted =
    let own : exponent (variable_power x.0 x.1) x.0 ≡ x.1 = exponent_same x.0 x.1 (place_below r q.text x few all.0) in
    let low : exponent one x.0 + x.1 ≤ 64 = omega (arith, exponent-one x.0, own, small x.0, ap (λ a. exponent a x.0) is, exponent-times (variable_power x.0 x.1) (product_of powers) x.0) in
    let f = power_first r (signs_of line q) x q.text (signs_same line q.column q.text) all.0 low in
    let whole : times (times one (variable_power x.0 x.1)) (product_of powers) ≡ t.0 = ap (λ a. times a (product_of powers)) (one-times (variable_power x.0 x.1)) ∙ sym is in
    let v = factors_again r line f.0 (times one (variable_power x.0 x.1)) qs powers few all.1 (λ i. subst (λ a. exponent a i ≤ 64) (sym whole) (small i)) in
    let same : after_sign sign 1 ≡ t.1 = ap (after_sign sign) (sym unit) ∙ sym counted in
    rw (f.1, v) (λ i. Ok (whole i, same i))

pub term_again : (r line count : ℕ) (p : Part) (t : Exponents × ℕ) → r ≤ 16 → nat_le 200 count ≡ false → IsTerm r p t → term_part r line count p ≡ Ok t
unfolding term_part
term_again r line count p t few free h =
    let factors = subst (λ l. IsProduct r l h.number h.powers) (factors_of p (parts Star p.column p.text) refl) h.factors in
    rw free (term_from r line p.separator (parts Star p.column p.text) t h.number h.powers few factors h.monomial h.small h.counted)
