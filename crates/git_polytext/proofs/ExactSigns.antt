-- What reading takes of a power of a variable is what the grammar says.
use Rattle.std.proofs.Common.{◌≡◌, ℕ, ◌+◌, ◌-◌, ◌<◌, ◌≤◌, Bool, true, false, cond, List, [], ◌∷◌, length, ◌&&◌, Option, Some, None, Result, Ok, Err, refl, sym, ap, ◌∙◌, subst, arith}
use Rattle.std.specs.Prelude.{codes, nat_le}
use Rattle.std.specs.List.{list_all}
use Rattle.std.specs.Str.{bytes_eq}
use Rattle.std.proofs.lemmas.Slice.Eq.{bytes_eq-Decides}
use Rattle.std.proofs.lemmas.Bool.{and_parts, and_from}
use Rattle.std.proofs.lemmas.Bool.Decides.{nat_tests}
use Rattle.git_lines.specs.Tokens.{Token, RestOfLine, next_token, texts}
use Rattle.git_lines.specs.Numbers.{is_digit, value_of}
use Rattle.git_lines.specs.Reading.{lift, word_token}
use Rattle.git_lines.specs.Parts.{Part}
use Rattle.git_lines.specs.Grammar.{Together}
use Rattle.git_lines.proofs.Exact.{bind_ok, lift_ok, ok_is, guard_ok, with_tokens, next_takes, next_again, word_takes, word_again, texts_cons}
use Rattle.git_algebra.specs.Exponents.{Exponents, exponent, times, variable_power}
use Rattle.git_algebra.proofs.Monomials.{exponent-times, times_assoc, times-one, exponent_same}
use Rattle.git_polytext.specs.declared.fault.PolynomialFault.{PolynomialFault}
use Rattle.git_polytext.specs.declared.fault.PolynomialFault.TheVariants.{Form}
use Rattle.git_polytext.specs.Pieces.{signs}
use Rattle.git_polytext.specs.Terms.{product_of}
use Rattle.git_polytext.specs.Reading.{number_in, number_sign, bracket_in, bracket_sign, exponent_in, exponent_sign, no_sign, known, raised, power_signs, power_parts, signs_of}
use Rattle.git_polytext.specs.Grammar.{IsNumber, IsExponent, IsPower}
use Rattle.git_polytext.proofs.Bounds.{raised_small}
use Rattle.git_polytext.proofs.Columns.{signs_same, part_texts}

le_from : (a b : ℕ) → nat_le a b ≡ true → a ≤ b
le_from a b h = grind (arith, nat_tests)

le_test : (a b : ℕ) → a ≤ b → nat_le a b ≡ true
le_test a b h = grind (arith, nat_tests)

chosen : {A : Type 0} (b : Bool) (x : Result A PolynomialFault) (d : PolynomialFault) (y : A) → cond b x (Err d) ≡ Ok y → (b ≡ true) × (x ≡ Ok y)
chosen true x d y e = (refl, e)
chosen false x d y e = absurd (cc e)

-- ---- signs and numbers

number_found : (limit : ℕ) (rest after : RestOfLine) (n : ℕ) (o : Option (Token × RestOfLine)) → next_token rest ≡ o → number_in limit rest o ≡ Ok (n, after)
    → (t : Token) × (rest.tokens ≡ t ∷ after.tokens) × IsNumber limit t.text n
number_found limit rest after n None o e = absurd (cc e)
number_found limit rest after n (Some p) o e =
    let d = chosen (list_all is_digit p.0.text) _ _ (n, after) e in
    let g = guard_ok (nat_le (length p.0.text) limit) _ (value_of p.0.text, p.1) (n, after) d.1 in
    (p.0, next_takes rest p.1 p.0 o ∙ ap (λ q. p.0 ∷ q.1.tokens) g.1, record { all = d.0; few = le_from _ _ g.0; value = ap (λ q. q.0) g.1 })

pub number_takes : (limit : ℕ) (rest after : RestOfLine) (n : ℕ) → number_sign limit rest ≡ Ok (n, after) → (t : Token) × (rest.tokens ≡ t ∷ after.tokens) × IsNumber limit t.text n
unfolding number_sign
number_takes limit rest after n e = number_found limit rest after n (next_token rest) refl e

pub number_again : (limit : ℕ) (rest : RestOfLine) (t : Token) (ts : List Token) (n : ℕ) → rest.tokens ≡ t ∷ ts → IsNumber limit t.text n → number_sign limit rest ≡ Ok (n, with_tokens rest ts)
unfolding number_sign
number_again limit rest t ts n e h = let few = le_test (length t.text) limit h.few in rw (next_again rest t ts e, h.all, few, h.value) refl

bracket_chosen : (a b : Bool) (x y : ℕ × RestOfLine) (c d : PolynomialFault) → cond a (Ok x) (cond b (Err c) (Err d)) ≡ Ok y → (a ≡ true) × (x ≡ y)
bracket_chosen true b x y c d e = (refl, ok_is x y e)
bracket_chosen false true x y c d e = absurd (cc e)
bracket_chosen false false x y c d e = absurd (cc e)

bracket_found : (rest after : RestOfLine) (column : ℕ) (o : Option (Token × RestOfLine)) → next_token rest ≡ o → bracket_in rest o ≡ Ok (column, after)
    → (t : Token) × (rest.tokens ≡ t ∷ after.tokens) × (t.text ≡ codes "T(")
bracket_found rest after column None o e = absurd (cc e)
bracket_found rest after column (Some p) o e =
    let g = bracket_chosen (bytes_eq p.0.text (codes "T(")) (bytes_eq p.0.text (codes "T")) (p.0.column, p.1) (column, after) _ _ e in
    (p.0, next_takes rest p.1 p.0 o ∙ ap (λ q. p.0 ∷ q.1.tokens) g.1, (bytes_eq-Decides p.0.text (codes "T(")).0 g.0)

pub bracket_takes : (rest after : RestOfLine) (column : ℕ) → bracket_sign rest ≡ Ok (column, after) → (t : Token) × (rest.tokens ≡ t ∷ after.tokens) × (t.text ≡ codes "T(")
unfolding bracket_sign
bracket_takes rest after column e = bracket_found rest after column (next_token rest) refl e

pub bracket_again : (rest : RestOfLine) (t : Token) (ts : List Token) → rest.tokens ≡ t ∷ ts → t.text ≡ codes "T(" → bracket_sign rest ≡ Ok (t.column, with_tokens rest ts)
unfolding bracket_sign
bracket_again rest t ts e h = let same : bytes_eq t.text (codes "T(") ≡ true = (bytes_eq-Decides t.text (codes "T(")).1 h in rw (next_again rest t ts e, same) refl

nothing_found : (rest : RestOfLine) (ts : List Token) (u : Unit {0}) → rest.tokens ≡ ts → no_sign rest ≡ Ok u → ts ≡ []
unfolding no_sign next_token
nothing_found rest [] u e h = refl
nothing_found rest (t ∷ ts) u e h = absurd (cc (rw e at h))

pub nothing_takes : (rest : RestOfLine) (u : Unit {0}) → no_sign rest ≡ Ok u → rest.tokens ≡ []
nothing_takes rest u e = nothing_found rest rest.tokens u refl e

pub nothing_again : (rest : RestOfLine) → rest.tokens ≡ [] → no_sign rest ≡ Ok tt
unfolding no_sign next_token
nothing_again rest e = rw e refl

-- ---- an exponent, and nothing after it

exponent_by : (rest after next : RestOfLine) (t : Token) (e : ℕ) (test : Bool) → rest.tokens ≡ t ∷ next.tokens → bytes_eq t.text (codes "^") ≡ test
    → cond test (number_sign 4 next) (Ok (1, rest)) ≡ Ok (e, after) → after.tokens ≡ [] → IsExponent (texts (t ∷ next.tokens)) e
exponent_by rest after next t e true are is h none =
    let n = number_takes 4 next after e h in
    let all : next.tokens ≡ n.0 ∷ [] = n.1 ∙ ap (λ l. n.0 ∷ l) none in
    subst (λ l. IsExponent (texts (t ∷ l)) e) (sym all) ((bytes_eq-Decides t.text (codes "^")).0 is, n.2)
exponent_by rest after next t e false are is h none =
    let p = ok_is (1, rest) (e, after) h in
    let q : t ∷ next.tokens ≡ [] = sym are ∙ ap (λ q. q.1.tokens) p ∙ none in
    absurd (cc q)

exponent_found : (rest after : RestOfLine) (o : Option (Token × RestOfLine)) (e : ℕ) → next_token rest ≡ o → exponent_in rest o ≡ Ok (e, after) → after.tokens ≡ [] → IsExponent (texts rest.tokens) e
exponent_found rest after None e o h none =
    let p = ok_is (1, rest) (e, after) h in
    let nothing : rest.tokens ≡ [] = ap (λ q. q.1.tokens) p ∙ none in
    subst (λ l. IsExponent (texts l) e) (sym nothing) (sym (ap (λ q. q.0) p))
exponent_found rest after (Some p) e o h none =
    let are = next_takes rest p.1 p.0 o in
    subst (λ l. IsExponent (texts l) e) (sym are) (exponent_by rest after p.1 p.0 e (bytes_eq p.0.text (codes "^")) are refl h none)

pub exponent_takes : (rest after : RestOfLine) (e : ℕ) → exponent_sign rest ≡ Ok (e, after) → after.tokens ≡ [] → IsExponent (texts rest.tokens) e
unfolding exponent_sign
exponent_takes rest after e h none = exponent_found rest after (next_token rest) e refl h none

next_none : (rest : RestOfLine) → rest.tokens ≡ [] → next_token rest ≡ None
unfolding next_token
next_none rest e = rw e refl

pub exponent_again : (rest : RestOfLine) (ts : List Token) (e : ℕ) → rest.tokens ≡ ts → IsExponent (texts ts) e → (after : RestOfLine) × (exponent_sign rest ≡ Ok (e, after)) × (after.tokens ≡ [])
unfolding exponent_sign
exponent_again rest [] e are h = (rest, rw (next_none rest are) (ap (λ n. Ok (n, rest)) (sym h)), are)
exponent_again rest (t ∷ []) e are h = absurd h
exponent_again rest (t ∷ u ∷ []) e are h =
    let same : bytes_eq t.text (codes "^") ≡ true = (bytes_eq-Decides t.text (codes "^")).1 h.0 in
    (with_tokens rest [], rw (next_again rest t (u ∷ []) are, same) (number_again 4 (with_tokens rest (u ∷ [])) u [] e refl h.1), refl)
exponent_again rest (t ∷ u ∷ v ∷ ts) e are h = absurd h

-- ---- a power of a variable

known_takes : (r line column i : ℕ) (u : Unit {0}) → known r line column i ≡ Ok u → (1 ≤ i) × (i ≤ r)
known_takes r line column i u e =
    let g = guard_ok (nat_le 1 i && nat_le i r) _ tt u e in
    let p = and_parts (nat_le 1 i) (nat_le i r) g.0 in (le_from _ _ p.0, le_from _ _ p.1)

raised_takes : (line start : ℕ) (m : Exponents) (place e : ℕ) (more : Exponents) → raised line start m place e ≡ Ok more → (exponent m place + e ≤ 64) × (more ≡ times m (variable_power place e))
raised_takes line start m place e more h =
    let g = guard_ok (nat_le (exponent m place + e) 64) _ (times m (variable_power place e)) more h in (le_from _ _ g.0, sym g.1)

four_tokens : (ts us vs rest : List Token) (t u v : Token) → ts ≡ t ∷ us → us ≡ u ∷ vs → vs ≡ v ∷ rest → t.text ≡ codes "T(" → v.text ≡ codes ")" → texts ts ≡ codes "T(" ∷ u.text ∷ codes ")" ∷ texts rest
four_tokens ts us vs rest t u v e f g open_is close_is =
    let all : ts ≡ t ∷ u ∷ v ∷ rest = e ∙ ap (λ l. t ∷ l) (f ∙ ap (λ l. u ∷ l) g) in
    ap texts all ∙ (λ j. open_is j ∷ u.text ∷ close_is j ∷ texts rest)

pub power_takes : (r start : ℕ) (m : Exponents) (rest : RestOfLine) (more : Exponents) (text : List ℕ) → texts rest.tokens ≡ signs text → power_signs r start m rest ≡ Ok more
    → (v : ℕ × ℕ) × IsPower r text v × (exponent m v.0 + v.1 ≤ 64) × (more ≡ times m (variable_power v.0 v.1))
unfolding power_signs
power_takes r start m rest more text are h =
    let a = bind_ok (bracket_sign rest) _ more h in
    let i = bind_ok (number_sign 4 a.0.1) _ more a.2 in
    let w = bind_ok (known r rest.line a.0.0 i.0.0) _ more i.2 in
    let b = bind_ok (lift Form (word_token (codes ")") i.0.1)) _ more w.2 in
    let e = bind_ok (exponent_sign b.0) _ more b.2 in
    let k = bind_ok (raised rest.line start m (i.0.0 - 1) e.0.0) _ more e.2 in
    let z = bind_ok (no_sign e.0.1) _ more k.2 in
    let ta = bracket_takes rest a.0.1 a.0.0 a.1 in
    let ti = number_takes 4 a.0.1 i.0.1 i.0.0 i.1 in
    let tw = known_takes r rest.line a.0.0 i.0.0 w.0 w.1 in
    let tb = word_takes (codes ")") i.0.1 b.0 (lift_ok Form _ _ b.1) in
    let te = exponent_takes b.0 e.0.1 e.0.0 e.1 (nothing_takes e.0.1 z.0 z.1) in
    let tk = raised_takes rest.line start m (i.0.0 - 1) e.0.0 k.0 k.1 in
    let same : k.0 ≡ more = ok_is k.0 more z.2 in
    let tokens = four_tokens rest.tokens a.0.1.tokens i.0.1.tokens b.0.tokens ta.0 ti.0 tb.0 ta.1 ti.1 tb.1 ta.2 tb.2 in (
      (i.0.0 - 1, e.0.0),
      record { digits = ti.0.text; index = i.0.0; exponent = texts b.0.tokens; are = sym are ∙ tokens; index_is = ti.2; first = tw.0; last = tw.1; place = refl; exponent_is = te },
      tk.0,
      sym same ∙ tk.1,
    )

pub power_again : (r start : ℕ) (m : Exponents) (rest : RestOfLine) (v : ℕ × ℕ) (text : List ℕ) → texts rest.tokens ≡ signs text → IsPower r text v → exponent m v.0 + v.1 ≤ 64
    → power_signs r start m rest ≡ Ok (times m (variable_power v.0 v.1))
unfolding power_signs
power_again r start m rest v text are p small =
    let a = texts_cons rest.tokens _ _ (are ∙ p.are) in
    let k = texts_cons a.1 _ _ a.4 in
    let b = texts_cons k.1 _ _ k.4 in
    let index = subst (λ t. IsNumber 4 t p.index) (sym k.3) p.index_is in
    let power = subst (λ t. IsExponent t v.1) (sym b.4) p.exponent_is in
    let one = bracket_again rest a.0 a.1 a.2 a.3 in
    let two = number_again 4 (with_tokens rest a.1) k.0 k.1 p.index k.2 index in
    let within : (nat_le 1 p.index && nat_le p.index r) ≡ true = and_from _ _ (le_test 1 p.index p.first) (le_test p.index r p.last) in
    let three = word_again (codes ")") (with_tokens rest k.1) b.0 b.1 b.2 b.3 in
    let four = exponent_again (with_tokens rest b.1) b.1 v.1 refl power in
    let few : nat_le (exponent m v.0 + v.1) 64 ≡ true = le_test _ _ small in
    rw (one, two, within, three, four.1, ← p.place, few, nothing_again four.0 four.2) refl

-- ---- the further factors of a term

pub factors_take : (r line start : ℕ) (m : Exponents) (ps : List Part) (product : Exponents) → power_parts r line start m ps ≡ Ok product
    → (powers : List (ℕ × ℕ)) × Together (IsPower r) (part_texts ps) powers × (product ≡ times m (product_of powers)) × (((i : ℕ) → exponent m i ≤ 64) → (i : ℕ) → exponent product i ≤ 64)
unfolding power_parts
factors_take r line start m [] product h =
    let same = ok_is m product h in
    ([], tt, sym same ∙ sym (times-one m), λ small i. subst (λ a. exponent a i ≤ 64) same (small i))
factors_take r line start m (p ∷ ps) product h =
    let a = bind_ok (power_signs r start m (signs_of line p)) _ product h in
    let v = power_takes r start m (signs_of line p) a.0 p.text (signs_same line p.column p.text) a.1 in
    let rest = factors_take r line start a.0 ps product a.2 in
    let whole : product ≡ times m (product_of (v.0 ∷ rest.0)) =
    rest.2 ∙ ap (λ a. times a (product_of rest.0)) v.3 ∙ times_assoc m (variable_power v.0.0 v.0.1) (product_of rest.0) in (
      v.0 ∷ rest.0,
      (v.1, rest.1),
      whole,
      λ small. rest.3 (λ i. subst (λ a. exponent a i ≤ 64) (sym v.3) (raised_small m v.0.0 v.0.1 small v.2 i)),
    )

pub place_below : (r : ℕ) (text : List ℕ) (v : ℕ × ℕ) → r ≤ 16 → IsPower r text v → v.0 < 17
place_below r text v few p = omega (arith, p.place, p.first, p.last, few)

pub factors_again : (r line start : ℕ) (m : Exponents) (ps : List Part) (powers : List (ℕ × ℕ)) → r ≤ 16 → Together (IsPower r) (part_texts ps) powers
    → ((i : ℕ) → exponent (times m (product_of powers)) i ≤ 64) → power_parts r line start m ps ≡ Ok (times m (product_of powers))
unfolding power_parts
factors_again r line start m [] [] few h small = ap (λ a. Ok a) (sym (times-one m))
factors_again r line start m [] (v ∷ powers) few h small = absurd h
factors_again r line start m (p ∷ ps) [] few h small = absurd h
factors_again r line start m (p ∷ ps) (v ∷ powers) few h small =
    let own : exponent (variable_power v.0 v.1) v.0 ≡ v.1 = exponent_same v.0 v.1 (place_below r p.text v few h.0) in
    let step : exponent m v.0 + v.1 ≤ 64 = omega (
      arith,
      own,
      small v.0,
      exponent-times m (times (variable_power v.0 v.1) (product_of powers)) v.0,
      exponent-times (variable_power v.0 v.1) (product_of powers) v.0,
    ) in
    let one = power_again r start m (signs_of line p) v p.text (signs_same line p.column p.text) h.0 step in
    let regroup : times (times m (variable_power v.0 v.1)) (product_of powers) ≡ times m (times (variable_power v.0 v.1) (product_of powers)) = times_assoc m (variable_power v.0 v.1) (product_of powers) in
    let more = factors_again r line start (times m (variable_power v.0 v.1)) ps powers few h.1 (λ i. subst (λ a. exponent a i ≤ 64) (sym regroup) (small i)) in
    rw one (more ∙ ap (λ a. Ok a) regroup)
