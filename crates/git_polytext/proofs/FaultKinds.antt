-- The faults that reading a line gives, and where they lie.
use Rattle.std.proofs.Common.{◌≡◌, ℕ, suc, ◌+◌, ◌<◌, ◌≤◌, inl, inr, Bool, true, false, cond, List, [], ◌∷◌, length, ◌-◌, Option, Some, None, Result, Ok, Err, refl, sym, ap, ◌∙◌, subst, arith}
use Rattle.std.specs.Prelude.{codes, nat_le}
use Rattle.std.specs.List.{list_all, AllByRecursion}
use Rattle.std.specs.Str.{bytes_eq}
use Rattle.std.proofs.lemmas.Bool.{leb-false}
use Rattle.std.proofs.lemmas.Slice.Eq.{bytes_eq-Decides}
use Rattle.git_lines.specs.declared.fault.FormKind.{FormKind}
use Rattle.git_lines.specs.declared.fault.FormKind.TheVariants.{Range, Syntax}
use Rattle.git_lines.specs.declared.parts.Separator.TheVariants.{Star, PlusOrMinus}
use Rattle.git_lines.specs.declared.tokens.Joining.TheVariants.{Signs}
use Rattle.git_lines.specs.Lines.{IsColumnOf}
use Rattle.git_lines.specs.Tokens.{Token, RestOfLine, taken_of, next_token}
use Rattle.git_lines.specs.Numbers.{is_digit, value_of}
use Rattle.git_lines.specs.Parts.{Part, parts}
use Rattle.git_lines.specs.Reading.{◌>>=◌, lift, word_in, word_token}
use Rattle.git_lines.proofs.Exact.{ok_is, guard_ok, lift_ok}
use Rattle.git_lines.proofs.Extents.{Spans, PartsSpan, parts_span, IsLeftOf, rest_is_left, next_is_left, begins_in}
use Rattle.git_algebra.specs.Exponents.{Exponents, one}
use Rattle.git_algebra.specs.Polynomials.{normal}
use Rattle.git_polytext.specs.declared.fault.PolynomialFault.{PolynomialFault}
use Rattle.git_polytext.specs.declared.fault.PolynomialFault.TheVariants.{Form, Variable}
use Rattle.git_polytext.specs.Pieces.{signs, is_nil, after_blank, pieces}
use Rattle.git_polytext.specs.Reading
use Rattle.git_polytext.specs.Reading.{number_in, number_sign, bracket_in, bracket_sign, exponent_in, exponent_sign, nothing_in, no_sign, known, raised, power_signs, power_parts, signs_of, begins_term, within_count, begun, first_in, first_factor, term_in, term_part, term_parts, terms_line, polynomial_line}
use Rattle.git_polytext.specs.Laws.{IsFaultOf}

-- each fault of a step of reading is one of the line with this number and so many bytes
abbrev Tells : {A : Type 0} → ℕ → ℕ → Result A PolynomialFault → Type 0
Tells line size read = (e : PolynomialFault) → read ≡ Err e → IsFaultOf line size e

abbrev failed : {A : Type 0} → PolynomialFault → Result A PolynomialFault
failed d = Err d

err_is : {A : Type 0} (d e : PolynomialFault) → failed {A = A} d ≡ failed e → d ≡ e
err_is d e h = cc

tells_fault : {A : Type 0} (line size : ℕ) (d : PolynomialFault) → IsFaultOf line size d → Tells line size (failed {A = A} d)
tells_fault {A} line size d is e h = subst (IsFaultOf line size) (err_is {A = A} d e h) is

tells_value : {A : Type 0} (line size : ℕ) (x : A) → Tells line size (Ok x)
tells_value line size x e h = absurd (cc h)

tells_syntax : {A : Type 0} (line size at column : ℕ) → at ≡ line → IsColumnOf size column → Tells {A = A} line size (Reading.fault_at at column Syntax)
tells_syntax line size at column is inside = tells_fault line size (Form (record { line = at; column = column; kind = Syntax })) (is, inside, inl refl)

tells_range : {A : Type 0} (line size at column : ℕ) → at ≡ line → IsColumnOf size column → Tells {A = A} line size (Reading.fault_at at column Range)
tells_range line size at column is inside = tells_fault line size (Form (record { line = at; column = column; kind = Range })) (is, inside, inr refl)

tells_either : {A : Type 0} (line size : ℕ) (b : Bool) (x y : Result A PolynomialFault) → Tells line size x → (b ≡ false → Tells line size y) → Tells line size (cond b x y)
tells_either line size true x y h k = h
tells_either line size false x y h k = k refl

tells_then : {A B : Type 0} (line size : ℕ) (r : Result A PolynomialFault) (f : A → Result B PolynomialFault) → Tells line size r → ((x : A) → r ≡ Ok x → Tells line size (f x)) → Tells line size (r >>= f)
tells_then line size (Ok x) f h k e is = k x refl e is
tells_then {A} {B} line size (Err d) f h k e is = h e (ap (λ g. failed {A = A} g) (err_is {A = B} d e is))

-- ---- columns

-- the byte behind so many of a longer token
behind : (size column n : ℕ) (text : List ℕ) → Spans 1 (size + 1) column text → n < length text → IsColumnOf size (column + n)
behind size column n text s some =
    let f = s.from in
    let e = s.to in
    (omega (arith, f), omega (arith, e, some))

-- ---- signs and numbers; what is left after each is of the line

number_tells : (line size limit : ℕ) (rest : RestOfLine) → IsLeftOf line size rest → Tells line size (number_sign limit rest)
unfolding number_sign
number_tells line size limit rest h = by (next_token rest) refl
  where
    by : (o : Option (Token × RestOfLine)) → next_token rest ≡ o → Tells line size (number_in limit rest o)
    by None e = tells_syntax line size rest.line rest.past h.is h.past
    by (Some p) e =
        let s = (next_is_left line size rest p h e).0 in
        tells_either line size (list_all is_digit p.0.text) _ _
        (tells_either line size (nat_le (length p.0.text) limit) _ _ (tells_value line size (value_of p.0.text, p.1))
        (λ more. tells_syntax line size rest.line (p.0.column + limit) h.is (behind size p.0.column limit p.0.text s (leb-false (length p.0.text) limit more))))
        (λ other. tells_syntax line size rest.line p.0.column h.is (begins_in size p.0.column p.0.text s))

number_by : (line size limit : ℕ) (rest : RestOfLine) (o : Option (Token × RestOfLine)) (x : ℕ × RestOfLine) → IsLeftOf line size rest → next_token rest ≡ o → number_in limit rest o ≡ Ok x → IsLeftOf line size x.1
number_by line size limit rest None x h o e = absurd (cc e)
number_by line size limit rest (Some p) x h o e = two (list_all is_digit p.0.text) (nat_le (length p.0.text) limit) e
  where
    two : (a b : Bool) → cond a (cond b (Ok (value_of p.0.text, p.1)) (Reading.fault_at rest.line (p.0.column + limit) Syntax)) (Reading.fault_at rest.line p.0.column Syntax) ≡ Ok x → IsLeftOf line size x.1
    two true true k = subst (λ q. IsLeftOf line size q.1) (ok_is (value_of p.0.text, p.1) x k) (next_is_left line size rest p h o).1
    two true false k = absurd (cc k)
    two false b k = absurd (cc k)

number_keeps : (line size limit : ℕ) (rest : RestOfLine) (x : ℕ × RestOfLine) → IsLeftOf line size rest → number_sign limit rest ≡ Ok x → IsLeftOf line size x.1
unfolding number_sign
number_keeps line size limit rest x h e = number_by line size limit rest (next_token rest) x h refl e

bracket_tells : (line size : ℕ) (rest : RestOfLine) → IsLeftOf line size rest → Tells line size (bracket_sign rest)
unfolding bracket_sign
bracket_tells line size rest h = by (next_token rest) refl
  where
    letter : (text : List ℕ) (same : Bool) → bytes_eq text (codes "T") ≡ same → same ≡ true → 0 < length text
    letter text same e holds = let is : text ≡ codes "T" = (bytes_eq-Decides text (codes "T")).0 (e ∙ holds) in rw is (omega arith)

    two : (p : Token × RestOfLine) (same : Bool) → bytes_eq p.0.text (codes "T") ≡ same → Spans 1 (size + 1) p.0.column p.0.text
        → Tells {A = ℕ × RestOfLine} line size (cond same (Reading.fault_at rest.line (p.0.column + 1) Syntax) (Reading.fault_at rest.line p.0.column Syntax))
    two p true e s =
        let long = letter p.0.text true e refl in
        let end = s.to in
        tells_syntax line size rest.line (p.0.column + 1) h.is (omega arith, omega (arith, end, long))
    two p false e s = tells_syntax line size rest.line p.0.column h.is (begins_in size p.0.column p.0.text s)

    by : (o : Option (Token × RestOfLine)) → next_token rest ≡ o → Tells line size (bracket_in rest o)
    by None e = tells_syntax line size rest.line rest.past h.is h.past
    by (Some p) e = tells_either line size (bytes_eq p.0.text (codes "T(")) _ _ (tells_value line size (p.0.column, p.1))
        (λ other. two p (bytes_eq p.0.text (codes "T")) refl (next_is_left line size rest p h e).0)

-- the column that is given is that of the bracket's first byte
bracket_by : (line size : ℕ) (rest : RestOfLine) (o : Option (Token × RestOfLine)) (x : ℕ × RestOfLine) → IsLeftOf line size rest → next_token rest ≡ o → bracket_in rest o ≡ Ok x
    → IsColumnOf size x.0 × IsLeftOf line size x.1
bracket_by line size rest None x h o e = absurd (cc e)
bracket_by line size rest (Some p) x h o e = two (bytes_eq p.0.text (codes "T(")) (bytes_eq p.0.text (codes "T")) e
  where
    two : (a b : Bool) → cond a (Ok (p.0.column, p.1)) (cond b (Reading.fault_at rest.line (p.0.column + 1) Syntax) (Reading.fault_at rest.line p.0.column Syntax)) ≡ Ok x → IsColumnOf size x.0 × IsLeftOf line size x.1
    two true b k =
        let n = next_is_left line size rest p h o in
        subst (λ q. IsColumnOf size q.0 × IsLeftOf line size q.1) (ok_is (p.0.column, p.1) x k) (begins_in size p.0.column p.0.text n.0, n.1)
    two false true k = absurd (cc k)
    two false false k = absurd (cc k)

bracket_keeps : (line size : ℕ) (rest : RestOfLine) (x : ℕ × RestOfLine) → IsLeftOf line size rest → bracket_sign rest ≡ Ok x → IsColumnOf size x.0 × IsLeftOf line size x.1
unfolding bracket_sign
bracket_keeps line size rest x h e = bracket_by line size rest (next_token rest) x h refl e

word_tells : (line size : ℕ) (word : List ℕ) (rest : RestOfLine) → IsLeftOf line size rest → Tells line size (lift Form (word_token word rest))
unfolding word_token
word_tells line size word rest h = by (next_token rest) refl
  where
    two : (p : Token × RestOfLine) (same : Bool) → Spans 1 (size + 1) p.0.column p.0.text → Tells line size (lift Form (cond same (Ok p.1) (Err (record { line = rest.line; column = p.0.column; kind = Syntax }))))
    two p true s = tells_value line size p.1
    two p false s = tells_syntax line size rest.line p.0.column h.is (begins_in size p.0.column p.0.text s)

    by : (o : Option (Token × RestOfLine)) → next_token rest ≡ o → Tells line size (lift Form (word_in word rest o))
    by None e = tells_syntax line size rest.line rest.past h.is h.past
    by (Some p) e = two p (bytes_eq p.0.text word) (next_is_left line size rest p h e).0

word_by : (line size : ℕ) (word : List ℕ) (rest : RestOfLine) (o : Option (Token × RestOfLine)) (x : RestOfLine) → IsLeftOf line size rest → next_token rest ≡ o → word_in word rest o ≡ Ok x → IsLeftOf line size x
word_by line size word rest None x h o e = absurd (cc e)
word_by line size word rest (Some p) x h o e = subst (IsLeftOf line size) (guard_ok (bytes_eq p.0.text word) _ p.1 x e).1 (next_is_left line size rest p h o).1

word_keeps : (line size : ℕ) (word : List ℕ) (rest x : RestOfLine) → IsLeftOf line size rest → lift Form (word_token word rest) ≡ Ok x → IsLeftOf line size x
unfolding word_token
word_keeps line size word rest x h e = word_by line size word rest (next_token rest) x h refl (lift_ok Form (word_in word rest (next_token rest)) x e)

exponent_tells : (line size : ℕ) (rest : RestOfLine) → IsLeftOf line size rest → Tells line size (exponent_sign rest)
unfolding exponent_sign
exponent_tells line size rest h = by (next_token rest) refl
  where
    by : (o : Option (Token × RestOfLine)) → next_token rest ≡ o → Tells line size (exponent_in rest o)
    by None o = tells_value line size (1, rest)
    by (Some p) o = tells_either line size (bytes_eq p.0.text (codes "^")) _ _ (number_tells line size 4 p.1 (next_is_left line size rest p h o).1) (λ other. tells_value line size (1, rest))

exponent_by : (line size : ℕ) (rest : RestOfLine) (o : Option (Token × RestOfLine)) (x : ℕ × RestOfLine) → IsLeftOf line size rest → next_token rest ≡ o → exponent_in rest o ≡ Ok x → IsLeftOf line size x.1
exponent_by line size rest None x h o e = subst (λ q. IsLeftOf line size q.1) (ok_is (1, rest) x e) h
exponent_by line size rest (Some p) x h o e = two (bytes_eq p.0.text (codes "^")) e
  where
    two : (same : Bool) → cond same (number_sign 4 p.1) (Ok (1, rest)) ≡ Ok x → IsLeftOf line size x.1
    two true k = number_keeps line size 4 p.1 x (next_is_left line size rest p h o).1 k
    two false k = subst (λ q. IsLeftOf line size q.1) (ok_is (1, rest) x k) h

exponent_keeps : (line size : ℕ) (rest : RestOfLine) (x : ℕ × RestOfLine) → IsLeftOf line size rest → exponent_sign rest ≡ Ok x → IsLeftOf line size x.1
unfolding exponent_sign
exponent_keeps line size rest x h e = exponent_by line size rest (next_token rest) x h refl e

nothing_tells : (line size : ℕ) (rest : RestOfLine) → IsLeftOf line size rest → Tells line size (no_sign rest)
unfolding no_sign
nothing_tells line size rest h = by (next_token rest) refl
  where
    by : (o : Option (Token × RestOfLine)) → next_token rest ≡ o → Tells line size (nothing_in rest o)
    by None e = tells_value line size tt
    by (Some p) e = tells_syntax line size rest.line p.0.column h.is (begins_in size p.0.column p.0.text (next_is_left line size rest p h e).0)

-- ---- factors and terms

power_tells : (line size r start : ℕ) (m : Exponents) (rest : RestOfLine) → IsColumnOf size start → IsLeftOf line size rest → Tells line size (power_signs r start m rest)
unfolding power_signs
power_tells line size r start m rest inside h =
    tells_then line size (bracket_sign rest) _ (bracket_tells line size rest h) (λ a ea.
    let at_a = bracket_keeps line size rest a h ea in
    tells_then line size (number_sign 4 a.1) _ (number_tells line size 4 a.1 at_a.1) (λ i ei.
    let at_i = number_keeps line size 4 a.1 i at_a.1 ei in
    tells_then line size (known r rest.line a.0 i.0) _ (tells_either line size _ _ _ (tells_value line size tt) (λ other. tells_fault line size (Variable rest.line a.0) (h.is, at_a.0))) (λ there et.
    tells_then line size (lift Form (word_token (codes ")") i.1)) _ (word_tells line size (codes ")") i.1 at_i) (λ b eb.
    let at_b = word_keeps line size (codes ")") i.1 b at_i eb in
    tells_then line size (exponent_sign b) _ (exponent_tells line size b at_b) (λ e ee.
    let at_e = exponent_keeps line size b e at_b ee in
    tells_then line size (raised rest.line start m (i.0 - 1) e.0) _ (tells_either line size _ _ _ (tells_value line size _) (λ other. tells_range line size rest.line start h.is inside)) (λ more em.
    tells_then line size (no_sign e.1) _ (nothing_tells line size e.1 at_e) (λ none en. tells_value line size more)))))))

signs_are_left : (line size : ℕ) (p : Part) → Spans 1 (size + 1) p.column p.text → IsLeftOf line size (signs_of line p)
signs_are_left line size p s = rest_is_left Signs line size p.column p.text s

powers_tell : (line size r start : ℕ) (m : Exponents) (ps : List Part) → IsColumnOf size start → PartsSpan 1 (size + 1) ps → Tells line size (power_parts r line start m ps)
unfolding power_parts
powers_tell line size r start m [] inside h = tells_value line size m
powers_tell line size r start m (p ∷ ps) inside h =
    tells_then line size (power_signs r start m (signs_of line p)) _ (power_tells line size r start m (signs_of line p) inside (signs_are_left line size p h.0)) (λ more e. powers_tell line size r start more ps inside h.1)

begun_tells : (line size r start : ℕ) (rest : RestOfLine) (digits : Bool) → IsColumnOf size start → IsLeftOf line size rest → Tells line size (begun r start rest digits)
begun_tells line size r start rest true inside h = tells_then line size (number_sign 18 rest) _ (number_tells line size 18 rest h) (λ n e.
    tells_then line size (no_sign n.1) _ (nothing_tells line size n.1 (number_keeps line size 18 rest n h e)) (λ none en. tells_value line size _))
begun_tells line size r start rest false inside h = tells_then line size (power_signs r start one rest) _ (power_tells line size r start one rest inside h) (λ m e. tells_value line size _)

first_tells : (line size : ℕ) (full : Bool) (r : ℕ) (rest : RestOfLine) → IsLeftOf line size rest → Tells line size (first_factor full r rest)
unfolding first_factor
first_tells line size full r rest h = by (next_token rest) refl
  where
    by : (o : Option (Token × RestOfLine)) → next_token rest ≡ o → Tells line size (first_in full r rest o)
    by None e = tells_syntax line size rest.line rest.past h.is h.past
    by (Some p) e =
        let inside = begins_in size p.0.column p.0.text (next_is_left line size rest p h e).0 in
        tells_then line size (within_count full rest.line p.0) _ (tells_either line size _ _ _ (tells_range line size rest.line p.0.column h.is inside) (λ other. tells_value line size tt)) (λ few ef.
        tells_then line size (begun r p.0.column rest (list_all is_digit p.0.text)) _ (begun_tells line size r p.0.column rest (list_all is_digit p.0.text) inside h) (λ x ex. tells_value line size _))

-- the column that is given is that of the factor's first byte
first_by : (line size : ℕ) (full : Bool) (r : ℕ) (rest : RestOfLine) (o : Option (Token × RestOfLine)) (x : ℕ × (Exponents × ℕ)) → IsLeftOf line size rest → next_token rest ≡ o → first_in full r rest o ≡ Ok x → IsColumnOf size x.0
first_by line size full r rest None x h o e = absurd (cc e)
first_by line size full r rest (Some p) x h o e = of_count (within_count full rest.line p.0) (begun r p.0.column rest (list_all is_digit p.0.text)) e
  where
    inside : IsColumnOf size p.0.column
    inside = begins_in size p.0.column p.0.text (next_is_left line size rest p h o).0

    of_count : (few : Result (Unit {0}) PolynomialFault) (b : Result (Exponents × ℕ) PolynomialFault) → (few >>= λ f. b >>= λ v. Ok (p.0.column, v)) ≡ Ok x → IsColumnOf size x.0
    of_count (Err d) b k = absurd (cc k)
    of_count (Ok f) (Err d) k = absurd (cc k)
    of_count (Ok f) (Ok v) k = subst (λ q. IsColumnOf size q.0) (ok_is (p.0.column, v) x k) inside

first_keeps : (line size : ℕ) (full : Bool) (r : ℕ) (rest : RestOfLine) (x : ℕ × (Exponents × ℕ)) → IsLeftOf line size rest → first_factor full r rest ≡ Ok x → IsColumnOf size x.0
unfolding first_factor
first_keeps line size full r rest x h e = first_by line size full r rest (next_token rest) x h refl e

-- the parts of a part of a line
inner_span : (size : ℕ) (p : Part) → Spans 1 (size + 1) p.column p.text → PartsSpan 1 (size + 1) (parts Star p.column p.text)
inner_span size p s = wider (parts Star p.column p.text) (parts_span Star p.column p.text)
  where
    wider : (ps : List Part) → PartsSpan p.column (p.column + length p.text) ps → PartsSpan 1 (size + 1) ps
    wider [] h = tt
    wider (q ∷ qs) h =
        let f = s.from in
        let e = s.to in
        let g = h.0.from in
        let d = h.0.to in
        (record { from = omega (arith, f, g); to = omega (arith, e, d) }, wider qs h.1)

term_tells : (line size r count : ℕ) (p : Part) → Spans 1 (size + 1) p.column p.text → Tells line size (term_part r line count p)
unfolding term_part
term_tells line size r count p s = by (parts Star p.column p.text) (inner_span size p s)
  where
    by : (ps : List Part) → PartsSpan 1 (size + 1) ps → Tells line size (term_in (nat_le 200 count) r line p.separator ps)
    by [] h = tells_syntax line size line 1 refl (omega arith, omega arith)
    by (q ∷ qs) h = tells_then line size (first_factor (nat_le 200 count) r (signs_of line q)) _ (first_tells line size (nat_le 200 count) r (signs_of line q) (signs_are_left line size q h.0)) (λ first e.
        let inside = first_keeps line size (nat_le 200 count) r (signs_of line q) first (signs_are_left line size q h.0) e in
        tells_then line size (power_parts r line first.0 first.1.0 qs) _ (powers_tell line size r first.0 first.1.0 qs inside h.1) (λ m em. tells_value line size _))

terms_tell : (line size r count : ℕ) (ps : List Part) → PartsSpan 1 (size + 1) ps → Tells line size (term_parts r line count ps)
unfolding term_parts
terms_tell line size r count [] h = tells_value line size _
terms_tell line size r count (p ∷ ps) h = tells_then line size (term_part r line count p) _ (term_tells line size r count p h.0) (λ first e.
    tells_then line size (term_parts r line (count + 1) ps) _ (terms_tell line size r (count + 1) ps h.1) (λ others eo. tells_value line size _))

-- the pieces of a line are parts of it
pieces_span : (content : List ℕ) → PartsSpan 1 (length content + 1) (pieces content)
pieces_span content =
    let same : 1 + length content ≡ length content + 1 = omega arith in
    after (parts PlusOrMinus 1 content) (subst (λ h. PartsSpan 1 h (parts PlusOrMinus 1 content)) same (parts_span PlusOrMinus 1 content))
  where
    two : (p q : Part) (ps : List Part) (blank : Bool) → PartsSpan 1 (length content + 1) (p ∷ q ∷ ps) → PartsSpan 1 (length content + 1) (cond blank (q ∷ ps) (p ∷ q ∷ ps))
    two p q ps true h = h.1
    two p q ps false h = h

    after : (ps : List Part) → PartsSpan 1 (length content + 1) ps → PartsSpan 1 (length content + 1) (after_blank ps)
    after [] h = tt
    after (p ∷ []) h = h
    after (p ∷ q ∷ ps) h = two p q ps (is_nil (signs p.text)) h

pub line_tells : (r line : ℕ) (content : List ℕ) (e : PolynomialFault) → polynomial_line r line content ≡ Err e → IsFaultOf line (length content) e
unfolding polynomial_line terms_line
line_tells r line content = tells_then line (length content) (term_parts r line 0 (pieces content)) _ (terms_tell line (length content) r 0 (pieces content) (pieces_span content)) (λ terms e. tells_value line (length content) (normal terms))
