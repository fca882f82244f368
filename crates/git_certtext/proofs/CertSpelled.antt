-- Certificates are read as what is printed of them, and the other way round.
use Rattle.std.proofs.Common.{◌≡◌, ℕ, ◌≤◌, ◌<◌, ◌^◌, Bool, true, false, cond, List, [], ◌∷◌, ◌++◌, length, map, Result, Ok, refl, sym, ap, ◌∙◌, subst, append_assoc, arith}
use Rattle.std.specs.Prelude.{ℤ, pos, codes, unsigned_abs}
use Rattle.std.specs.Str.{bytes_eq}
use Rattle.std.specs.List.{flat_map, AllByRecursion}
use Rattle.std.specs.Fmt.{decimal}
use Rattle.std.proofs.lemmas.List.{append-nil}
use Rattle.std.proofs.lemmas.Slice.Eq.{bytes_eq-Decides}
use Rattle.git_algebra.specs.Polynomials.{Polynomial}
use Rattle.git_facecert.specs.declared.certificate.TheConstants.{CERT_POWER, CERT_MEMBERS}
use Rattle.git_limits.specs.declared.TheConstants.{GENERATORS}
use Rattle.git_lines.specs.declared.fault.FormFault.{FormFault}
use Rattle.git_lines.specs.declared.fault.FormKind.TheVariants.{Syntax}
use Rattle.git_lines.specs.Fields.{RestOfFields, fields_of, fields_in, next_field, word_field, integer_field, no_field}
use Rattle.git_lines.specs.Lines.{RestOfText}
use Rattle.git_lines.specs.Printing.{line_text}
use Rattle.git_lines.specs.Reading.{lift, times, fault_at}
use Rattle.git_lines.proofs.Exact.{bind_ok, lift_ok, ok_is}
use Rattle.git_lines.proofs.WrittenLines.{IsPlainWord, decimal_word}
use Rattle.git_polytext.specs.Printing.{polynomial_text}
use Rattle.git_strictlines.specs.Reading.{next_by, header_line, number_line, end_line}
use Rattle.git_strictlines.specs.Spelling.{number_words, end_words}
use Rattle.git_strictlines.proofs.Spelled.{Spelled, times_takes, times_again}
use Rattle.git_strictlines.proofs.FieldSteps.{with_fields, next_takes, next_again, word_takes, word_again, none_takes, none_again, integers}
use Rattle.git_strictlines.proofs.LinesSpelled.{LineSpelled, IsNumber, number_within, limits_of, natural_back, next_spelled, number_spelled, header_spelled, end_spelled}
use Rattle.git_strictlines.proofs.Bytes.{AreTextLines, text_lines_append, words_line, map_lines}
use Rattle.git_strictpoly.specs.Laws.{FitsPoly}
use Rattle.git_strictpoly.specs.Strict.{strict_polynomial}
use Rattle.git_strictpoly.proofs.Sums.{texts_are_printed, printed_is_read}
use Rattle.git_strictpoly.proofs.Words.{fits_plain_word}
use Rattle.git_certtext.specs.declared.limits.TheConstants.{FACES}
use Rattle.git_certtext.specs.Blocks.{Cert, monomial, free, Block, FitsCert}
use Rattle.git_certtext.specs.CertReading.{at_line, polynomial_field, polynomial_line, Kind, members, cofactors, members_fields, cofactors_fields, kind_fields, face_line, polynomials_at, cert_at, block_at, certs_at}

-- ---- lines of polynomials

abbrev pub polynomial_words : List ℕ → Polynomial → List (List ℕ)
polynomial_words letter p = letter ∷ polynomial_text p ∷ []

field_takes : (r : ℕ) → r ≤ 16 → (s after : RestOfFields) (p : Polynomial) → polynomial_field r s ≡ Ok (p, after) → (s.fields ≡ polynomial_text p ∷ after.fields) × FitsPoly r p
unfolding polynomial_field
field_takes r small s after p e =
    let f = bind_ok (next_field s) _ (p, after) e in
    let q = bind_ok (lift (at_line f.0.1.line) (strict_polynomial r f.0.0)) _ (p, after) f.2 in
    let same = ok_is (q.0, f.0.1) (p, after) q.2 in
    let n = next_takes s f.0.1 f.0.0 f.1 in
    let t = texts_are_printed r f.0.0 q.0 small (lift_ok (at_line f.0.1.line) (strict_polynomial r f.0.0) q.0 q.1) in
    subst (λ (x : Polynomial × RestOfFields). (s.fields ≡ polynomial_text x.0 ∷ x.1.fields) × FitsPoly r x.0) same (n.0 ∙ ap (λ u. u ∷ f.0.1.fields) t.0, t.1)

field_again : (r : ℕ) → r ≤ 16 → (s : RestOfFields) (p : Polynomial) (ts : List (List ℕ)) → FitsPoly r p → s.fields ≡ polynomial_text p ∷ ts → polynomial_field r s ≡ Ok (p, with_fields s ts)
unfolding polynomial_field
field_again r small s p ts fits e = rw (next_again s (polynomial_text p) ts (fits_plain_word r p small fits).some e, printed_is_read r p small fits) refl

pub polynomial_spelled : (letter : List ℕ) (r : ℕ) → IsPlainWord letter → r ≤ 16 → LineSpelled (polynomial_line letter r) (polynomial_words letter) (FitsPoly r)
unfolding polynomial_line
polynomial_spelled letter r plain small = record {
  takes = λ n l p e.
      let a = bind_ok (word_field letter (fields_in n l)) _ p e in
      let q = bind_ok (polynomial_field r a.0) _ p a.2 in
      let b = bind_ok (no_field q.0.1) _ p q.2 in
      let same = ok_is q.0.0 p b.2 in
      let t = field_takes r small a.0 q.0.1 q.0.0 q.1 in
      let is : fields_of l ≡ polynomial_words letter q.0.0 = word_takes _ _ _ a.1 ∙ ap (λ ts. letter ∷ ts) (t.0 ∙ ap (λ ts. polynomial_text q.0.0 ∷ ts) (none_takes q.0.1 b.0 b.1)) in
      subst (λ x. (fields_of l ≡ polynomial_words letter x) × FitsPoly r x) same (is, t.1);
  again = λ n l p h e.
      let rest = fields_in n l in
      let after = with_fields rest (polynomial_text p ∷ []) in
      rw (word_again letter rest (polynomial_text p ∷ []) plain.some e, field_again r small after p [] h refl, none_again (with_fields after []) refl) refl;
  plain = λ p h. (omega arith, (plain, (fits_plain_word r p small h, tt)));
}

-- ---- numbers among fields

number_takes : (low high : ℕ) → high < 10 ^ 18 → (s after : RestOfFields) (z : ℤ) → integer_field (pos low) (pos high) s ≡ Ok (z, after) → (s.fields ≡ decimal (unsigned_abs z) ∷ after.fields) × IsNumber low high (unsigned_abs z)
number_takes low high h s after z e =
    let t = (integers (pos low) (pos high) (limits_of low high h)).takes s after z e in
    let b = natural_back low high z t.1 in
    (t.0 ∙ ap (λ x. x ∷ after.fields) b.0, b.1)

number_again : (low high : ℕ) → high < 10 ^ 18 → (s : RestOfFields) (n : ℕ) (ts : List (List ℕ)) → IsNumber low high n → s.fields ≡ decimal n ∷ ts
    → (after : RestOfFields) × (integer_field (pos low) (pos high) s ≡ Ok (pos n, after)) × (after.fields ≡ ts)
number_again low high h s n ts w e = (integers (pos low) (pos high) (limits_of low high h)).again s (pos n) ts (number_within low high n w) e

-- ---- what a block's first line announces

abbrev kind_words : Kind → List (List ℕ)
kind_words (members n) = codes "free" ∷ decimal n ∷ []
kind_words (cofactors n m) = codes "monomial" ∷ decimal n ∷ decimal m ∷ []

abbrev FitsKind : Kind → Type 0
FitsKind (members n) = (1 ≤ n) × (n ≤ CERT_MEMBERS)
FitsKind (cofactors n m) = (n ≤ CERT_POWER) × (m ≤ GENERATORS)

members_take : (s after : RestOfFields) (kind : Kind) (ts : List (List ℕ)) → ts ≡ codes "free" ∷ s.fields → members_fields s ≡ Ok (kind, after) → (ts ≡ kind_words kind ++ after.fields) × FitsKind kind
unfolding members_fields
members_take s after kind ts w e =
    let z = bind_ok (integer_field (pos 1) (pos CERT_MEMBERS) s) _ (kind, after) e in
    let p = ok_is (members (unsigned_abs z.0.0), z.0.1) (kind, after) z.2 in
    let t = number_takes 1 CERT_MEMBERS (omega arith) s z.0.1 z.0.0 z.1 in
    subst (λ (q : Kind × RestOfFields). (ts ≡ kind_words q.0 ++ q.1.fields) × FitsKind q.0) p (w ∙ ap (λ us. codes "free" ∷ us) t.0, (t.1.above, t.1.below))

cofactors_take : (s after : RestOfFields) (kind : Kind) (ts : List (List ℕ)) → ts ≡ codes "monomial" ∷ s.fields → cofactors_fields s ≡ Ok (kind, after) → (ts ≡ kind_words kind ++ after.fields) × FitsKind kind
unfolding cofactors_fields
cofactors_take s after kind ts w e =
    let z = bind_ok (integer_field (pos 0) (pos CERT_POWER) s) _ (kind, after) e in
    let y = bind_ok (integer_field (pos 0) (pos GENERATORS) z.0.1) _ (kind, after) z.2 in
    let p = ok_is (cofactors (unsigned_abs z.0.0) (unsigned_abs y.0.0), y.0.1) (kind, after) y.2 in
    let t = number_takes 0 CERT_POWER (omega arith) s z.0.1 z.0.0 z.1 in
    let u = number_takes 0 GENERATORS (omega arith) z.0.1 y.0.1 y.0.0 y.1 in
    subst (λ (q : Kind × RestOfFields). (ts ≡ kind_words q.0 ++ q.1.fields) × FitsKind q.0) p
    (w ∙ ap (λ us. codes "monomial" ∷ us) (t.0 ∙ ap (λ us. decimal (unsigned_abs z.0.0) ∷ us) u.0), (t.1.below, u.1.below))

kind_takes_by : (s f after : RestOfFields) (t : List ℕ) (kind : Kind) (a b : Bool) → bytes_eq t (codes "free") ≡ a → bytes_eq t (codes "monomial") ≡ b
    → cond {A = Result (Kind × RestOfFields) FormFault} a (members_fields f) (cond b (cofactors_fields f) (fault_at f.line 1 Syntax)) ≡ Ok (kind, after)
    → s.fields ≡ t ∷ f.fields → (s.fields ≡ kind_words kind ++ after.fields) × FitsKind kind
kind_takes_by s f after t kind true b ea eb e n = members_take f after kind s.fields (n ∙ ap (λ u. u ∷ f.fields) ((bytes_eq-Decides t (codes "free")).0 ea)) e
kind_takes_by s f after t kind false true ea eb e n = cofactors_take f after kind s.fields (n ∙ ap (λ u. u ∷ f.fields) ((bytes_eq-Decides t (codes "monomial")).0 eb)) e
kind_takes_by s f after t kind false false ea eb e n = absurd (cc e)

kind_takes : (s after : RestOfFields) (kind : Kind) → kind_fields s ≡ Ok (kind, after) → (s.fields ≡ kind_words kind ++ after.fields) × FitsKind kind
unfolding kind_fields
kind_takes s after kind e =
    let f = bind_ok (next_field s) _ (kind, after) e in
    let n = next_takes s f.0.1 f.0.0 f.1 in
    kind_takes_by s f.0.1 after f.0.0 kind (bytes_eq f.0.0 (codes "free")) (bytes_eq f.0.0 (codes "monomial")) refl refl f.2 n.0

kind_again : (s : RestOfFields) (kind : Kind) (ts : List (List ℕ)) → FitsKind kind → s.fields ≡ kind_words kind ++ ts → (after : RestOfFields) × (kind_fields s ≡ Ok (kind, after)) × (after.fields ≡ ts)
unfolding kind_fields members_fields cofactors_fields
kind_again s (members n) ts h e =
    let z = number_again 1 CERT_MEMBERS (omega arith) (with_fields s (decimal n ∷ ts)) n ts (record { above = h.0; below = h.1 }) refl in
    (z.0, rw (next_again s (codes "free") (decimal n ∷ ts) (omega arith) e, z.1) refl, z.2)
kind_again s (cofactors n m) ts h e =
    let z = number_again 0 CERT_POWER (omega arith) (with_fields s (decimal n ∷ decimal m ∷ ts)) n (decimal m ∷ ts) (record { above = omega arith; below = h.0 }) refl in
    let y = number_again 0 GENERATORS (omega arith) z.0 m ts (record { above = omega arith; below = h.1 }) z.2 in
    (y.0, rw (next_again s (codes "monomial") (decimal n ∷ decimal m ∷ ts) (omega arith) e, z.1, y.1) refl, y.2)

kind_plain : (kind : Kind) → FitsKind kind → AllByRecursion IsPlainWord (kind_words kind)
kind_plain (members n) h = (record { some = omega arith; bytes = refl }, (decimal_word n (omega (arith, h.1)), tt))
kind_plain (cofactors n m) h = (record { some = omega arith; bytes = refl }, (decimal_word n (omega (arith, h.0)), (decimal_word m (omega (arith, h.1)), tt)))

abbrev face_words : ℕ × Kind → List (List ℕ)
face_words f = codes "face" ∷ decimal f.0 ∷ kind_words f.1

abbrev FitsFace : ℕ → ℕ × Kind → Type 0
FitsFace last f = (1 ≤ f.0) × (f.0 ≤ last) × FitsKind f.1

face_spelled : (last : ℕ) → last < 10 ^ 18 → LineSpelled (face_line last) face_words (FitsFace last)
unfolding face_line
face_spelled last small = record {
  takes = λ n l f e.
      let a = bind_ok (word_field (codes "face") (fields_in n l)) _ f e in
      let z = bind_ok (integer_field (pos 1) (pos last) a.0) _ f a.2 in
      let k = bind_ok (kind_fields z.0.1) _ f z.2 in
      let b = bind_ok (no_field k.0.1) _ f k.2 in
      let p = ok_is (unsigned_abs z.0.0, k.0.0) f b.2 in
      let tz = number_takes 1 last small a.0 z.0.1 z.0.0 z.1 in
      let tk = kind_takes z.0.1 k.0.1 k.0.0 k.1 in
      let is : fields_of l ≡ codes "face" ∷ decimal (unsigned_abs z.0.0) ∷ kind_words k.0.0 =
      word_takes _ _ _ a.1 ∙ ap (λ us. codes "face" ∷ us) (tz.0 ∙ ap (λ us. decimal (unsigned_abs z.0.0) ∷ us) (tk.0 ∙ ap (λ us. kind_words k.0.0 ++ us) (none_takes k.0.1 b.0 b.1) ∙ append-nil (kind_words k.0.0))) in
      subst (λ (q : ℕ × Kind). (fields_of l ≡ face_words q) × FitsFace last q) p (is, (tz.1.above, tz.1.below, tk.1));
  again = λ n l f h e.
      let rest = fields_in n l in
      let us = decimal f.0 ∷ kind_words f.1 in
      let z = number_again 1 last small (with_fields rest us) f.0 (kind_words f.1) (record { above = h.0; below = h.1 }) refl in
      let k = kind_again z.0 f.1 [] h.2 (z.2 ∙ sym (append-nil (kind_words f.1))) in
      rw (word_again (codes "face") rest us (omega arith) e, z.1, k.1, none_again k.0 k.2) refl;
  plain = λ f h. (omega arith, (record { some = omega arith; bytes = refl }, (decimal_word f.0 (omega (arith, h.1, small)), kind_plain f.1 h.2)));
}

-- ---- blocks

g_word : IsPlainWord (codes "g")
g_word = record { some = omega arith; bytes = refl }

h_word : IsPlainWord (codes "h")
h_word = record { some = omega arith; bytes = refl }

abbrev pub polynomial_lines : List ℕ → List Polynomial → List (List ℕ)
polynomial_lines letter ps = map (λ p. line_text (polynomial_words letter p)) ps

abbrev pub cert_lines : ℕ → Cert → List (List ℕ)
cert_lines mask (free gs) = line_text (face_words (mask, members (length gs))) ∷ polynomial_lines (codes "g") gs
cert_lines mask (monomial n hs) = line_text (face_words (mask, cofactors n (length hs))) ∷ polynomial_lines (codes "h") hs

abbrev pub block_lines : Block → List (List ℕ)
block_lines b = cert_lines b.mask b.cert

each_line : (letter : List ℕ) (ps : List Polynomial) → flat_map (λ (p : Polynomial). line_text (polynomial_words letter p) ∷ []) ps ≡ polynomial_lines letter ps
each_line letter [] = refl
each_line letter (p ∷ ps) = ap (λ ls. line_text (polynomial_words letter p) ∷ ls) (each_line letter ps)

polynomials_take : (letter : List ℕ) (r : ℕ) → IsPlainWord letter → r ≤ 16 → (n : ℕ) (s after : RestOfText) (ps : List Polynomial) → polynomials_at letter r n s ≡ Ok (ps, after)
    → (s.lines ≡ polynomial_lines letter ps ++ after.lines) × AllByRecursion (FitsPoly r) ps × (length ps ≡ n)
polynomials_take letter r w small n s after ps e =
    let t = times_takes _ _ _ _ (next_spelled _ _ _ (polynomial_spelled letter r w small)) n s after ps e in
    (t.0 ∙ ap (λ ls. ls ++ after.lines) (each_line letter ps), t.1, t.2)

polynomials_again : (letter : List ℕ) (r : ℕ) → IsPlainWord letter → r ≤ 16 → (ps : List Polynomial) (s : RestOfText) (ls : List (List ℕ)) → AllByRecursion (FitsPoly r) ps → s.lines ≡ polynomial_lines letter ps ++ ls
    → (after : RestOfText) × (polynomials_at letter r (length ps) s ≡ Ok (ps, after)) × (after.lines ≡ ls)
polynomials_again letter r w small ps s ls h e = times_again _ _ _ _ (next_spelled _ _ _ (polynomial_spelled letter r w small)) ps s ls h (e ∙ ap (λ ms. ms ++ ls) (sym (each_line letter ps)))

cert_takes : (r : ℕ) → r ≤ 16 → (mask : ℕ) (kind : Kind) (s between after : RestOfText) (c : Cert) → FitsKind kind → s.lines ≡ line_text (face_words (mask, kind)) ∷ between.lines → cert_at r kind between ≡ Ok (c, after)
    → (s.lines ≡ cert_lines mask c ++ after.lines) × FitsCert r c
unfolding cert_at
cert_takes r small mask (members n) s between after c f l e =
    let g = bind_ok (polynomials_at (codes "g") r n between) _ (c, after) e in
    let p = ok_is (free g.0.0, g.0.1) (c, after) g.2 in
    let t = polynomials_take (codes "g") r g_word small n between g.0.1 g.0.0 g.1 in
    subst (λ (q : Cert × RestOfText). (s.lines ≡ cert_lines mask q.0 ++ q.1.lines) × FitsCert r q.0) p
    (l ∙ (λ i. line_text (face_words (mask, members (sym t.2 i))) ∷ t.0 i), (omega (arith, f.0, t.2), omega (arith, f.1, t.2), t.1))
cert_takes r small mask (cofactors n m) s between after c f l e =
    let g = bind_ok (polynomials_at (codes "h") r m between) _ (c, after) e in
    let p = ok_is (monomial n g.0.0, g.0.1) (c, after) g.2 in
    let t = polynomials_take (codes "h") r h_word small m between g.0.1 g.0.0 g.1 in
    subst (λ (q : Cert × RestOfText). (s.lines ≡ cert_lines mask q.0 ++ q.1.lines) × FitsCert r q.0) p
    (l ∙ (λ i. line_text (face_words (mask, cofactors n (sym t.2 i))) ∷ t.0 i), (f.0, omega (arith, f.1, t.2), t.1))

-- a block whose mask is at most the last one
pub record IsBlock (r last : ℕ) (b : Block) : Type 0 where
  pub some : 1 ≤ b.mask
  pub within : b.mask ≤ last
  pub cert : FitsCert r b.cert

pub block_spelled : (r last : ℕ) → r ≤ 16 → last < 10 ^ 18 → Spelled (block_at r last) (λ s. s.lines) block_lines (IsBlock r last)
unfolding block_at cert_at
block_spelled r last small few = record {
  takes = λ s after b e.
      let f = bind_ok (next_by (face_line last) s) _ (b, after) e in
      let c = bind_ok (cert_at r f.0.0.1 f.0.1) _ (b, after) f.2 in
      let p = ok_is (record { mask = f.0.0.0; cert = c.0.0 }, c.0.1) (b, after) c.2 in
      let tf = (next_spelled _ _ _ (face_spelled last few)).takes s f.0.1 f.0.0 f.1 in
      let tc = cert_takes r small f.0.0.0 f.0.0.1 s f.0.1 c.0.1 c.0.0 tf.1.2 tf.0 c.1 in
      subst (λ (q : Block × RestOfText). (s.lines ≡ block_lines q.0 ++ q.1.lines) × IsBlock r last q.0) p (tc.0, record { some = tf.1.0; within = tf.1.1; cert = tc.1 });
  again = λ s b ls h e. block_again s b.mask b.cert ls h.some h.within h.cert e;
}
  where
    block_again : (s : RestOfText) (mask : ℕ) (c : Cert) (ls : List (List ℕ)) → 1 ≤ mask → mask ≤ last → FitsCert r c → s.lines ≡ cert_lines mask c ++ ls
        → (after : RestOfText) × (block_at r last s ≡ Ok (record { mask = mask; cert = c }, after)) × (after.lines ≡ ls)
    block_again s mask (free gs) ls some lt h e =
        let f = (next_spelled _ _ _ (face_spelled last few)).again s (mask, members (length gs)) (polynomial_lines (codes "g") gs ++ ls) (some, lt, (h.0, h.1)) e in
        let g = polynomials_again (codes "g") r g_word small gs f.0 ls h.2 f.2 in
        (g.0, rw (f.1, g.1) refl, g.2)
    block_again s mask (monomial n hs) ls some lt h e =
        let f = (next_spelled _ _ _ (face_spelled last few)).again s (mask, cofactors n (length hs)) (polynomial_lines (codes "h") hs ++ ls) (some, lt, (h.0, h.1)) e in
        let g = polynomials_again (codes "h") r h_word small hs f.0 ls h.2 f.2 in
        (g.0, rw (f.1, g.1) refl, g.2)

-- ---- the whole

format_word : IsPlainWord (codes "gitfan-certs")
format_word = record { some = omega arith; bytes = refl }

faces_word : IsPlainWord (codes "faces")
faces_word = record { some = omega arith; bytes = refl }

abbrev pub certs_lines : List Block → List (List ℕ)
certs_lines bs = line_text (number_words (codes "gitfan-certs") 1) ∷ line_text (number_words (codes "faces") (length bs)) ∷ flat_map block_lines bs ++ (line_text end_words ∷ [])

pub record AreBlocks (r last : ℕ) (bs : List Block) : Type 0 where
  pub few : length bs ≤ FACES
  pub each : AllByRecursion (IsBlock r last) bs

version_spelled : LineSpelled (header_line (codes "gitfan-certs") 1) (number_words (codes "gitfan-certs")) (IsNumber 1 1)
version_spelled = header_spelled (codes "gitfan-certs") 1 format_word (omega arith)

count_spelled : LineSpelled (number_line (codes "faces") 0 FACES) (number_words (codes "faces")) (IsNumber 0 FACES)
count_spelled = number_spelled (codes "faces") 0 FACES faces_word (omega arith)

only_one : (v : ℕ) → IsNumber 1 1 v → v ≡ 1
only_one v h = omega (arith, h.above, h.below)

one_itself : IsNumber 1 1 1
one_itself = record { above = omega arith; below = omega arith }

pub certs_spelled : (r last : ℕ) → r ≤ 16 → last < 10 ^ 18 → Spelled (certs_at r last) (λ s. s.lines) certs_lines (AreBlocks r last)
unfolding certs_at
certs_spelled r last small few = record {
  takes = λ s after bs e.
      let v = bind_ok (next_by (header_line (codes "gitfan-certs") 1) s) _ (bs, after) e in
      let n = bind_ok (next_by (number_line (codes "faces") 0 FACES) v.0.1) _ (bs, after) v.2 in
      let b = bind_ok (times (block_at r last) n.0.0 n.0.1) _ (bs, after) n.2 in
      let z = bind_ok (next_by end_line b.0.1) _ (bs, after) b.2 in
      let p = ok_is (b.0.0, z.0.1) (bs, after) z.2 in
      let tv = (next_spelled _ _ _ version_spelled).takes s v.0.1 v.0.0 v.1 in
      let tn = (next_spelled _ _ _ count_spelled).takes v.0.1 n.0.1 n.0.0 n.1 in
      let tb = times_takes _ _ _ _ (block_spelled r last small few) n.0.0 n.0.1 b.0.1 b.0.0 b.1 in
      let tz = (next_spelled _ _ _ end_spelled).takes b.0.1 z.0.1 z.0.0 z.1 in
      let blocks = flat_map block_lines b.0.0 in
      let rest = tb.0 ∙ ap (λ x. blocks ++ x) tz.0 ∙ sym (append_assoc blocks (line_text end_words ∷ []) z.0.1.lines) in
      let is : s.lines ≡ certs_lines b.0.0 ++ z.0.1.lines =
      tv.0 ∙ (let one = only_one v.0.0 tv.1 in let count = sym tb.2 in λ i. line_text (number_words (codes "gitfan-certs") (one i)) ∷ (tn.0 ∙ (λ j. line_text (number_words (codes "faces") (count j)) ∷ rest j)) i) in
      subst (λ (q : List Block × RestOfText). (s.lines ≡ certs_lines q.0 ++ q.1.lines) × AreBlocks r last q.0) p (is, record { few = omega (arith, tn.1.below, tb.2); each = tb.1 });
  again = λ s bs ts f e.
      let ends = line_text end_words in
      let blocks = flat_map block_lines bs in
      let v = (next_spelled _ _ _ version_spelled).again s 1 (line_text (number_words (codes "faces") (length bs)) ∷ (blocks ++ (ends ∷ [])) ++ ts) one_itself e in
      let n = (next_spelled _ _ _ count_spelled).again v.0 (length bs) ((blocks ++ (ends ∷ [])) ++ ts) (record { above = omega arith; below = f.few }) v.2 in
      let b = times_again _ _ _ _ (block_spelled r last small few) bs n.0 (ends ∷ ts) f.each (n.2 ∙ append_assoc blocks (ends ∷ []) ts) in
      let z = (next_spelled _ _ _ end_spelled).again b.0 tt ts tt b.2 in
      (z.0, rw (v.1, n.1, b.1, z.1) refl, z.2);
}

-- ---- each line ends where it was written to end

cert_text_lines : (r last mask : ℕ) (c : Cert) → r ≤ 16 → last < 10 ^ 18 → 1 ≤ mask → mask ≤ last → FitsCert r c → AreTextLines (cert_lines mask c)
cert_text_lines r last mask (free gs) small few some within h = (
  words_line (face_words (mask, members (length gs))) ((face_spelled last few).plain (mask, members (length gs)) (some, within, (h.0, h.1))),
  map_lines (polynomial_words (codes "g")) (FitsPoly r) (polynomial_spelled (codes "g") r g_word small).plain gs h.2,
)
cert_text_lines r last mask (monomial n hs) small few some within h = (
  words_line (face_words (mask, cofactors n (length hs))) ((face_spelled last few).plain (mask, cofactors n (length hs)) (some, within, (h.0, h.1))),
  map_lines (polynomial_words (codes "h")) (FitsPoly r) (polynomial_spelled (codes "h") r h_word small).plain hs h.2,
)

blocks_text_lines : (r last : ℕ) (bs : List Block) → r ≤ 16 → last < 10 ^ 18 → AllByRecursion (IsBlock r last) bs → AreTextLines (flat_map block_lines bs)
blocks_text_lines r last [] small few h = tt
blocks_text_lines r last (b ∷ bs) small few h = text_lines_append (block_lines b) (flat_map block_lines bs) (cert_text_lines r last b.mask b.cert small few h.0.some h.0.within h.0.cert) (blocks_text_lines r last bs small few h.1)

pub certs_text_lines : (r last : ℕ) → r ≤ 16 → last < 10 ^ 18 → (bs : List Block) → AreBlocks r last bs → AreTextLines (certs_lines bs)
certs_text_lines r last small few bs h = (
  words_line (number_words (codes "gitfan-certs") 1) (version_spelled.plain 1 one_itself),
  (
    words_line (number_words (codes "faces") (length bs)) (count_spelled.plain (length bs) (record { above = omega arith; below = h.few })),
    text_lines_append (flat_map block_lines bs) (line_text end_words ∷ []) (blocks_text_lines r last bs small few h.each) (words_line end_words (end_spelled.plain tt tt), tt),
  ),
)
