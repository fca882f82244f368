-- What the readers of a listing's lines take are these lines as they are printed, and the other way round.
use Rattle.std.proofs.Common.{◌≡◌, ℕ, Bool, true, false, cond, List, [], ◌∷◌, ◌++◌, length, map, Result, Ok, refl, sym, ap, ◌∙◌, subst, arith}
use Rattle.std.specs.Prelude.{ℤ, pos, codes, unsigned_abs, ◌==◌}
use Rattle.std.specs.Str.{bytes_eq}
use Rattle.std.specs.List.{flat_map, AllByRecursion}
use Rattle.std.specs.Fmt.{decimal, signed_decimal}
use Rattle.std.proofs.lemmas.Int.{ints}
use Rattle.std.proofs.lemmas.List.{append-nil}
use Rattle.std.proofs.lemmas.Bool.{eqb-true}
use Rattle.std.proofs.lemmas.Slice.Eq.{bytes_eq-Decides}
use Rattle.git_defs.specs.Vectors.{Vector}
use Rattle.git_limits.specs.declared.TheConstants.{ROWS, COLUMNS}
use Rattle.git_lines.specs.declared.fault.FormFault.{FormFault}
use Rattle.git_lines.specs.declared.fault.FormKind.TheVariants.{Syntax}
use Rattle.git_lines.specs.Fields.{RestOfFields, fields_of, fields_in, next_field, word_field, integer_field, no_field}
use Rattle.git_lines.specs.Reading.{◌>>=◌, fault_at}
use Rattle.git_lines.proofs.Exact.{bind_ok, ok_is}
use Rattle.git_lines.proofs.WrittenLines.{IsPlainWord, decimal_word, signed_word}
use Rattle.git_strictlines.proofs.Spelled.{times_takes, times_again}
use Rattle.git_strictlines.proofs.FieldSteps.{with_fields, next_takes, next_again, word_takes, word_again, none_takes, none_again, IsWithin, AreLimits, integers}
use Rattle.git_strictlines.proofs.LinesSpelled.{LineSpelled, number_within, limits_of, natural_back}
use Rattle.git_listing.specs.declared.limits.TheConstants.{LISTED, ENTRY_LOW, ENTRY_HIGH, WEIGHT_LOW, WEIGHT_HIGH}
use Rattle.git_listing.specs.Limits.{FitsSide, AreSizes}
use Rattle.git_listing.specs.Listings.{Side, boundary, inner, Facet}
use Rattle.git_listing.specs.ListingText.{match_word, match_words, side_words}
use Rattle.git_listing.specs.ListingReading.{sizes_line, entries_at, vector_line, match_by, match_field, neighbour_fields, side_fields, facet_line}

-- ---- the words of lines

abbrev pub sizes_words : ℕ × ℕ → List (List ℕ)
sizes_words s = codes "grading" ∷ decimal s.0 ∷ decimal s.1 ∷ []

abbrev pub vector_words : List ℕ → Vector → List (List ℕ)
vector_words word v = word ∷ map signed_decimal v

abbrev pub facet_words : ℕ → Facet → List (List ℕ)
facet_words version f = codes "facet" ∷ map signed_decimal f.normal ++ side_words version f.side

-- ---- sizes

pub sizes_spelled : LineSpelled sizes_line sizes_words AreSizes
unfolding sizes_line
sizes_spelled = record {
  takes = λ n l s e.
      let a = bind_ok (word_field (codes "grading") (fields_in n l)) _ s e in
      let k = bind_ok (integer_field (pos 1) (pos ROWS) a.0) _ s a.2 in
      let r = bind_ok (integer_field (pos 1) (pos COLUMNS) k.0.1) _ s k.2 in
      let b = bind_ok (no_field r.0.1) _ s r.2 in
      let p = ok_is (unsigned_abs k.0.0, unsigned_abs r.0.0) s b.2 in
      let ta = word_takes _ _ _ a.1 in
      let tk = (integers (pos 1) (pos ROWS) few_rows).takes a.0 k.0.1 k.0.0 k.1 in
      let tr = (integers (pos 1) (pos COLUMNS) few_columns).takes k.0.1 r.0.1 r.0.0 r.1 in
      let tb = none_takes r.0.1 b.0 b.1 in
      let bk = natural_back 1 ROWS k.0.0 tk.1 in
      let br = natural_back 1 COLUMNS r.0.0 tr.1 in
      let is : fields_of l ≡ codes "grading" ∷ decimal (unsigned_abs k.0.0) ∷ decimal (unsigned_abs r.0.0) ∷ [] =
      ta ∙ ap (λ ts. codes "grading" ∷ ts) (tk.0 ∙ (λ i. bk.0 i ∷ (tr.0 ∙ (λ j. br.0 j ∷ tb j)) i)) in
      subst (λ q. (fields_of l ≡ sizes_words q) × AreSizes q) p (is, (bk.1.above, bk.1.below, br.1.above, br.1.below));
  again = λ n l s h e.
      let rest = fields_in n l in
      let k = (integers (pos 1) (pos ROWS) few_rows).again (with_fields rest (decimal s.0 ∷ decimal s.1 ∷ [])) (pos s.0) (decimal s.1 ∷ []) (number_within 1 ROWS s.0 (record { above = h.0; below = h.1 })) refl in
      let r = (integers (pos 1) (pos COLUMNS) few_columns).again k.0 (pos s.1) [] (number_within 1 COLUMNS s.1 (record { above = h.2; below = h.3 })) k.2 in
      rw (word_again (codes "grading") rest (decimal s.0 ∷ decimal s.1 ∷ []) (omega arith) e, k.1, r.1, none_again r.0 r.2) refl;
  plain = λ s h. (omega arith, (record { some = omega arith; bytes = refl }, (decimal_word s.0 (omega (arith, h.1)), (decimal_word s.1 (omega (arith, h.3)), tt))));
}
  where
    few_rows : AreLimits (pos 1) (pos ROWS)
    few_rows = limits_of 1 ROWS (omega arith)

    few_columns : AreLimits (pos 1) (pos COLUMNS)
    few_columns = limits_of 1 COLUMNS (omega arith)

-- ---- vectors

each_alone : (v : Vector) → flat_map (λ (z : ℤ). signed_decimal z ∷ []) v ≡ map signed_decimal v
each_alone [] = refl
each_alone (z ∷ v) = ap (λ ts. signed_decimal z ∷ ts) (each_alone v)

-- so many entries, each within the limits
abbrev pub AreEntries : ℕ → ℤ → ℤ → Vector → Type 0
AreEntries k low high v = (length v ≡ k) × AllByRecursion (IsWithin low high) v

pub entries_take : (k : ℕ) (low high : ℤ) → AreLimits low high → (s after : RestOfFields) (v : Vector) → entries_at k low high s ≡ Ok (v, after) → (s.fields ≡ map signed_decimal v ++ after.fields) × AreEntries k low high v
entries_take k low high limits s after v e =
    let t = times_takes _ _ _ _ (integers low high limits) k s after v e in
    (t.0 ∙ ap (λ ts. ts ++ after.fields) (each_alone v), (t.2, t.1))

pub entries_again : (k : ℕ) (low high : ℤ) → AreLimits low high → (s : RestOfFields) (v : Vector) (ts : List (List ℕ)) → AreEntries k low high v → s.fields ≡ map signed_decimal v ++ ts
    → (after : RestOfFields) × (entries_at k low high s ≡ Ok (v, after)) × (after.fields ≡ ts)
entries_again k low high limits s v ts h e =
    let t = times_again _ _ _ _ (integers low high limits) v s ts h.1 (e ∙ ap (λ us. us ++ ts) (sym (each_alone v))) in
    (t.0, ap (λ n. entries_at n low high s) (sym h.0) ∙ t.1, t.2)

pub entries_plain : (low high : ℤ) → AreLimits low high → (v : Vector) → AllByRecursion (IsWithin low high) v → AllByRecursion IsPlainWord (map signed_decimal v)
entries_plain low high limits [] h = tt
entries_plain low high limits (z ∷ v) h = (signed_word z (limits z h.0), entries_plain low high limits v h.1)

pub vector_spelled : (word : List ℕ) (k : ℕ) (low high : ℤ) → IsPlainWord word → AreLimits low high → LineSpelled (vector_line word k low high) (vector_words word) (AreEntries k low high)
unfolding vector_line
vector_spelled word k low high plain limits = record {
  takes = λ n l v e.
      let a = bind_ok (word_field word (fields_in n l)) _ v e in
      let z = bind_ok (entries_at k low high a.0) _ v a.2 in
      let b = bind_ok (no_field z.0.1) _ v z.2 in
      let p = ok_is z.0.0 v b.2 in
      let tz = entries_take k low high limits a.0 z.0.1 z.0.0 z.1 in
      let is : fields_of l ≡ word ∷ map signed_decimal z.0.0 =
      word_takes _ _ _ a.1 ∙ ap (λ ts. word ∷ ts) (tz.0 ∙ ap (λ ts. map signed_decimal z.0.0 ++ ts) (none_takes z.0.1 b.0 b.1) ∙ append-nil (map signed_decimal z.0.0)) in
      subst (λ q. (fields_of l ≡ vector_words word q) × AreEntries k low high q) p (is, tz.1);
  again = λ n l v h e.
      let rest = fields_in n l in
      let z = entries_again k low high limits (with_fields rest (map signed_decimal v)) v [] h (sym (append-nil (map signed_decimal v))) in
      rw (word_again word rest (map signed_decimal v) plain.some e, z.1, none_again z.0 z.2) refl;
  plain = λ v h. (omega arith, (plain, entries_plain low high limits v h.1));
}

-- ---- facets

-- ---- sides

match_takes_by : (f after : RestOfFields) (t : List ℕ) (m : Bool) (ts : List (List ℕ)) (b c : Bool) → bytes_eq t (codes "matched") ≡ b → bytes_eq t (codes "unmatched") ≡ c
    → cond {A = Result (Bool × RestOfFields) FormFault} b (Ok (true, f)) (cond c (Ok (false, f)) (fault_at f.line 1 Syntax)) ≡ Ok (m, after) → ts ≡ t ∷ f.fields → ts ≡ match_word m ∷ after.fields
match_takes_by f after t m ts true c eb ec e n =
    let p = ok_is (true, f) (m, after) e in
    let w : t ≡ codes "matched" = (bytes_eq-Decides t (codes "matched")).0 eb in
    subst (λ q. ts ≡ match_word q.0 ∷ q.1.fields) p (n ∙ ap (λ u. u ∷ f.fields) w)
match_takes_by f after t m ts false true eb ec e n =
    let p = ok_is (false, f) (m, after) e in
    let w : t ≡ codes "unmatched" = (bytes_eq-Decides t (codes "unmatched")).0 ec in
    subst (λ q. ts ≡ match_word q.0 ∷ q.1.fields) p (n ∙ ap (λ u. u ∷ f.fields) w)
match_takes_by f after t m ts false false eb ec e n = absurd (cc e)

match_takes_in : (version : ℕ) (s after : RestOfFields) (m : Bool) (test : Bool) → (version == 1) ≡ test → cond {A = Result (Bool × RestOfFields) FormFault} test (Ok (false, s)) (next_field s >>= match_by) ≡ Ok (m, after)
    → (s.fields ≡ match_words version m ++ after.fields) × (version ≡ 1 → m ≡ false)
match_takes_in version s after m true v e =
    let p = ok_is (false, s) (m, after) e in
    let none : match_words version false ≡ [] = rw v refl in
    subst (λ q. (s.fields ≡ match_words version q.0 ++ q.1.fields) × (version ≡ 1 → q.0 ≡ false)) p (ap (λ ws. ws ++ s.fields) (sym none), λ _. refl)
match_takes_in version s after m false v e =
    let f = bind_ok (next_field s) _ (m, after) e in
    let n = next_takes s f.0.1 f.0.0 f.1 in
    let is = match_takes_by f.0.1 after f.0.0 m s.fields (bytes_eq f.0.0 (codes "matched")) (bytes_eq f.0.0 (codes "unmatched")) refl refl f.2 n.0 in
    let one : match_words version m ≡ match_word m ∷ [] = rw v refl in
    (is ∙ ap (λ ws. ws ++ after.fields) (sym one), λ old. absurd (let yes : (version == 1) ≡ true = rw old refl in cc (sym v ∙ yes)))

pub match_takes : (version : ℕ) (s after : RestOfFields) (m : Bool) → match_field version s ≡ Ok (m, after) → (s.fields ≡ match_words version m ++ after.fields) × (version ≡ 1 → m ≡ false)
unfolding match_field
match_takes version s after m e = match_takes_in version s after m (version == 1) refl e

match_again_in : (version : ℕ) (s : RestOfFields) (m : Bool) (ts : List (List ℕ)) (test : Bool) → (version == 1) ≡ test → (version ≡ 1 → m ≡ false) → s.fields ≡ cond test [] (match_word m ∷ []) ++ ts
    → (after : RestOfFields) × (cond {A = Result (Bool × RestOfFields) FormFault} test (Ok (false, s)) (next_field s >>= match_by) ≡ Ok (m, after)) × (after.fields ≡ ts)
match_again_in version s m ts true v h e = (s, ap (λ b. Ok (b, s)) (sym (h (eqb-true version 1 v))), e)
match_again_in version s true ts false v h e = (with_fields s ts, rw (next_again s (codes "matched") ts (omega arith) e) refl, refl)
match_again_in version s false ts false v h e = (with_fields s ts, rw (next_again s (codes "unmatched") ts (omega arith) e) refl, refl)

pub match_again : (version : ℕ) (s : RestOfFields) (m : Bool) (ts : List (List ℕ)) → (version ≡ 1 → m ≡ false) → s.fields ≡ match_words version m ++ ts
    → (after : RestOfFields) × (match_field version s ≡ Ok (m, after)) × (after.fields ≡ ts)
unfolding match_field
match_again version s m ts h e = match_again_in version s m ts (version == 1) refl h e

listed_limits : AreLimits (pos 1) (pos LISTED)
listed_limits = limits_of 1 LISTED (omega arith)

neighbour_takes : (version : ℕ) (s after : RestOfFields) (side : Side) (ts : List (List ℕ)) → ts ≡ codes "inner" ∷ s.fields → neighbour_fields version s ≡ Ok (side, after) → (ts ≡ side_words version side ++ after.fields) × FitsSide version side
unfolding neighbour_fields
neighbour_takes version s after side ts w e =
    let n = bind_ok (integer_field (pos 1) (pos LISTED) s) _ (side, after) e in
    let m = bind_ok (match_field version n.0.1) _ (side, after) n.2 in
    let p = ok_is (inner (unsigned_abs n.0.0) m.0.0, m.0.1) (side, after) m.2 in
    let tn = (integers (pos 1) (pos LISTED) listed_limits).takes s n.0.1 n.0.0 n.1 in
    let tm = match_takes version n.0.1 m.0.1 m.0.0 m.1 in
    let back = natural_back 1 LISTED n.0.0 tn.1 in
    subst (λ q. (ts ≡ side_words version q.0 ++ q.1.fields) × FitsSide version q.0) p
    (w ∙ ap (λ us. codes "inner" ∷ us) (tn.0 ∙ (λ i. back.0 i ∷ tm.0 i)), ((back.1.above, back.1.below), tm.1))

neighbour_again : (version : ℕ) (s : RestOfFields) (number : ℕ) (m : Bool) (ts : List (List ℕ)) → FitsSide version (inner number m) → s.fields ≡ decimal number ∷ match_words version m ++ ts
    → (after : RestOfFields) × (neighbour_fields version s ≡ Ok (inner number m, after)) × (after.fields ≡ ts)
unfolding neighbour_fields
neighbour_again version s number m ts h e =
    let n = (integers (pos 1) (pos LISTED) listed_limits).again s (pos number) (match_words version m ++ ts) (number_within 1 LISTED number (record { above = h.0.0; below = h.0.1 })) e in
    let f = match_again version n.0 m ts h.1 n.2 in
    (f.0, rw (n.1, f.1) refl, f.2)

side_takes_by : (version : ℕ) (s f after : RestOfFields) (t : List ℕ) (side : Side) (b i : Bool) → bytes_eq t (codes "boundary") ≡ b → bytes_eq t (codes "inner") ≡ i
    → cond {A = Result (Side × RestOfFields) FormFault} b (Ok (boundary, f)) (cond i (neighbour_fields version f) (fault_at f.line 1 Syntax)) ≡ Ok (side, after)
    → s.fields ≡ t ∷ f.fields → (s.fields ≡ side_words version side ++ after.fields) × FitsSide version side
side_takes_by version s f after t side true i eb ei e n =
    let p = ok_is (boundary, f) (side, after) e in
    let w : t ≡ codes "boundary" = (bytes_eq-Decides t (codes "boundary")).0 eb in
    subst (λ q. (s.fields ≡ side_words version q.0 ++ q.1.fields) × FitsSide version q.0) p (n ∙ ap (λ u. u ∷ f.fields) w, tt)
side_takes_by version s f after t side false true eb ei e n =
    let w : t ≡ codes "inner" = (bytes_eq-Decides t (codes "inner")).0 ei in
    neighbour_takes version f after side s.fields (n ∙ ap (λ u. u ∷ f.fields) w) e
side_takes_by version s f after t side false false eb ei e n = absurd (cc e)

pub side_takes : (version : ℕ) (s after : RestOfFields) (side : Side) → side_fields version s ≡ Ok (side, after) → (s.fields ≡ side_words version side ++ after.fields) × FitsSide version side
unfolding side_fields
side_takes version s after side e =
    let f = bind_ok (next_field s) _ (side, after) e in
    let n = next_takes s f.0.1 f.0.0 f.1 in
    side_takes_by version s f.0.1 after f.0.0 side (bytes_eq f.0.0 (codes "boundary")) (bytes_eq f.0.0 (codes "inner")) refl refl f.2 n.0

pub side_again : (version : ℕ) (s : RestOfFields) (side : Side) (ts : List (List ℕ)) → FitsSide version side → s.fields ≡ side_words version side ++ ts
    → (after : RestOfFields) × (side_fields version s ≡ Ok (side, after)) × (after.fields ≡ ts)
unfolding side_fields
side_again version s boundary ts h e = (with_fields s ts, rw (next_again s (codes "boundary") ts (omega arith) e) refl, refl)
side_again version s (inner n m) ts h e =
    let z = neighbour_again version (with_fields s (decimal n ∷ match_words version m ++ ts)) n m ts h refl in
    (z.0, rw (next_again s (codes "inner") (decimal n ∷ match_words version m ++ ts) (omega arith) e) z.1, z.2)

match_plain_in : (m test : Bool) → AllByRecursion IsPlainWord (cond test [] (match_word m ∷ []))
match_plain_in m true = tt
match_plain_in true false = (record { some = omega arith; bytes = refl }, tt)
match_plain_in false false = (record { some = omega arith; bytes = refl }, tt)

side_plain : (version : ℕ) (side : Side) → FitsSide version side → AllByRecursion IsPlainWord (side_words version side)
side_plain version boundary h = (record { some = omega arith; bytes = refl }, tt)
side_plain version (inner n m) h = (record { some = omega arith; bytes = refl }, (decimal_word n (omega (arith, h.0.1)), match_plain_in m (version == 1)))

plain_append : (xs ys : List (List ℕ)) → AllByRecursion IsPlainWord xs → AllByRecursion IsPlainWord ys → AllByRecursion IsPlainWord (xs ++ ys)
plain_append [] ys h g = g
plain_append (x ∷ xs) ys h g = (h.0, plain_append xs ys h.1 g)

pub entry_limits : AreLimits ENTRY_LOW ENTRY_HIGH
entry_limits z w = omega (arith, ints, w.above, w.below)

pub weight_limits : AreLimits WEIGHT_LOW WEIGHT_HIGH
weight_limits z w = omega (arith, ints, w.above, w.below)

-- a facet's line as it is read
abbrev pub IsFacet : ℕ → ℕ → Facet → Type 0
IsFacet version k f = AreEntries k ENTRY_LOW ENTRY_HIGH f.normal × FitsSide version f.side

pub facet_spelled : (version k : ℕ) → LineSpelled (facet_line version k) (facet_words version) (IsFacet version k)
unfolding facet_line
facet_spelled version k = record {
  takes = λ n l f e.
      let a = bind_ok (word_field (codes "facet") (fields_in n l)) _ f e in
      let v = bind_ok (entries_at k ENTRY_LOW ENTRY_HIGH a.0) _ f a.2 in
      let s = bind_ok (side_fields version v.0.1) _ f v.2 in
      let b = bind_ok (no_field s.0.1) _ f s.2 in
      let p = ok_is (record { normal = v.0.0; side = s.0.0 }) f b.2 in
      let tv = entries_take k _ _ entry_limits a.0 v.0.1 v.0.0 v.1 in
      let ts = side_takes version v.0.1 s.0.1 s.0.0 s.1 in
      let is : fields_of l ≡ codes "facet" ∷ map signed_decimal v.0.0 ++ side_words version s.0.0 =
      word_takes _ _ _ a.1 ∙ ap (λ us. codes "facet" ∷ us) (tv.0 ∙ ap (λ us. map signed_decimal v.0.0 ++ us) (ts.0 ∙ ap (λ us. side_words version s.0.0 ++ us) (none_takes s.0.1 b.0 b.1) ∙ append-nil (side_words version s.0.0))) in
      subst (λ q. (fields_of l ≡ facet_words version q) × IsFacet version k q) p (is, (tv.1, ts.1));
  again = λ n l f h e.
      let rest = fields_in n l in
      let us = map signed_decimal f.normal ++ side_words version f.side in
      let v = entries_again k _ _ entry_limits (with_fields rest us) f.normal (side_words version f.side) h.0 refl in
      let s = side_again version v.0 f.side [] h.1 (v.2 ∙ sym (append-nil (side_words version f.side))) in
      rw (word_again (codes "facet") rest us (omega arith) e, v.1, s.1, none_again s.0 s.2) refl;
  plain = λ f h. (omega arith, (record { some = omega arith; bytes = refl }, plain_append (map signed_decimal f.normal) (side_words version f.side) (entries_plain _ _ entry_limits f.normal h.0.1) (side_plain version f.side h.1)));
}
