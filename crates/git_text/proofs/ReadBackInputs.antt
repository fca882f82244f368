-- An input that is written is read back.
use Rattle.std.proofs.Common.{◌≡◌, inl, inr, ℕ, suc, ◌<◌, ◌≤◌, ◌^◌, List, [], ◌∷◌, ◌++◌, length, map, get_or, true, refl, sym, ap, ◌∙◌, subst, arith, All}
use Rattle.std.specs.Prelude.{ℤ, pos, ◌≤ℤ◌, codes, unsigned_abs}
use Rattle.std.specs.List.{range_with_len, list_all, AllByRecursion}
use Rattle.std.specs.Fmt.{decimal, signed_decimal}
use Rattle.std.proofs.Math.IntN.{neg_ℤ}
use Rattle.std.proofs.lemmas.Bool.{cases_lt}
use Rattle.std.proofs.lemmas.Int.{ints}
use Rattle.std.proofs.lemmas.List.{length-map, get_or-map, get_or_past}
use Rattle.std.proofs.lemmas.List.FromFn.{length-map-range_with_len, get_or-map-range_with_len}
use Rattle.git_defs.specs.Vectors.{Vector, AllOfLength}
use Rattle.git_ints.specs.Padded.{AreWithin}
use Rattle.git_grading.specs.Gradings.{Degrees, IsGrading}
use Rattle.git_algebra.specs.Polynomials.{Polynomial}
use Rattle.git_poly.specs.Degrees.{AreGradedBy, IsHomogeneous}
use Rattle.git_polytext.specs.Printing.{polynomial_text}
use Rattle.git_polytext.proofs.ReadBack.{read_back}
use Rattle.git_polytext.proofs.TextBytes.{text_is_plain}
use Rattle.git_lines.specs.Tokens.{words}
use Rattle.git_lines.specs.Printing.{spaced}
use Rattle.git_lines.specs.Grammar.{Together, IsInteger}
use Rattle.git_lines.proofs.WordLemmas.{words_spaced}
use Rattle.git_lines.proofs.NumberLemmas.{integer_is_read_back}
use Rattle.git_text.specs.Grammar.{IsRow, IsGenerator, column_of, columns_of, IsMatrixText, IsInputFront, IsInput}
use Rattle.git_input.specs.Inputs.{InputValue, AreGenerators}
use Rattle.git_text.specs.Writing.{row_of_columns, row_line_text, input_lines, input_text}
use Rattle.git_lines.proofs.WrittenLines.{inside_line, IsPlainWord, all_more, word_in_line, contents_back, are_words, spaced_inside, decimal_word, signed_word}

-- ---- the columns of the rows are the columns

same_by : {X : Type 0} (xs ys : List X) (d : X) → length xs ≡ length ys → ((i : ℕ) → i < length xs → get_or xs i d ≡ get_or ys i d) → xs ≡ ys
same_by [] [] d e h = refl
same_by [] (y ∷ ys) d e h = absurd (omega (arith, e))
same_by (x ∷ xs) [] d e h = absurd (omega (arith, e))
same_by (x ∷ xs) (y ∷ ys) d e h = λ i. h 0 (omega arith) i ∷ same_by xs ys d (omega (arith, e)) (λ n lt. h (suc n) (omega (arith, lt))) i

abbrev rows_of_columns : ℕ → List Vector → List Vector
rows_of_columns k columns = map (row_of_columns columns) (range_with_len 0 k)

row_at : (k : ℕ) (columns : List Vector) (i : ℕ) → i < k → get_or (rows_of_columns k columns) i [] ≡ row_of_columns columns i
row_at k columns i lt = get_or-map-range_with_len (row_of_columns columns) 0 k i i [] lt (omega arith)

entry_at : (k : ℕ) (columns : List Vector) (i j : ℕ) → i < k → j < length columns → get_or (column_of (rows_of_columns k columns) j) i (pos 0) ≡ get_or (get_or columns j []) i (pos 0)
entry_at k columns i j lt few =
    get_or-map (λ row. get_or row j (pos 0)) (rows_of_columns k columns) i [] (pos 0) (omega (arith, lt, length-map-range_with_len (row_of_columns columns) 0 k))
    ∙ ap (λ (row : Vector). get_or row j (pos 0)) (row_at k columns i lt)
    ∙ get_or-map (λ column. get_or column i (pos 0)) columns j [] (pos 0) few

column_back : (k : ℕ) (columns : List Vector) (j : ℕ) → AllOfLength k columns → j < length columns → column_of (rows_of_columns k columns) j ≡ get_or columns j []
column_back k columns j each few =
    let size : length (column_of (rows_of_columns k columns) j) ≡ k = length-map (rows_of_columns k columns) _ ∙ length-map-range_with_len (row_of_columns columns) 0 k in
    same_by (column_of (rows_of_columns k columns) j) (get_or columns j []) (pos 0) (size ∙ sym (each j [] few)) (λ i lt. entry_at k columns i j (omega (arith, lt, size)) few)

columns_back : (k : ℕ) (columns : List Vector) → AllOfLength k columns → columns_of (length columns) (rows_of_columns k columns) ≡ columns
columns_back k columns each =
    let size : length (columns_of (length columns) (rows_of_columns k columns)) ≡ length columns = length-map-range_with_len (column_of (rows_of_columns k columns)) 0 (length columns) in
    same_by (columns_of (length columns) (rows_of_columns k columns)) columns [] size (λ j lt.
    get_or-map-range_with_len (column_of (rows_of_columns k columns)) 0 (length columns) j j [] (omega (arith, lt, size)) (omega arith)
    ∙ column_back k columns j each (omega (arith, lt, size)))

-- ---- rows

abbrev AreSmall : Vector → Type 0
AreSmall row = AllByRecursion (λ z. unsigned_abs z ≤ 1000) row

entry_small : (column : Vector) (i : ℕ) → AreWithin 1000 column → unsigned_abs (get_or column i (pos 0)) ≤ 1000
entry_small column i within = elim (cases_lt i (length column)) [
  | inl lt ↦ within i (pos 0) lt
  | inr past ↦ subst (λ z. unsigned_abs z ≤ 1000) (sym (get_or_past column i (pos 0) past)) (omega arith)
]

row_small : (columns : List Vector) (i : ℕ) → All (AreWithin 1000) columns → AreSmall (row_of_columns columns i)
row_small [] i each = tt
row_small (column ∷ columns) i each = (entry_small column i (each 0 [] (omega arith)), row_small columns i (λ j d lt. each (suc j) d (omega (arith, lt))))

integer_of : (low high : ℤ) (z : ℤ) → unsigned_abs z < 10 ^ 18 → low ≤ℤ z → z ≤ℤ high → IsInteger low high (signed_decimal z) z
integer_of low high z lt above below = record { spelled = integer_is_read_back z lt; above = above; below = below }

row_integers : (row : Vector) → AreSmall row → Together (IsInteger (neg_ℤ (pos 1000)) (pos 1000)) (map signed_decimal row) row
row_integers [] h = tt
row_integers (z ∷ row) h = (integer_of (neg_ℤ (pos 1000)) (pos 1000) z (omega (arith, h.0)) (omega (arith, ints, h.0)) (omega (arith, ints, h.0)), row_integers row h.1)

row_words : (row : Vector) → AreSmall row → AllByRecursion IsPlainWord (map signed_decimal row)
row_words [] h = tt
row_words (z ∷ row) h = (signed_word z (omega (arith, h.0)), row_words row h.1)

row_is : (columns : List Vector) (i : ℕ) → All (AreWithin 1000) columns → IsRow (length columns) (row_line_text columns i) (row_of_columns columns i)
row_is columns i each =
    let row = row_of_columns columns i in
    let back : words (spaced (map signed_decimal row)) ≡ map signed_decimal row = words_spaced (map signed_decimal row) (are_words (map signed_decimal row) (row_words row (row_small columns i each))) in
    record {
      entries = subst (λ ws. Together (IsInteger (neg_ℤ (pos 1000)) (pos 1000)) ws row) (sym back) (row_integers row (row_small columns i each));
      size = length-map columns _;
    }

rows_are : (columns : List Vector) (places : List ℕ) → All (AreWithin 1000) columns → Together (IsRow (length columns)) (map (row_line_text columns) places) (map (row_of_columns columns) places)
rows_are columns [] each = tt
rows_are columns (i ∷ places) each = (row_is columns i each, rows_are columns places each)

-- ---- bytes

abbrev AreInside : List (List ℕ) → Type 0
AreInside lines = AllByRecursion (λ l. list_all inside_line l ≡ true) lines

inside_append : (xs ys : List (List ℕ)) → AreInside xs → AreInside ys → AreInside (xs ++ ys)
inside_append [] ys h g = g
inside_append (x ∷ xs) ys h g = (h.0, inside_append xs ys h.1 g)

rows_inside : (columns : List Vector) (places : List ℕ) → All (AreWithin 1000) columns → AreInside (map (row_line_text columns) places)
rows_inside columns [] each = tt
rows_inside columns (i ∷ places) each =
    (spaced_inside (map signed_decimal (row_of_columns columns i)) (row_words (row_of_columns columns i) (row_small columns i each)), rows_inside columns places each)

-- ---- generators

generators_inside : (columns : List Vector) (ps : List Polynomial) → All (AreGradedBy columns) ps → AreInside (map polynomial_text ps)
generators_inside columns [] each = tt
generators_inside columns (p ∷ ps) each =
    let graded = each 0 p (omega arith) in (
      all_more _ inside_line word_in_line (polynomial_text p) (text_is_plain p (λ a i has. (let small = (graded a has).small i in omega (arith, small)))),
      generators_inside columns ps (λ j d lt. each (suc j) d (omega (arith, lt))),
    )

generators_are : (d : Degrees) (ps : List Polynomial) → length d.columns ≤ 16 → All (AreGradedBy d.columns) ps → All (λ p. length p.terms ≤ 200) ps → All (IsHomogeneous d.k d.columns) ps
    → Together (IsGenerator d) (map polynomial_text ps) ps
generators_are d [] few graded short same = tt
generators_are d (p ∷ ps) few graded short same = (
  record { is = read_back d.columns p few (graded 0 p (omega arith)) (short 0 p (omega arith)); homogeneous = same 0 p (omega arith) },
  generators_are d ps few (λ j e lt. graded (suc j) e (omega (arith, lt))) (λ j e lt. short (suc j) e (omega (arith, lt))) (λ j e lt. same (suc j) e (omega (arith, lt))),
)

-- ---- the whole

two_words : (word : List ℕ) (n : ℕ) → IsPlainWord word → n < 10 ^ 18 → AllByRecursion IsPlainWord (word ∷ decimal n ∷ [])
two_words word n w lt = (w, (decimal_word n lt, tt))

matrix_text : (d : Degrees) → IsGrading d.k d.columns
    → IsMatrixText (spaced (codes "grading" ∷ decimal d.k ∷ decimal (length d.columns) ∷ []) ∷ map (row_line_text d.columns) (range_with_len 0 d.k)) d
matrix_text d g =
    let k = d.k in let r = length d.columns in let m = g.matrix in
    let sizes : AllByRecursion IsPlainWord (codes "grading" ∷ decimal k ∷ decimal r ∷ []) = (record { some = omega arith; bytes = refl }, (decimal_word k (omega (arith, m.few_rows)), (decimal_word r (omega (arith, m.few_columns)), tt))) in
    record {
      sizes = spaced (codes "grading" ∷ decimal k ∷ decimal r ∷ []);
      rows = map (row_line_text d.columns) (range_with_len 0 k);
      values = rows_of_columns k d.columns;
      lines = refl;
      sizes_are = record {
        rank = decimal k;
        size = decimal r;
        is = words_spaced (codes "grading" ∷ decimal k ∷ decimal r ∷ []) (are_words (codes "grading" ∷ decimal k ∷ decimal r ∷ []) sizes);
        rank_is = integer_of (pos 1) (pos 6) (pos k) (omega (arith, m.few_rows)) (omega (arith, ints, m.some_rows)) (omega (arith, ints, m.few_rows));
        size_is = integer_of (pos 1) (pos 16) (pos r) (omega (arith, m.few_columns)) (omega (arith, ints, m.some_columns)) (omega (arith, ints, m.few_columns));
      };
      rows_are = rows_are d.columns (range_with_len 0 k) m.entries;
      all_rows = length-map-range_with_len (row_of_columns d.columns) 0 k;
      columns_are = sym (columns_back k d.columns m.lengths);
      rank = g.rank;
      pointed = g.pointed;
    }

lines_inside : (v : InputValue) → IsGrading v.degrees.k v.degrees.columns → AreGenerators v.degrees v.generators → AreInside (input_lines v)
lines_inside v g a =
    let d = v.degrees in let m = g.matrix in
    let tail : AreInside (spaced (codes "ideal" ∷ decimal (length v.generators) ∷ []) ∷ map polynomial_text v.generators ++ (codes "end" ∷ [])) = (
      spaced_inside (codes "ideal" ∷ decimal (length v.generators) ∷ []) (two_words (codes "ideal") (length v.generators) (record { some = omega arith; bytes = refl }) (omega (arith, a.few))),
      inside_append (map polynomial_text v.generators) (codes "end" ∷ []) (generators_inside d.columns v.generators a.graded) (refl, tt),
    ) in (
      refl,
      (
        spaced_inside (codes "grading" ∷ decimal d.k ∷ decimal (length d.columns) ∷ []) (record { some = omega arith; bytes = refl }, (decimal_word d.k (omega (arith, m.few_rows)), (decimal_word (length d.columns) (omega (arith, m.few_columns)), tt))),
        inside_append (map (row_line_text d.columns) (range_with_len 0 d.k)) _ (rows_inside d.columns (range_with_len 0 d.k) m.entries) tail,
      ),
    )

front_written : (v : InputValue) → IsGrading v.degrees.k v.degrees.columns → AreGenerators v.degrees v.generators → IsInputFront (input_lines v) v
front_written v g a = record {
  header = spaced (codes "gitfan" ∷ codes "1" ∷ []);
  matrix_lines = spaced (codes "grading" ∷ decimal v.degrees.k ∷ decimal (length v.degrees.columns) ∷ []) ∷ map (row_line_text v.degrees.columns) (range_with_len 0 v.degrees.k);
  ideal = spaced (codes "ideal" ∷ decimal (length v.generators) ∷ []);
  polynomials = map polynomial_text v.generators;
  end = codes "end";
  lines = refl;
  header_is = refl;
  matrix = matrix_text v.degrees g;
  ideal_is = record {
    count = decimal (length v.generators);
    is = words_spaced (codes "ideal" ∷ decimal (length v.generators) ∷ []) (are_words (codes "ideal" ∷ decimal (length v.generators) ∷ [])
        (two_words (codes "ideal") (length v.generators) (record { some = omega arith; bytes = refl }) (omega (arith, a.few))));
    count_is = integer_of (pos 0) (pos 64) (pos (length v.generators)) (omega (arith, a.few)) (omega (arith, ints)) (omega (arith, ints, a.few));
  };
  polynomials_are = generators_are v.degrees v.generators g.matrix.few_columns a.graded a.short a.homogeneous;
  end_is = refl;
}

pub input_back : (v : InputValue) → IsGrading v.degrees.k v.degrees.columns → AreGenerators v.degrees v.generators → IsInput (input_text v) v
input_back v g a = subst (λ lines. IsInputFront lines v) (sym (contents_back (input_lines v) (lines_inside v g a))) (front_written v g a)
