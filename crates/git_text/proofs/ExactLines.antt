-- What reading takes of a line is what the grammar says, line by line.
use Rattle.std.proofs.Common.{◌≡◌, ℕ, List, [], ◌∷◌, ◌++◌, Ok, refl, sym, ap, ◌∙◌, subst, arith}
use Rattle.std.specs.Prelude.{ℤ, pos, ◌≤ℤ◌, codes, unsigned_abs}
use Rattle.std.proofs.Math.IntN.{neg_ℤ}
use Rattle.std.proofs.lemmas.Int.{ints}
use Rattle.std.proofs.lemmas.List.{append-nil}
use Rattle.git_lines.specs.Tokens.{rest_of_line, texts, words}
use Rattle.git_lines.specs.Reading.{times, word_token, integer_token, no_token}
use Rattle.git_lines.specs.Grammar.{Together, IsInteger}
use Rattle.git_lines.proofs.Exact.{bind_ok, lift_ok, ok_is, with_tokens, word_takes, word_again, none_takes, none_again, integer_takes, integer_again, integers, times_take, times_again, texts_cons, texts_nil, together_texts, together_tokens, ReadsLine}
use Rattle.git_text.specs.Grammar.{IsHeader, IsSizes, IsRow, IsIdeal, IsEnd}
use Rattle.git_text.specs.Faults.{form_bad, as_input}
use Rattle.git_text.specs.Reading.{header_words, as_header, header_line, sizes_line, row_line, ideal_line, end_line}

-- ---- integers that are not negative

abs_pos : (z : ℤ) → pos 0 ≤ℤ z → pos (unsigned_abs z) ≡ z
abs_pos z h = grind (arith, ints)

no_less : (low z : ℤ) → pos 0 ≤ℤ low → low ≤ℤ z → pos 0 ≤ℤ z
no_less low z h k = grind (arith, ints)

zero_least : pos 0 ≤ℤ pos 0
zero_least = grind (arith, ints)

one_above : pos 0 ≤ℤ pos 1
one_above = grind (arith, ints)

natural_is : (low high : ℤ) (token : List ℕ) (z : ℤ) → pos 0 ≤ℤ low → IsInteger low high token z → IsInteger low high token (pos (unsigned_abs z))
natural_is low high token z l i = subst (λ y. IsInteger low high token y) (sym (abs_pos z (no_less low z l i.above))) i

-- ---- the lines

header_words_read : ReadsLine header_words (λ l u. IsHeader l)
unfolding header_words
header_words_read = record {
  takes = λ n l u e.
      let a = bind_ok (word_token (codes "gitfan") (rest_of_line n l)) _ u e in
      let b = bind_ok (word_token (codes "1") a.0) _ u a.2 in
      let ta = word_takes _ _ _ a.1 in
      let tb = word_takes _ _ _ b.1 in
      let z = none_takes b.0 b.2 in
      ap texts (ta.1 ∙ ap (λ ts. ta.0 ∷ ts) (tb.1 ∙ ap (λ ts. tb.0 ∷ ts) z)) ∙ (λ i. ta.2 i ∷ tb.2 i ∷ []);
  again = λ n l u h.
      let rest = rest_of_line n l in
      let a = texts_cons _ _ _ h in
      let b = texts_cons _ _ _ a.4 in
      let z = texts_nil _ b.4 in
      rw (word_again (codes "gitfan") rest a.0 a.1 a.2 a.3, word_again (codes "1") (with_tokens rest a.1) b.0 b.1 b.2 b.3) (none_again (with_tokens rest b.1) z);
}

pub header_reads : ReadsLine header_line (λ l u. IsHeader l)
unfolding header_line
header_reads = record {
  takes = λ n l u e. header_words_read.takes n l u (lift_ok (as_header n) (header_words n l) u e);
  again = λ n l u h. rw (header_words_read.again n l u h) refl;
}

pub sizes_reads : ReadsLine sizes_line (λ l s. IsSizes l s.0 s.1)
unfolding sizes_line
sizes_reads = record {
  takes = λ n l s e.
      let a = bind_ok (word_token (codes "grading") (rest_of_line n l)) _ s e in
      let k = bind_ok (integer_token (pos 1) (pos 6) a.0) _ s a.2 in
      let r = bind_ok (integer_token (pos 1) (pos 16) k.0.1) _ s k.2 in
      let z = bind_ok (no_token r.0.1) _ s r.2 in
      let p = ok_is (unsigned_abs k.0.0, unsigned_abs r.0.0) s z.2 in
      let ta = word_takes _ _ _ a.1 in
      let tk = integer_takes _ _ _ _ _ k.1 in
      let tr = integer_takes _ _ _ _ _ r.1 in
      let tz = none_takes _ z.1 in
      let is : words l ≡ codes "grading" ∷ tk.0.text ∷ tr.0.text ∷ [] =
      ap texts (ta.1 ∙ ap (λ ts. ta.0 ∷ ts) (tk.1 ∙ ap (λ ts. tk.0 ∷ ts) (tr.1 ∙ ap (λ ts. tr.0 ∷ ts) tz))) ∙ ap (λ w. w ∷ tk.0.text ∷ tr.0.text ∷ []) ta.2 in
      subst (λ q. IsSizes l q.0 q.1) p (record {
        rank = tk.0.text;
        size = tr.0.text;
        is = is;
        rank_is = natural_is (pos 1) (pos 6) tk.0.text k.0.0 one_above tk.2;
        size_is = natural_is (pos 1) (pos 16) tr.0.text r.0.0 one_above tr.2;
      });
  again = λ n l s h.
      let rest = rest_of_line n l in
      let a = texts_cons _ _ _ h.is in
      let k = texts_cons _ _ _ a.4 in
      let r = texts_cons _ _ _ k.4 in
      let z = texts_nil _ r.4 in
      let rank = subst (λ t. IsInteger (pos 1) (pos 6) t (pos s.0)) (sym k.3) h.rank_is in
      let size = subst (λ t. IsInteger (pos 1) (pos 16) t (pos s.1)) (sym r.3) h.size_is in
      rw (word_again (codes "grading") rest a.0 a.1 a.2 a.3, integer_again _ _ (with_tokens rest a.1) k.0 k.1 (pos s.0) k.2 rank, integer_again _ _ (with_tokens rest k.1) r.0 r.1 (pos s.1) r.2 size, none_again (with_tokens rest r.1) z) refl;
}

pub row_reads : (r : ℕ) → ReadsLine (row_line r) (IsRow r)
unfolding row_line
row_reads r = record {
  takes = λ n l zs e.
      let a = bind_ok (as_input (times (integer_token (neg_ℤ (pos 1000)) (pos 1000)) r (rest_of_line n l))) _ zs e in
      let b = bind_ok (as_input (no_token a.0.1)) _ zs a.2 in
      let p = ok_is a.0.0 zs b.2 in
      let t = times_take _ _ _ (integers (neg_ℤ (pos 1000)) (pos 1000)) r (rest_of_line n l) a.0.1 a.0.0 (lift_ok form_bad _ _ a.1) in
      let all : (rest_of_line n l).tokens ≡ t.0 = t.1 ∙ ap (λ ts. t.0 ++ ts) (none_takes a.0.1 (lift_ok form_bad _ _ b.1)) ∙ append-nil t.0 in
      let entries : Together (IsInteger (neg_ℤ (pos 1000)) (pos 1000)) (words l) a.0.0 = subst (λ ts. Together (IsInteger (neg_ℤ (pos 1000)) (pos 1000)) (texts ts) a.0.0) (sym all) (together_texts _ t.0 a.0.0 t.2) in
      subst (λ q. IsRow r l q) p (record { entries = entries; size = t.3 });
  again = λ n l zs h.
      let rest = rest_of_line n l in
      let t = times_again _ _ _ (integers (neg_ℤ (pos 1000)) (pos 1000)) rest.tokens [] zs rest (sym (append-nil rest.tokens)) (together_tokens _ rest.tokens zs h.entries) in
      let read : times (integer_token (neg_ℤ (pos 1000)) (pos 1000)) r rest ≡ Ok (zs, t.0) = rw (← h.size) t.1 in
      rw (read, none_again t.0 t.2) refl;
}

pub ideal_reads : ReadsLine ideal_line IsIdeal
unfolding ideal_line
ideal_reads = record {
  takes = λ n l m e.
      let a = bind_ok (word_token (codes "ideal") (rest_of_line n l)) _ m e in
      let k = bind_ok (integer_token (pos 0) (pos 64) a.0) _ m a.2 in
      let z = bind_ok (no_token k.0.1) _ m k.2 in
      let p = ok_is (unsigned_abs k.0.0) m z.2 in
      let ta = word_takes _ _ _ a.1 in
      let tk = integer_takes _ _ _ _ _ k.1 in
      let tz = none_takes _ z.1 in
      let is : words l ≡ codes "ideal" ∷ tk.0.text ∷ [] = ap texts (ta.1 ∙ ap (λ ts. ta.0 ∷ ts) (tk.1 ∙ ap (λ ts. tk.0 ∷ ts) tz)) ∙ ap (λ w. w ∷ tk.0.text ∷ []) ta.2 in
      subst (λ q. IsIdeal l q) p (record { count = tk.0.text; is = is; count_is = natural_is (pos 0) (pos 64) tk.0.text k.0.0 zero_least tk.2 });
  again = λ n l m h.
      let rest = rest_of_line n l in
      let a = texts_cons _ _ _ h.is in
      let k = texts_cons _ _ _ a.4 in
      let z = texts_nil _ k.4 in
      let count = subst (λ t. IsInteger (pos 0) (pos 64) t (pos m)) (sym k.3) h.count_is in
      rw (word_again (codes "ideal") rest a.0 a.1 a.2 a.3, integer_again _ _ (with_tokens rest a.1) k.0 k.1 (pos m) k.2 count, none_again (with_tokens rest k.1) z) refl;
}

pub end_reads : ReadsLine end_line (λ l u. IsEnd l)
unfolding end_line
end_reads = record {
  takes = λ n l u e.
      let a = bind_ok (word_token (codes "end") (rest_of_line n l)) _ u e in
      let ta = word_takes _ _ _ a.1 in
      let tz = none_takes a.0 a.2 in
      ap texts (ta.1 ∙ ap (λ ts. ta.0 ∷ ts) tz) ∙ ap (λ w. w ∷ []) ta.2;
  again = λ n l u h.
      let rest = rest_of_line n l in
      let a = texts_cons _ _ _ h in
      let z = texts_nil _ a.4 in
      rw (word_again (codes "end") rest a.0 a.1 a.2 a.3) (none_again (with_tokens rest a.1) z);
}
