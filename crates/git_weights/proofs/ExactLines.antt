-- What reading takes of a line is what the grammar says.
use Rattle.std.proofs.Common.{◌≡◌, ℕ, List, [], ◌∷◌, ◌++◌, Ok, refl, sym, ap, ◌∙◌, subst, arith}
use Rattle.std.specs.Prelude.{ℤ, pos, ◌≤ℤ◌, codes, unsigned_abs}
use Rattle.std.proofs.lemmas.Int.{ints}
use Rattle.std.proofs.lemmas.List.{append-nil}
use Rattle.git_lines.specs.Tokens.{rest_of_line, texts, words}
use Rattle.git_lines.specs.Reading.{word_token, integer_token, no_token}
use Rattle.git_lines.specs.Grammar.{Together, IsInteger}
use Rattle.git_lines.proofs.Exact.{bind_ok, ok_is, with_tokens, word_takes, word_again, none_takes, none_again, integer_takes, integer_again, integers, times_take, times_again, texts_cons, texts_nil, together_texts, together_tokens, ReadsLine}
use Rattle.git_weights.specs.Grammar.{IsCount, IsWeight}
use Rattle.git_weights.specs.Reading.{count_line, entries_at, weight_line}
use Rattle.git_weights.specs.declared.limits.TheConstants.{WEIGHTS, ENTRY_LOW, ENTRY_HIGH}

abs_pos : (z : ℤ) → pos 1 ≤ℤ z → pos (unsigned_abs z) ≡ z
abs_pos z h = grind (arith, ints)

natural_is : (high : ℤ) (token : List ℕ) (z : ℤ) → IsInteger (pos 1) high token z → IsInteger (pos 1) high token (pos (unsigned_abs z))
natural_is high token z i = subst (λ y. IsInteger (pos 1) high token y) (sym (abs_pos z i.above)) i

pub count_reads : ReadsLine count_line IsCount
unfolding count_line
count_reads = record {
  takes = λ n l w e.
      let a = bind_ok (word_token (codes "weights") (rest_of_line n l)) _ w e in
      let k = bind_ok (integer_token (pos 1) (pos WEIGHTS) a.0) _ w a.2 in
      let z = bind_ok (no_token k.0.1) _ w k.2 in
      let p = ok_is (unsigned_abs k.0.0) w z.2 in
      let ta = word_takes _ _ _ a.1 in
      let tk = integer_takes _ _ _ _ _ k.1 in
      let tz = none_takes _ z.1 in
      let is : words l ≡ codes "weights" ∷ tk.0.text ∷ [] = ap texts (ta.1 ∙ ap (λ ts. ta.0 ∷ ts) (tk.1 ∙ ap (λ ts. tk.0 ∷ ts) tz)) ∙ ap (λ w. w ∷ tk.0.text ∷ []) ta.2 in
      subst (λ q. IsCount l q) p (record { count = tk.0.text; is = is; count_is = natural_is (pos WEIGHTS) tk.0.text k.0.0 tk.2 });
  again = λ n l w h.
      let rest = rest_of_line n l in
      let a = texts_cons _ _ _ h.is in
      let k = texts_cons _ _ _ a.4 in
      let z = texts_nil _ k.4 in
      let count = subst (λ t. IsInteger (pos 1) (pos WEIGHTS) t (pos w)) (sym k.3) h.count_is in
      rw (word_again (codes "weights") rest a.0 a.1 a.2 a.3, integer_again _ _ (with_tokens rest a.1) k.0 k.1 (pos w) k.2 count, none_again (with_tokens rest k.1) z) refl;
}

pub weight_reads : (k : ℕ) → ReadsLine (weight_line k) (IsWeight k)
unfolding weight_line
weight_reads k = record {
  takes = λ n l zs e.
      let a = bind_ok (entries_at k (rest_of_line n l)) _ zs e in
      let b = bind_ok (no_token a.0.1) _ zs a.2 in
      let p = ok_is a.0.0 zs b.2 in
      let t = times_take _ _ _ (integers ENTRY_LOW ENTRY_HIGH) k (rest_of_line n l) a.0.1 a.0.0 a.1 in
      let all : (rest_of_line n l).tokens ≡ t.0 = t.1 ∙ ap (λ ts. t.0 ++ ts) (none_takes a.0.1 b.1) ∙ append-nil t.0 in
      let entries : Together (IsInteger ENTRY_LOW ENTRY_HIGH) (words l) a.0.0 = subst (λ ts. Together (IsInteger ENTRY_LOW ENTRY_HIGH) (texts ts) a.0.0) (sym all) (together_texts _ t.0 a.0.0 t.2) in
      subst (λ q. IsWeight k l q) p (record { entries = entries; size = t.3 });
  again = λ n l zs h.
      let rest = rest_of_line n l in
      let t = times_again _ _ _ (integers ENTRY_LOW ENTRY_HIGH) rest.tokens [] zs rest (sym (append-nil rest.tokens)) (together_tokens _ rest.tokens zs h.entries) in
      let read : entries_at k rest ≡ Ok (zs, t.0) = rw (← h.size) t.1 in
      rw (read, none_again t.0 t.2) refl;
}
