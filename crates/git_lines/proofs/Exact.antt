-- What a step of reading takes is what the grammar says, and the other way round.
use Rattle.std.proofs.Common.{◌≡◌, ℕ, zero, suc, ◌+◌, ◌-◌, Bool, true, false, cond, List, [], ◌∷◌, ◌++◌, length, map, take, ◌&&◌, Option, Some, None, Result, Ok, Err, refl, sym, ap, ◌∙◌, subst, arith}
use Rattle.std.specs.Prelude.{ℤ, int_le, ◌≤ℤ◌}
use Rattle.std.specs.Str.{bytes_eq}
use Rattle.std.proofs.lemmas.Slice.Eq.{bytes_eq-Decides}
use Rattle.std.proofs.lemmas.Bool.{and_parts, and_from}
use Rattle.std.proofs.lemmas.Int.{ints}
use Rattle.git_lines.specs.declared.fault.FormFault.{FormFault}
use Rattle.git_lines.specs.Lines.{RestOfText, NumberedLine, content, contents, without_last, is_ended}
use Rattle.git_lines.specs.Tokens.{Token, RestOfLine, taken_of, next_token, texts}
use Rattle.git_lines.specs.Numbers.{integer}
use Rattle.git_lines.specs.Reading.{◌>>=◌, lift, times, line_at, next_line, ended_line_at, next_ended_line, line_by, word_in, word_token, integer_within, integer_in, integer_token, nothing_in, no_token}
use Rattle.git_lines.specs.Grammar.{Together, IsInteger}
use Rattle.git_lemmas.proofs.Options.{some_is}

-- ---- a value out of steps that follow one another

pub bind_ok : {A B E : Type 0} (r : Result A E) (f : A → Result B E) (y : B) → (r >>= f) ≡ Ok y → (x : A) × (r ≡ Ok x) × (f x ≡ Ok y)
bind_ok (Ok x) f y e = (x, refl, e)
bind_ok (Err d) f y e = absurd (cc e)

pub lift_ok : {A D E : Type 0} (as_fault : D → E) (r : Result A D) (x : A) → lift as_fault r ≡ Ok x → r ≡ Ok x
lift_ok as_fault (Ok y) x e = let same : y ≡ x = cc e in ap (λ z. Ok z) same
lift_ok as_fault (Err d) x e = absurd (cc e)

abbrev done : {A E : Type 0} → A → Result A E
done x = Ok x

pub ok_is : {A E : Type 0} (x y : A) → done {E = E} x ≡ done y → x ≡ y
ok_is x y e = cc

pub guard_ok : {A E : Type 0} (b : Bool) (d : E) (x y : A) → cond b (done x) (Err d) ≡ done y → (b ≡ true) × (x ≡ y)
guard_ok true d x y e = (refl, cc)
guard_ok false d x y e = absurd (cc e)

-- ---- a step takes one item, and gives what the item stands for

pub record Steps {A S T E : Type 0} (step : S → Result (A × S) E) (items : S → List T) (P : T → A → Type 0) : Type 0 where
  pub takes : (s after : S) (a : A) → step s ≡ Ok (a, after) → (t : T) × (items s ≡ t ∷ items after) × P t a
  pub again : (s : S) (t : T) (ts : List T) (a : A) → items s ≡ t ∷ ts → P t a → (after : S) × (step s ≡ Ok (a, after)) × (items after ≡ ts)

pub times_take : {A S T E : Type 0} (step : S → Result (A × S) E) (items : S → List T) (P : T → A → Type 0) → Steps step items P
    → (n : ℕ) (s after : S) (made : List A) → times step n s ≡ Ok (made, after)
    → (front : List T) × (items s ≡ front ++ items after) × Together P front made × (length made ≡ n)
unfolding times
times_take step items P steps zero s after made e =
    let p = ok_is ([], s) (made, after) e in
    ([], ap (λ q. items q.1) p, subst (λ q. Together P [] q.0) p tt, sym (ap (λ q. length q.0) p))
times_take step items P steps (suc n) s after made e =
    let a = bind_ok (step s) (λ first. times step n first.1 >>= λ others. Ok (first.0 ∷ others.0, others.1)) (made, after) e in
    let b = bind_ok (times step n a.0.1) (λ others. Ok (a.0.0 ∷ others.0, others.1)) (made, after) a.2 in
    let one = steps.takes s a.0.1 a.0.0 a.1 in
    let more = times_take step items P steps n a.0.1 b.0.1 b.0.0 b.1 in
    let p = ok_is (a.0.0 ∷ b.0.0, b.0.1) (made, after) b.2 in
    let lines = one.1 ∙ ap (λ l. one.0 ∷ l) more.1 in
    (one.0 ∷ more.0, lines ∙ ap (λ q. (one.0 ∷ more.0) ++ items q.1) p, subst (λ q. Together P (one.0 ∷ more.0) q.0) p (one.2, more.2), sym (ap (λ q. length q.0) p) ∙ ap suc more.3)

pub times_again : {A S T E : Type 0} (step : S → Result (A × S) E) (items : S → List T) (P : T → A → Type 0) → Steps step items P
    → (front ts : List T) (made : List A) (s : S) → items s ≡ front ++ ts → Together P front made
    → (after : S) × (times step (length made) s ≡ Ok (made, after)) × (items after ≡ ts)
unfolding times
times_again step items P steps [] ts [] s e h = (s, refl, e)
times_again step items P steps [] ts (a ∷ made) s e h = absurd h
times_again step items P steps (t ∷ front) ts [] s e h = absurd h
times_again step items P steps (t ∷ front) ts (a ∷ made) s e h =
    let one = steps.again s t (front ++ ts) a e h.0 in
    let more = times_again step items P steps front ts made one.0 one.2 h.1 in
    (more.0, rw (one.1, more.1) refl, more.2)

-- ---- tokens

-- what is left after the first token
abbrev pub with_tokens : RestOfLine → List Token → RestOfLine
with_tokens rest ts = record { line = rest.line; past = rest.past; tokens = ts }

token_takes : (rest after : RestOfLine) (t : Token) (ts : List Token) → taken_of rest ts ≡ Some (t, after) → ts ≡ t ∷ after.tokens
token_takes rest after t [] e = absurd (cc e)
token_takes rest after t (u ∷ us) e =
    let p = some_is (u, with_tokens rest us) (t, after) e in ap (λ q. q.0 ∷ q.1.tokens) p

-- the next token is the first of the tokens
pub next_takes : (rest after : RestOfLine) (t : Token) → next_token rest ≡ Some (t, after) → rest.tokens ≡ t ∷ after.tokens
unfolding next_token
next_takes rest after t e = token_takes rest after t rest.tokens e

pub next_again : (rest : RestOfLine) (t : Token) (ts : List Token) → rest.tokens ≡ t ∷ ts → next_token rest ≡ Some (t, with_tokens rest ts)
unfolding next_token
next_again rest t ts e = rw e refl

word_found : (word : List ℕ) (rest after : RestOfLine) (o : Option (Token × RestOfLine)) → next_token rest ≡ o → word_in word rest o ≡ Ok after
    → (t : Token) × (rest.tokens ≡ t ∷ after.tokens) × (t.text ≡ word)
word_found word rest after None o e = absurd (cc e)
word_found word rest after (Some p) o e =
    let g = guard_ok (bytes_eq p.0.text word) _ p.1 after e in
    (p.0, next_takes rest p.1 p.0 o ∙ ap (λ r. p.0 ∷ r.tokens) g.1, (bytes_eq-Decides p.0.text word).0 g.0)

pub word_takes : (word : List ℕ) (rest after : RestOfLine) → word_token word rest ≡ Ok after → (t : Token) × (rest.tokens ≡ t ∷ after.tokens) × (t.text ≡ word)
unfolding word_token
word_takes word rest after e = word_found word rest after (next_token rest) refl e

pub word_again : (word : List ℕ) (rest : RestOfLine) (t : Token) (ts : List Token) → rest.tokens ≡ t ∷ ts → t.text ≡ word → word_token word rest ≡ Ok (with_tokens rest ts)
unfolding word_token
word_again word rest t ts e w = let same : bytes_eq t.text word ≡ true = (bytes_eq-Decides t.text word).1 w in rw (next_again rest t ts e, same) refl

none_found : (rest : RestOfLine) (o : Option (Token × RestOfLine)) → next_token rest ≡ o → nothing_in rest.line o ≡ Ok tt → next_token rest ≡ None
none_found rest None o e = o
none_found rest (Some p) o e = absurd (cc e)

pub empty_taken : (rest : RestOfLine) (ts : List Token) → taken_of rest ts ≡ None → ts ≡ []
empty_taken rest [] e = refl
empty_taken rest (t ∷ ts) e = absurd (cc e)

pub none_takes : (rest : RestOfLine) → no_token rest ≡ Ok tt → rest.tokens ≡ []
unfolding no_token next_token
none_takes rest e = empty_taken rest rest.tokens (none_found rest (next_token rest) refl e)

pub none_again : (rest : RestOfLine) → rest.tokens ≡ [] → no_token rest ≡ Ok tt
unfolding no_token next_token
none_again rest e = rw e refl

-- ---- integers

in_order : (a b : ℤ) → int_le a b ≡ true → a ≤ℤ b
in_order a b h = grind (arith, ints)

passes : (a b : ℤ) → a ≤ℤ b → int_le a b ≡ true
passes a b h = grind (arith, ints)

within_takes : (low high : ℤ) (line : ℕ) (p : Token × RestOfLine) (o : Option ℤ) (after : RestOfLine) (z : ℤ) → integer p.0.text ≡ o → integer_within low high line p o ≡ Ok (z, after)
    → (p.1 ≡ after) × IsInteger low high p.0.text z
within_takes low high line p None after z s e = absurd (cc e)
within_takes low high line p (Some y) after z s e =
    let g = guard_ok (int_le low y && int_le y high) _ (y, p.1) (z, after) e in
    let both = and_parts (int_le low y) (int_le y high) g.0 in
    let same : y ≡ z = ap (λ q. q.0) g.1 in
    (ap (λ q. q.1) g.1, subst (λ n. IsInteger low high p.0.text n) same (record { spelled = s; above = in_order low y both.0; below = in_order y high both.1 }))

integer_found : (low high : ℤ) (rest after : RestOfLine) (z : ℤ) (o : Option (Token × RestOfLine)) → next_token rest ≡ o → integer_in low high rest o ≡ Ok (z, after)
    → (t : Token) × (rest.tokens ≡ t ∷ after.tokens) × IsInteger low high t.text z
integer_found low high rest after z None o e = absurd (cc e)
integer_found low high rest after z (Some p) o e =
    let g = within_takes low high rest.line p (integer p.0.text) after z refl e in
    (p.0, next_takes rest p.1 p.0 o ∙ ap (λ r. p.0 ∷ r.tokens) g.0, g.1)

pub integer_takes : (low high : ℤ) (rest after : RestOfLine) (z : ℤ) → integer_token low high rest ≡ Ok (z, after) → (t : Token) × (rest.tokens ≡ t ∷ after.tokens) × IsInteger low high t.text z
unfolding integer_token
integer_takes low high rest after z e = integer_found low high rest after z (next_token rest) refl e

pub integer_again : (low high : ℤ) (rest : RestOfLine) (t : Token) (ts : List Token) (z : ℤ) → rest.tokens ≡ t ∷ ts → IsInteger low high t.text z
    → integer_token low high rest ≡ Ok (z, with_tokens rest ts)
unfolding integer_token
integer_again low high rest t ts z e i =
    let test : (int_le low z && int_le z high) ≡ true = and_from _ _ (passes low z i.above) (passes z high i.below) in
    rw (next_again rest t ts e, i.spelled, test) refl

pub integers : (low high : ℤ) → Steps (integer_token low high) (λ rest. rest.tokens) (λ t z. IsInteger low high t.text z)
integers low high = record {
  takes = λ s after a e. integer_takes low high s after a e;
  again = λ s t ts a e i. (with_tokens s ts, integer_again low high s t ts a e i, refl);
}

-- ---- tokens from their texts

pub texts_cons : (ts : List Token) (a : List ℕ) (rest : List (List ℕ)) → texts ts ≡ a ∷ rest → (t : Token) × (us : List Token) × (ts ≡ t ∷ us) × (t.text ≡ a) × (texts us ≡ rest)
texts_cons [] a rest e = absurd (cc e)
texts_cons (t ∷ us) a rest e = (t, us, refl, cc, cc)

pub texts_nil : (ts : List Token) → texts ts ≡ [] → ts ≡ []
texts_nil [] e = refl
texts_nil (t ∷ us) e = absurd (cc e)

pub together_texts : {A : Type 0} (P : List ℕ → A → Type 0) (ts : List Token) (made : List A) → Together (λ t a. P t.text a) ts made → Together P (texts ts) made
together_texts P [] [] h = tt
together_texts P [] (a ∷ made) h = absurd h
together_texts P (t ∷ ts) [] h = absurd h
together_texts P (t ∷ ts) (a ∷ made) h = (h.0, together_texts P ts made h.1)

pub together_tokens : {A : Type 0} (P : List ℕ → A → Type 0) (ts : List Token) (made : List A) → Together P (texts ts) made → Together (λ t a. P t.text a) ts made
together_tokens P [] [] h = tt
together_tokens P [] (a ∷ made) h = absurd h
together_tokens P (t ∷ ts) [] h = absurd h
together_tokens P (t ∷ ts) (a ∷ made) h = (h.0, together_tokens P ts made h.1)

-- ---- a line read whole

pub record ReadsLine {A E : Type 0} (read : ℕ → List ℕ → Result A E) (P : List ℕ → A → Type 0) : Type 0 where
  pub takes : (n : ℕ) (l : List ℕ) (a : A) → read n l ≡ Ok a → P l a
  pub again : (n : ℕ) (l : List ℕ) (a : A) → P l a → read n l ≡ Ok a

at_takes : (line : ℕ) (ls : List (List ℕ)) (l : NumberedLine) (after : RestOfText) → line_at line ls ≡ Ok (l, after) → map content ls ≡ l.text ∷ contents after
at_takes line [] l after e = absurd (cc e)
at_takes line (raw ∷ ls) l after e = let p = ok_is _ (l, after) e in ap (λ q. q.0.text ∷ contents q.1) p

at_again : (line : ℕ) (ls : List (List ℕ)) (t : List ℕ) (ts : List (List ℕ)) → map content ls ≡ t ∷ ts → (after : RestOfText) × (line_at line ls ≡ Ok (record { number = line; text = t }, after)) × (contents after ≡ ts)
at_again line [] t ts e = absurd (cc e)
at_again line (raw ∷ ls) t ts e =
    let head : content raw ≡ t = cc e in
    (record { line = line + 1; lines = ls }, ap (λ c. Ok (record { number = line; text = c }, record { line = line + 1; lines = ls })) head, cc e)

-- the line that is read next is the first of the lines that are left
pub record NextLine (next : RestOfText → Result (NumberedLine × RestOfText) FormFault) (lines : RestOfText → List (List ℕ)) : Type 0 where
  pub takes : (s after : RestOfText) (l : NumberedLine) → next s ≡ Ok (l, after) → lines s ≡ l.text ∷ lines after
  pub again : (s : RestOfText) (t : List ℕ) (ts : List (List ℕ)) → lines s ≡ t ∷ ts → (after : RestOfText) × (next s ≡ Ok (record { number = s.line; text = t }, after)) × (lines after ≡ ts)

pub line_steps : {A E : Type 0} (next : RestOfText → Result (NumberedLine × RestOfText) FormFault) (lines : RestOfText → List (List ℕ)) (as_fault : FormFault → E) (read : ℕ → List ℕ → Result A E) (P : List ℕ → A → Type 0)
    → NextLine next lines → ReadsLine read P → Steps (line_by next as_fault read) lines P
unfolding line_by
line_steps next lines as_fault read P first reads = record {
  takes = λ s after a e.
      let l = bind_ok (lift as_fault (next s)) (λ l. read l.0.number l.0.text >>= λ a. Ok (a, l.1)) (a, after) e in
      let r = bind_ok (read l.0.0.number l.0.0.text) (λ a. Ok (a, l.0.1)) (a, after) l.2 in
      let p = ok_is (r.0, l.0.1) (a, after) r.2 in
      let one = first.takes s l.0.1 l.0.0 (lift_ok as_fault _ _ l.1) in
      (l.0.0.text, one ∙ ap (λ q. l.0.0.text ∷ lines q.1) p, subst (λ q. P l.0.0.text q.0) p (reads.takes l.0.0.number l.0.0.text r.0 r.1));
  again = λ s t ts a e h.
      let one = first.again s t ts e in
      (one.0, rw (one.1, reads.again s.line t a h) refl, one.2);
}

pub lines_next : NextLine next_line contents
unfolding next_line
lines_next = record {
  takes = λ s after l e. at_takes s.line s.lines l after e;
  again = λ s t ts e. at_again s.line s.lines t ts e;
}

-- a line that has to end with its line feed
ended_takes : (line : ℕ) (ls : List (List ℕ)) (l : NumberedLine) (after : RestOfText) → ended_line_at line ls ≡ Ok (l, after)
    → (raw : List ℕ) × (ls ≡ raw ∷ after.lines) × (l.text ≡ without_last 10 raw) × (is_ended raw ≡ true)
ended_takes line [] l after e = absurd (cc e)
ended_takes line (raw ∷ ls) l after e =
    let g = guard_ok (is_ended raw) _ (record { number = line; text = without_last 10 raw }, record { line = line + 1; lines = ls }) (l, after) e in
    (raw, ap (λ q. raw ∷ q.1.lines) g.1, sym (ap (λ q. q.0.text) g.1), g.0)

pub ended_steps : {A E : Type 0} (as_fault : FormFault → E) (read : ℕ → List ℕ → Result A E) (P : List ℕ → A → Type 0)
    → ReadsLine read P → Steps (line_by next_ended_line as_fault read) (λ s. s.lines) (λ raw a. (is_ended raw ≡ true) × P (without_last 10 raw) a)
unfolding line_by next_ended_line
ended_steps as_fault read P reads = record {
  takes = λ s after a e.
      let l = bind_ok (lift as_fault (ended_line_at s.line s.lines)) (λ l. read l.0.number l.0.text >>= λ a. Ok (a, l.1)) (a, after) e in
      let r = bind_ok (read l.0.0.number l.0.0.text) (λ a. Ok (a, l.0.1)) (a, after) l.2 in
      let p = ok_is (r.0, l.0.1) (a, after) r.2 in
      let one = ended_takes s.line s.lines l.0.0 l.0.1 (lift_ok as_fault _ _ l.1) in
      (one.0, one.1 ∙ ap (λ q. one.0 ∷ q.1.lines) p, (one.3, subst (λ x. P x a) one.2 (subst (λ q. P l.0.0.text q.0) p (reads.takes l.0.0.number l.0.0.text r.0 r.1))));
  again = λ s t ts a e h.
      let front : without_last 10 t ≡ take (length t - 1) t = rw h.0 refl in
      let one : read s.line (take (length t - 1) t) ≡ Ok a = subst (λ x. read s.line x ≡ Ok a) front (reads.again s.line (without_last 10 t) a h.1) in
      (record { line = s.line + 1; lines = ts }, rw (e, h.0, one) refl, refl);
}
