-- Lines of one kind: reading is the grammar.
use Rattle.std.proofs.Common.{◌≡◌, ℕ, suc, ◌+◌, Bool, true, false, cond, List, [], ◌∷◌, ◌++◌, length, Result, Ok, refl, ap, ◌∙◌, subst, arith}
use Rattle.std.specs.List.{AllByRecursion}
use Rattle.git_lines.specs.Lines.{RestOfText}
use Rattle.git_lines.specs.Reading.{◌>>=◌}
use Rattle.git_lines.specs.Many.{Stops, led, many}
use Rattle.git_lines.specs.Grammar.{Together}
use Rattle.git_lines.proofs.Exact.{bind_ok, ok_is, ReadsLine}

-- some lines that pass the test, what they stand for, and what is left
pub record TakesMany {A : Type 0} (kind : List ℕ → Bool) (P : List ℕ → A → Type 0) (ls : List (List ℕ)) (made : List A) (after : RestOfText) : Type 0 where
  pub front : List (List ℕ)
  pub lines : ls ≡ front ++ after.lines
  pub together : Together (λ l a. P l a) front made
  pub of_kind : AllByRecursion (λ l. kind l ≡ true) front
  pub stops : Stops kind after.lines

many_by : {A E : Type 0} (kind : List ℕ → Bool) (read : ℕ → List ℕ → Result A E) (P : List ℕ → A → Type 0) → ReadsLine read P
    → (line : ℕ) (l : List ℕ) (ls : List (List ℕ)) (made : List A) (after : RestOfText)
    → ((m : List A) (t : RestOfText) → many kind read (line + 1) ls ≡ Ok (m, t) → TakesMany kind P ls m t)
    → (test : Bool) → kind l ≡ test
    → cond test (read line l >>= λ a. many kind read (line + 1) ls >>= λ others. led a others) (Ok ([], record { line = line; lines = l ∷ ls })) ≡ Ok (made, after)
    → TakesMany kind P (l ∷ ls) made after
many_by kind read P reads line l ls made after more true is e =
    let a = bind_ok (read line l) _ (made, after) e in
    let o = bind_ok (many kind read (line + 1) ls) _ (made, after) a.2 in
    let p = ok_is (a.0 ∷ o.0.0, o.0.1) (made, after) o.2 in
    let rest = more o.0.0 o.0.1 o.1 in
    subst (λ q. TakesMany kind P (l ∷ ls) q.0 q.1) p (record { front = l ∷ rest.front; lines = ap (λ x. l ∷ x) rest.lines; together = (reads.takes line l a.0 a.1, rest.together); of_kind = (is, rest.of_kind); stops = rest.stops })
many_by kind read P reads line l ls made after more false is e =
    let p = ok_is ([], record { line = line; lines = l ∷ ls }) (made, after) e in
    subst (λ q. TakesMany kind P (l ∷ ls) q.0 q.1) p (record { front = []; lines = refl; together = tt; of_kind = tt; stops = is })

pub many_takes : {A E : Type 0} (kind : List ℕ → Bool) (read : ℕ → List ℕ → Result A E) (P : List ℕ → A → Type 0) → ReadsLine read P
    → (line : ℕ) (ls : List (List ℕ)) (made : List A) (after : RestOfText) → many kind read line ls ≡ Ok (made, after) → TakesMany kind P ls made after
unfolding many
many_takes kind read P reads line [] made after e =
    let p = ok_is ([], record { line = line; lines = [] }) (made, after) e in
    subst (λ q. TakesMany kind P [] q.0 q.1) p (record { front = []; lines = refl; together = tt; of_kind = tt; stops = tt })
many_takes kind read P reads line (l ∷ ls) made after e =
    many_by kind read P reads line l ls made after (λ m t h. many_takes kind read P reads (line + 1) ls m t h) (kind l) refl e

stop_here : {A E : Type 0} (kind : List ℕ → Bool) (read : ℕ → List ℕ → Result A E) (line : ℕ) (ls : List (List ℕ)) → Stops kind ls → many kind read line ls ≡ Ok ([], record { line = line; lines = ls })
unfolding many
stop_here kind read line [] h = refl
stop_here kind read line (l ∷ ls) h = rw h refl

pub many_again : {A E : Type 0} (kind : List ℕ → Bool) (read : ℕ → List ℕ → Result A E) (P : List ℕ → A → Type 0) → ReadsLine read P
    → (line : ℕ) (front rest : List (List ℕ)) (made : List A) → Together (λ l a. P l a) front made → AllByRecursion (λ l. kind l ≡ true) front → Stops kind rest
    → many kind read line (front ++ rest) ≡ Ok (made, record { line = line + length front; lines = rest })
unfolding many
many_again kind read P reads line [] rest [] h k s = let z : line ≡ line + 0 = omega arith in stop_here kind read line rest s ∙ ap (λ n. Ok ([], record { line = n; lines = rest })) z
many_again kind read P reads line [] rest (a ∷ made) h k s = absurd h
many_again kind read P reads line (l ∷ front) rest [] h k s = absurd h
many_again kind read P reads line (l ∷ front) rest (a ∷ made) h k s =
    let n : line + 1 + length front ≡ line + suc (length front) = omega arith in
    rw (k.0, reads.again line l a h.0, many_again kind read P reads (line + 1) front rest made h.1 k.1 s) (ap (λ m. Ok (a ∷ made, record { line = m; lines = rest })) n)
