-- Steps one after the other, as a loop makes them.
use Rattle.std.proofs.Common.{◌≡◌, ℕ, suc, ◌-◌, ◌+◌, ◌≤◌, ◌<◌, List, [], ◌∷◌, ◌++◌, Result, Ok, Err, refl, sym, ap, ◌∙◌, append_assoc, arith}
use Rattle.std.proofs.lemmas.List.{append-nil}
use Rattle.git_lines.specs.Reading.{◌>>=◌, times}

-- what was read before goes before what is still read
abbrev pub with_front : {A S E : Type 0} → List A → Result (List A × S) E → Result (List A × S) E
with_front front read = read >>= λ x. Ok (front ++ x.0, x.1)

pub starts : {A S E : Type 0} (read : Result (List A × S) E) → with_front [] read ≡ read
starts (Ok x) = refl
starts (Err f) = refl

regroup : {A S E : Type 0} (front : List A) (a : A) (read : Result (List A × S) E) → with_front front (read >>= λ x. Ok (a ∷ x.0, x.1)) ≡ with_front (front ++ a ∷ []) read
regroup front a (Ok x) = ap (λ l. Ok (l, x.1)) (simp append_assoc)
regroup front a (Err f) = refl

-- one step more was made
pub goes_on : {A S E : Type 0} (step : S → Result (A × S) E) (front : List A) (count i : ℕ) (s : S) (a : A) (after : S) (total : Result (List A × S) E)
    → i < count → step s ≡ Ok (a, after) → with_front front (times step (count - i) s) ≡ total
    → with_front (front ++ a ∷ []) (times step (count - (i + 1)) after) ≡ total
unfolding times
goes_on step front count i s a after total lt h so_far =
    let k : count - i ≡ suc (count - (i + 1)) = omega arith in
    let one : with_front front (times step (count - i) s) ≡ with_front (front ++ a ∷ []) (times step (count - (i + 1)) after) = rw (k, h) (regroup front a (times step (count - (i + 1)) after)) in
    sym one ∙ so_far

-- the next step has a fault
pub stops_at : {A S E : Type 0} (step : S → Result (A × S) E) (front : List A) (count i : ℕ) (s : S) (e : E) (total : Result (List A × S) E)
    → i < count → step s ≡ Err e → with_front front (times step (count - i) s) ≡ total → total ≡ Err e
unfolding times
stops_at step front count i s e total lt h so_far =
    let k : count - i ≡ suc (count - (i + 1)) = omega arith in
    let one : with_front front (times step (count - i) s) ≡ Err e = rw (k, h) refl in
    sym so_far ∙ one

-- all steps were made
pub is_done : {A S E : Type 0} (step : S → Result (A × S) E) (front : List A) (count i : ℕ) (s : S) (total : Result (List A × S) E)
    → count ≤ i → with_front front (times step (count - i) s) ≡ total → total ≡ Ok (front, s)
unfolding times
is_done step front count i s total le so_far =
    let k : count - i ≡ 0 = omega arith in
    let one : with_front front (times step (count - i) s) ≡ Ok (front, s) = rw k (ap (λ l. Ok (l, s)) (append-nil front)) in
    sym so_far ∙ one
