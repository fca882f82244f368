-- One column more is drawn.
use Rattle.std.proofs.Common.{◌≡◌, ◌∙◌, ℕ, suc, ◌+◌, ◌*◌, List, [], ◌∷◌, ◌++◌, map, sym, ap, append_assoc, arith}
use Rattle.std.specs.Prelude.{pos}
use Rattle.std.specs.List.{range_with_len}
use Rattle.std.proofs.lemmas.List.FromFn.{map-range_with_len_more}
use Rattle.git_defs.specs.Vectors.{Vector}
use Rattle.git_make.specs.Samples.{next_state, state, drawn, drawn_column}

first_state : (seed n x y : ℕ) → x ≡ state seed (n * 2) → y ≡ next_state x → y ≡ state seed (n * 2 + 1)
first_state seed n x y e f = f ∙ ap next_state e ∙ ap (state seed) (let k : suc (n * 2) ≡ n * 2 + 1 = omega arith in k)

second_state : (seed n y z : ℕ) → y ≡ state seed (n * 2 + 1) → z ≡ next_state y → z ≡ state seed (n * 2 + 2)
second_state seed n y z e f = f ∙ ap next_state e ∙ ap (state seed) (let k : suc (n * 2 + 1) ≡ n * 2 + 2 = omega arith in k)

pub state_kept : (seed n x y z : ℕ) → x ≡ state seed (n * 2) → y ≡ next_state x → z ≡ next_state y → z ≡ state seed ((n + 1) * 2)
state_kept seed n x y z e f g = second_state seed n y z (first_state seed n x y e f) g ∙ ap (state seed) (let k : n * 2 + 2 ≡ (n + 1) * 2 = omega arith in k)

column_is : (seed n x y z : ℕ) (v : Vector) → x ≡ state seed (n * 2) → y ≡ next_state x → z ≡ next_state y → v ≡ pos 1 ∷ pos (drawn y) ∷ pos (drawn z) ∷ [] → v ≡ drawn_column seed n
column_is seed n x y z v e f g is =
    let first = first_state seed n x y e f in let second = second_state seed n y z first g in
    is ∙ (λ i. pos 1 ∷ pos (drawn (first i)) ∷ pos (drawn (second i)) ∷ [])

pub columns_kept : (seed n x y z : ℕ) (old now next : List Vector) (v : Vector) → x ≡ state seed (n * 2) → y ≡ next_state x → z ≡ next_state y → v ≡ pos 1 ∷ pos (drawn y) ∷ pos (drawn z) ∷ []
    → now ≡ old ++ map (drawn_column seed) (range_with_len 0 n) → next ≡ now ++ (v ∷ []) → next ≡ old ++ map (drawn_column seed) (range_with_len 0 (n + 1))
columns_kept seed n x y z old now next v e f g is before after =
    after ∙ (λ i. before i ++ (column_is seed n x y z v e f g is i ∷ [])) ∙ append_assoc old (map (drawn_column seed) (range_with_len 0 n)) (drawn_column seed n ∷ [])
    ∙ ap (λ (l : List Vector). old ++ l) (sym (map-range_with_len_more (drawn_column seed) 0 n n (let k : 0 + n ≡ n = omega arith in k)))
