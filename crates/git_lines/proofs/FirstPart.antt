-- The first part of a text, from where it ends.
use Rattle.std.proofs.Common.{◌≡◌, ℕ, zero, suc, ◌+◌, ◌<◌, Bool, true, false, cond, List, [], ◌∷◌, length, get_or, take, drop, Option, Some, refl, ◌∙◌, ap, arith}
use Rattle.std.specs.Prelude.{IsTrue, ◌↔◌, not}
use Rattle.std.proofs.lemmas.List.{take_all}
use Rattle.git_lines.specs.Parts.{Part, grown_part, parts_by, parts_left}

pub step_end : (ends : ℕ → Bool) (separator : Option ℕ) (column b : ℕ) (bytes : List ℕ) → ends b ≡ true → parts_by ends separator column (b ∷ bytes) ≡ record { separator = separator; column = column; text = [] } ∷ parts_by ends (Some b) (column + 1) bytes
step_end ends separator column b bytes e = rw e refl

pub step_on : (ends : ℕ → Bool) (separator : Option ℕ) (column b : ℕ) (bytes : List ℕ) → ends b ≡ false → parts_by ends separator column (b ∷ bytes) ≡ grown_part column b (parts_by ends separator (column + 1) bytes)
step_on ends separator column b bytes e = rw e refl

-- the last part
pub only_part : (ends : ℕ → Bool) (separator : Option ℕ) (column : ℕ) (bytes : List ℕ) → ((i : ℕ) → i < length bytes → ends (get_or bytes i 0) ≡ false)
    → parts_by ends separator column bytes ≡ record { separator = separator; column = column; text = bytes } ∷ []
only_part ends separator column [] none = refl
only_part ends separator column (b ∷ bytes) none =
    step_on ends separator column b bytes (none 0 (omega arith)) ∙ ap (grown_part column b) (only_part ends separator (column + 1) bytes (λ i h. none (suc i) (omega arith)))

-- a part before a separator
pub part_then : (ends : ℕ → Bool) (separator : Option ℕ) (column n : ℕ) (bytes : List ℕ) → n < length bytes → ((i : ℕ) → i < n → ends (get_or bytes i 0) ≡ false) → ends (get_or bytes n 0) ≡ true
    → parts_by ends separator column bytes ≡ record { separator = separator; column = column; text = take n bytes } ∷ parts_by ends (Some (get_or bytes n 0)) (column + n + 1) (drop (n + 1) bytes)
part_then ends separator column n [] some none end = absurd (omega arith)
part_then ends separator column zero (b ∷ bytes) some none end = let at : column + 1 ≡ column + 0 + 1 = omega arith in
    step_end ends separator column b bytes end ∙ ap (λ (k : ℕ). record { separator = separator; column = column; text = [] } ∷ parts_by ends (Some b) k bytes) at
part_then ends separator column (suc n) (b ∷ bytes) some none end =
    let at : column + 1 + n + 1 ≡ column + suc n + 1 = omega arith in
    let more : n + 1 ≡ suc n = omega arith in
    let more' : suc n + 1 ≡ suc (suc n) = omega arith in
    step_on ends separator column b bytes (none 0 (omega arith))
    ∙ ap (grown_part column b) (part_then ends separator (column + 1) n bytes (omega arith) (λ i h. none (suc i) (omega arith)) end)
    ∙ (λ i. record { separator = separator; column = column; text = b ∷ take n bytes } ∷ parts_by ends (Some (get_or bytes n 0)) (at i) (drop (more i) bytes))
    ∙ (rw more' refl)

pub last_left : (more : Bool) (ends : ℕ → Bool) (separator : Option ℕ) (column n : ℕ) (bytes : List ℕ) → more ≡ true → n ≡ length bytes → ((i : ℕ) → i < n → ends (get_or bytes i 0) ≡ false)
    → parts_left more ends separator column bytes ≡ record { separator = separator; column = column; text = take n bytes } ∷ []
last_left more ends separator column n bytes m e none =
    let all : take n bytes ≡ bytes = take_all n bytes (omega arith) in
    rw (m, all) (only_part ends separator column bytes (λ i h. none i (omega arith)))

pub next_left : (more : Bool) (ends : ℕ → Bool) (separator : Option ℕ) (column n : ℕ) (bytes rest : List ℕ) → more ≡ true → n < length bytes → ((i : ℕ) → i < n → ends (get_or bytes i 0) ≡ false) → ends (get_or bytes n 0) ≡ true
    → rest ≡ drop (n + 1) bytes
    → parts_left more ends separator column bytes ≡ record { separator = separator; column = column; text = take n bytes } ∷ parts_left more ends (Some (get_or bytes n 0)) (column + (n + 1)) rest
next_left more ends separator column n bytes rest m lt none end r =
    let at : column + n + 1 ≡ column + (n + 1) = omega arith in
    rw (m, r, ← at) (part_then ends separator column n bytes lt none end)

some_after : (ends : ℕ → Bool) (separator : Option ℕ) (column b : ℕ) (bytes : List ℕ) → (q : Part) × (qs : List Part) × (parts_by ends separator (column + 1) bytes ≡ q ∷ qs)
    → (test : Bool) → (p : Part) × (ps : List Part) × (cond test (record { separator = separator; column = column; text = [] } ∷ parts_by ends (Some b) (column + 1) bytes) (grown_part column b (parts_by ends separator (column + 1) bytes)) ≡ p ∷ ps)
some_after ends separator column b bytes (q, qs, e) true = (_, _, refl)
some_after ends separator column b bytes (q, qs, e) false = (_, _, ap (grown_part column b) e)

-- there is a part
pub some_part : (ends : ℕ → Bool) (separator : Option ℕ) (column : ℕ) (bytes : List ℕ) → (p : Part) × (ps : List Part) × (parts_by ends separator column bytes ≡ p ∷ ps)
some_part ends separator column [] = (_, _, refl)
some_part ends separator column (b ∷ bytes) = some_after ends separator column b bytes (some_part ends separator (column + 1) bytes) (ends b)

-- none is left where there is no more
pub empty_is : (more : Bool) (ends : ℕ → Bool) (separator : Option ℕ) (column : ℕ) (bytes : List ℕ) (ps : List Part) → ps ≡ parts_left more ends separator column bytes → IsTrue (not more) ↔ (ps ≡ [])
empty_is true ends separator column bytes ps e = (λ h. absurd (cc h), λ n. let s = some_part ends separator column bytes in let some : ps ≡ s.0 ∷ s.1 = e ∙ s.2 in absurd (cc (some, n)))
empty_is false ends separator column bytes ps e = (λ h. e, λ n. refl)
