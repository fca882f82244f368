-- How often numbers stand in lists.
use Rattle.std.proofs.Common.{◌≡◌, ℕ, ◌+◌, ◌<◌, List, [], ◌∷◌, ◌++◌, length, length-append, refl, ap, subst, arith, Some, Option, IfSome, option_to_list}
use Rattle.std.specs.List.{All}
use Rattle.std.proofs.lemmas.List.Elements.{All-pop}
use native.Mathlib.Decide.{ℕ_discrete}
use Rattle.git_visits.specs.Lists.{one, times}
use Rattle.git_visits.proofs.Cuts.{one_same, one_other}

pub times_append : (x : ℕ) (xs ys : List ℕ) → times x (xs ++ ys) ≡ times x xs + times x ys
times_append x [] ys = omega arith
times_append x (y ∷ xs) ys = let t = times_append x xs ys in omega arith

-- a list that has x is x and the rest, in some order
taken_out : (x : ℕ) (ys : List ℕ) → 0 < times x ys → (rest : List ℕ) × (length rest + 1 ≡ length ys) × ((q : ℕ) → one q x + times q rest ≡ times q ys)
taken_out x [] h = absurd (omega arith)
taken_out x (y ∷ ys) h = by (ℕ_discrete y x) (λ l. taken_out x ys l)
  where
    by : Dec (y ≡ x) → (0 < times x ys → (rest : List ℕ) × (length rest + 1 ≡ length ys) × ((q : ℕ) → one q x + times q rest ≡ times q ys)) → (rest : List ℕ) × (length rest + 1 ≡ length (y ∷ ys)) × ((q : ℕ) → one q x + times q rest ≡ times q (y ∷ ys))
    by (yes e) rec = (ys, omega arith, λ q. let t = ap (one q) e in omega arith)
    by (no n) rec =
        let t = one_other x y n in
        let r = rec (omega arith) in (y ∷ r.0, (let l = r.1 in omega arith), λ q. let m = r.2 q in omega arith)

-- lists in which each number stands as often are equally long
pub same_length : (xs ys : List ℕ) → ((q : ℕ) → times q xs ≡ times q ys) → length xs ≡ length ys
same_length [] [] h = refl
same_length [] (y ∷ ys) h = let a = h y in let b = one_same y y refl in absurd (omega arith)
same_length (x ∷ xs) ys h =
    let a = h x in
    let b = one_same x x refl in
    let r = taken_out x ys (omega arith) in
    let t = same_length xs r.0 (λ q. let c = h q in let d = r.2 q in omega arith) in let l = r.1 in omega arith

-- what is left where the last was taken off
pub popped : {M : Type 0} (P : M → Type 0) (xs ys : List M) (r : Option M) (m : M) → xs ≡ ys ++ option_to_list r → r ≡ Some m → All P xs → All P ys × P m × (length ys + 1 ≡ length xs)
popped {M} P xs ys r m e is h =
    let t = All-pop P xs ys r e h in
    let one = ap (λ (o : Option M). length (option_to_list o)) is in
    let both = ap (λ (l : List M). length l) e in (t.0, subst (λ (o : Option M). IfSome o P) is t.1, omega (arith, length-append ys (option_to_list r)))
