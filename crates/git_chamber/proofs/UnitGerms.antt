-- Vectors with the unit vectors after them.
use Rattle.std.proofs.Common.{◌≡◌, ℕ, zero, suc, ◌+◌, ◌^◌, ◌<◌, ◌≤◌, List, [], ◌∷◌, ◌++◌, ap, append_assoc, length, take, set, get_or, refl, sym, ◌∙◌, subst, arith, Some}
use Rattle.std.proofs.lemmas.List.{take_more_set, take_more}
use Rattle.std.proofs.lemmas.List.Elements.{All-append}
use Rattle.std.specs.List.{All}
use Rattle.std.proofs.Math.IntN.{negsuc}
use Rattle.std.specs.Prelude.{slice_get}
use Rattle.git_defs.specs.Vectors.{Vector, AllOfLength, scale, units}
use Rattle.git_defs.proofs.Lengths.{of_length_all}
use Rattle.git_geometry.proofs.Units.{length-units, units_of_length}
use Rattle.git_canon.specs.Canons.{entries_of}
use Rattle.git_ints.specs.Padded.{AreWithin}
use Rattle.git_stages.specs.Short.{IsShort}
use Rattle.git_stages.proofs.Units.{units_short}
use Rattle.git_stages.proofs.Small.{negative_short}
use Rattle.git_chamber.proofs.RaySums.{within_more}

pub units_within : (k : ℕ) → All (AreWithin (2 ^ 80)) (units k)
units_within k i d h = within_more (2 ^ 40) (2 ^ 80) (get_or (units k) i d) (omega arith) (units_short k i d h).within

pub of_length_units : (k : ℕ) (front : List Vector) → AllOfLength k front → AllOfLength k (front ++ units k)
of_length_units k front all = All-append (λ (v : Vector). length v ≡ k) front (units k) all (of_length_all k (units k) (units_of_length k))

pub first_entries : (k : ℕ) (vs : List Vector) → 0 < length vs → AllOfLength k vs → AllOfLength (entries_of vs) vs
first_entries k [] some all = absurd (omega arith)
first_entries k (v ∷ vs) some all = subst (λ m. AllOfLength m (v ∷ vs)) (sym (all 0 v (omega arith))) all

got : (xs : List Vector) (i : ℕ) (x : Vector) → slice_get xs i ≡ Some x → get_or xs i x ≡ x
got [] i x e = refl
got (y ∷ xs) zero x e = cc e
got (y ∷ xs) (suc i) x e = got xs i x e

-- a unit vector is put behind those that stand
pub one_unit_more : (k : ℕ) (front all : List Vector) (i : ℕ) (u : Vector) → k ≤ 6 → length front ≤ 2 → length all ≡ 8 → i < k
    → take (length front + i) all ≡ front ++ take i (units k) → slice_get (units k) i ≡ Some u
    → take (length front + (i + 1)) (set all (length front + i) u) ≡ front ++ take (i + 1) (units k)
one_unit_more k front all i u six two long low before is =
    let n = length-units k in
    let at : length front + (i + 1) ≡ length front + i + 1 = omega arith in
    let more : take (i + 1) (units k) ≡ take i (units k) ++ u ∷ [] = take_more (units k) i u (omega (arith, n)) ∙ ap (λ (v : Vector). take i (units k) ++ v ∷ []) (got (units k) i u is) in
    ap (λ m. take m (set all (length front + i) u)) at ∙ take_more_set all (length front + i) u (omega arith)
    ∙ ap (λ (vs : List Vector). vs ++ u ∷ []) before ∙ append_assoc front (take i (units k)) (u ∷ []) ∙ ap (λ (vs : List Vector). front ++ vs) (sym more)

pub negative_within : (k : ℕ) (n m : Vector) → IsShort k n → m ≡ scale (negsuc 0) n → AreWithin (2 ^ 80) m
negative_within k n m short e = within_more (2 ^ 40) (2 ^ 80) m (omega arith) (subst (IsShort k) (sym e) (negative_short k n short)).within
