-- What is found: the good cells before a place, the first fault.
use Rattle.std.proofs.Common.{◌≡◌, ◌<◌, ◌∙◌, ◌++◌, ◌∷◌, [], List, Some, ap, arith, get_or, length, suc, sym, take, zero, ℕ}
use Rattle.std.specs.Prelude.{slice_get}
use Rattle.std.proofs.lemmas.List.{map-append}
use Rattle.std.proofs.Math.Seq.{take-suc}
use Rattle.git_lemmas.proofs.Options.{some_is}
use Rattle.git_machine.specs.declared.successors.Found.{Found}
use Rattle.git_chamber.specs.Views.{FanChamber}
use Rattle.git_chamber.specs.declared.cell.Cell.{Cell}
use Rattle.git_chamber.specs.declared.cell.Cell.TheVariants as cell
use Rattle.git_assemble.specs.Making.{IsGoodFound, good_cells, payloads_of}

-- one more
pub one_more : (found : List (Found Cell)) (i : ℕ) (d : Found Cell) (cs : List FanChamber) (c : FanChamber) → i < length found → payloads_of (take i found) ≡ good_cells cs
    → (get_or found i d).payload ≡ cell.Good c → payloads_of (take (suc i) found) ≡ good_cells (cs ++ c ∷ [])
one_more found i d cs c low front here =
    let split = ap payloads_of (take-suc found i d low) ∙ map-append (λ (f : Found Cell). f.payload) (take i found) (get_or found i d ∷ []) in
    split ∙ ap (λ (l : List Cell). l ++ (get_or found i d).payload ∷ []) front ∙ ap (λ (x : Cell). good_cells cs ++ x ∷ []) here ∙ sym (map-append (λ (x : FanChamber). cell.Good x) cs (c ∷ []))

heads : {X : Type 0} (x y : X) (xs ys : List X) → x ∷ xs ≡ y ∷ ys → x ≡ y
heads x y xs ys e = cc

tails : {X : Type 0} (x y : X) (xs ys : List X) → x ∷ xs ≡ y ∷ ys → xs ≡ ys
tails x y xs ys e = cc

-- all before the place are good
pub good_before : (found : List (Found Cell)) (i : ℕ) (cs : List FanChamber) → payloads_of (take i found) ≡ good_cells cs
    → (j : ℕ) (f : Found Cell) → j < i → slice_get found j ≡ Some f → IsGoodFound f
good_before [] i cs e j f low at = absurd cc
good_before (g ∷ found) zero cs e j f low at = absurd (omega arith)
good_before (g ∷ found) (suc i) [] e j f low at = absurd (omega (arith, ap length e))
good_before (g ∷ found) (suc i) (c ∷ cs) e zero f low at =
    (c, ap (λ (x : Found Cell). x.payload) (sym (some_is g f at)) ∙ heads g.payload (cell.Good c) (payloads_of (take i found)) (good_cells cs) e)
good_before (g ∷ found) (suc i) (c ∷ cs) e (suc j) f low at =
    good_before found i cs (tails g.payload (cell.Good c) (payloads_of (take i found)) (good_cells cs) e) j f (omega arith) at
