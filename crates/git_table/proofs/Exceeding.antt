-- A full mark shows that more than cap are reached.
use Rattle.std.proofs.Common.{◌≡◌, ◌≢◌, ℕ, zero, suc, ◌+◌, ◌-◌, ◌<◌, ◌≤◌, List, [], ◌∷◌, map, length, refl, sym, ap, ◌∙◌, subst, arith, eq-eqb, ne_eqb}
use mathlib.Core.Option.{some, some-injective, some-ne-none}
use Rattle.std.proofs.lemmas.List.{length-map}
use mathlib.Core.Logic.{dite}
use lib.ListN.{get_elem?}
use native.Mathlib.Decide.{ℕ_discrete}
use Rattle.atomic_table.specs.Table.{State}
use Rattle.git_machine.specs.Signatures.{Signature}
use Rattle.git_machine.specs.Reach.{Reached}
use Rattle.git_visits.specs.declared.view.Known.{Known}
use Rattle.git_visits.specs.declared.view.Post.{Post}
use Rattle.git_visits.specs.declared.view.Post.TheVariants.{Held}
use Rattle.git_visits.specs.Lists.{one, times, filled}
use Rattle.git_visits.specs.Visits.{hashes_of, record_of, Published, drawn, Ruled}
use Rattle.git_table.specs.Listings.{named, Exceeds}
use Rattle.git_visits.proofs.Cuts.{length-cut, cut_at, one_same, one_suc, nonzero_is, nonzero_not, parts_le, part_le, times_found, below_le}

named_none : (y : ℕ) (ys : List ℕ) → y ≡ 0 → named (y ∷ ys) ≡ named ys
named_none y ys z = rw (eq-eqb y 0 z) refl

named_one : (y : ℕ) (ys : List ℕ) → y ≢ 0 → named (y ∷ ys) ≡ (y - 1) ∷ named ys
named_one y ys z = rw (ne_eqb y 0 z) refl

named_long : (ys : List ℕ) → length (named ys) ≡ filled ys
named_long [] = refl
named_long (y ∷ ys) = let t = named_long ys in dite (ℕ_discrete y 0)
    (λ (z : y ≡ 0). let e = ap (λ (l : List ℕ). length l) (named_none y ys z) in let n = nonzero_not y z in omega arith)
    (λ (z : y ≢ 0). let e = ap (λ (l : List ℕ). length l) (named_one y ys z) in let n = nonzero_is y z in omega arith)

named_times : (ys : List ℕ) (q : ℕ) → times q (named ys) ≡ times (q + 1) ys
named_times [] q = refl
named_times (y ∷ ys) q = let t = named_times ys q in dite (ℕ_discrete y 0)
    (λ (z : y ≡ 0). let e = ap (times q) (named_none y ys z) in let n = Rattle.git_visits.proofs.Cuts.one_other (q + 1) y (λ u. omega arith) in omega arith)
    (λ (z : y ≢ 0). let e = ap (times q) (named_one y ys z) in let s = one_suc q (y - 1) in let u : y - 1 + 1 ≡ y = omega arith in let w = ap (one (q + 1)) u in omega arith)

map_at : (f : ℕ → Signature) (l : List ℕ) (i : ℕ) (a : Signature) → get_elem? (map f l) i ≡ some a → (q : ℕ) × (get_elem? l i ≡ some q) × (f q ≡ a)
map_at f [] i a e = absurd (some-ne-none a (sym e))
map_at f (x ∷ xs) zero a e = (x, refl, some-injective (f x) a e)
map_at f (x ∷ xs) (suc i) a e = map_at f xs i a e

pub exceeds : {G : Type 0} (next : G → Signature → List Signature → Type 0) (s : State (Unit {0}) (Post G)) (seat : ℕ) (v : Known G) → get_elem? s.views seat ≡ some (Held v) → Ruled next v.key s → v.full ≡ 1 → Exceeds next v
exceeds {G} next s seat v at h full = (
  map (record_of v.key s.words) (named (hashes_of v.key s.words)),
  (let f = (h.each_seat seat (Held v) at).full_is full in let l = named_long (hashes_of v.key s.words) in let m = length-map (named (hashes_of v.key s.words)) (record_of v.key s.words) in omega arith),
  (λ i j a b e f same. let x = map_at (record_of v.key s.words) (named (hashes_of v.key s.words)) i a e in let y = map_at (record_of v.key s.words) (named (hashes_of v.key s.words)) j b f in
      once i j x.0 y.0 x.1 y.1 (h.shown.distinct x.0 y.0 (is_published i x.0 x.1) (is_published j y.0 y.1) (x.2 ∙ (same ∙ sym y.2))) (ℕ_discrete i j)),
  (λ i a e. let x = map_at (record_of v.key s.words) (named (hashes_of v.key s.words)) i a e in subst (Reached (next v.key.graph.value) v.key.first.value) x.2 (h.shown.reached x.0 (is_published i x.0 x.1))),
)
  where
    is_published : (i q : ℕ) → get_elem? (named (hashes_of v.key s.words)) i ≡ some q → Published v.key s.words q
    is_published i q e =
        let p : one q q ≤ times q (named (hashes_of v.key s.words)) = part_le (one q) (named (hashes_of v.key s.words)) i q e in
        let o = one_same q q refl in let t = named_times (hashes_of v.key s.words) q in
        let f = times_found (q + 1) (hashes_of v.key s.words) (omega arith) in
        let l : f.0 < v.key.hashes = omega (arith, length-cut s.words 1 v.key.hashes, f.1) in (f.0, (l, sym (cut_at s.words 1 v.key.hashes f.0 l) ∙ f.2))

    once : (i j q r : ℕ) → get_elem? (named (hashes_of v.key s.words)) i ≡ some q → get_elem? (named (hashes_of v.key s.words)) j ≡ some r → q ≡ r → Dec (i ≡ j) → i ≡ j
    once i j q r e f same (yes x) = x
    once i j q r e f same (no x) =
        let p : one q q + one q r ≤ times q (named (hashes_of v.key s.words)) = parts_le (one q) (named (hashes_of v.key s.words)) i j q r x e f in
        let a = one_same q q refl in let b = one_same q r (sym same) in let t = named_times (hashes_of v.key s.words) q in
        let o = h.tally.owned q in let le = below_le q (drawn v.key s.words) in absurd (omega arith)
