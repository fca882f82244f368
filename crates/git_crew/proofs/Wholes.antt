-- What a crew found that ended quietly.
use Rattle.std.proofs.Common.{◌≡◌, false, ℕ, zero, suc, ◌<◌, ◌≤◌, List, [], ◌∷◌, length, get_or, slice_index, refl, sym, ◌∙◌, subst, arith}
use Rattle.std.specs.List.{All, AllPairs, Contains}
use Rattle.std.specs.List.Sorted.{IsPermutation}
use Rattle.std.specs.Ordering.{is_lt}
use Rattle.std.proofs.lemmas.List.{length-map}
use Rattle.std.proofs.lemmas.List.Sorted.{IsPermutation-map}
use Rattle.std.proofs.lemmas.List.Elements.{All-map, All-weaker, All-contains}
use mathlib.Core.Option.{some, some-injective, some-ne-none}
use lib.ListN.{get_elem?}
use native.Mathlib.Decide.{dec_lt}
use Rattle.git_machine.specs.declared.successors.Found.{Found}
use Rattle.git_machine.specs.Signatures.{Signature, signature_cmp}
use Rattle.git_machine.specs.Reach.{Reached, IsReach, ReachExceeds}
use Rattle.git_machine.proofs.Once.{once_again}
use Rattle.git_visits.specs.Lists.{times}
use Rattle.git_visits.proofs.Cuts.{times_pos}
use Rattle.git_table.specs.Views.{FrontierView, SeatView}
use Rattle.git_table.specs.Calls.{IsListing}
use Rattle.git_plain.specs.Closing.{InOrder, signatures_of}
use Rattle.git_plain.proofs.Ordered.{reach_permuted, sorted_signatures, strictly}
use Rattle.git_crew.specs.Members.{IsSound, IsKept}
use Rattle.git_crew.proofs.Counting.{same_length}

-- what stands at a place
read_at : {A : Type 0} (l : List A) (k : ℕ) (d x : A) → get_elem? l k ≡ some x → (k < length l) × (get_or l k d ≡ x)
read_at [] k d x e = absurd (some-ne-none x (sym e))
read_at (y ∷ ys) zero d x e = (omega arith, some-injective y x e)
read_at (y ∷ ys) (suc k) d x e = let r = read_at ys k d x e in let l = r.0 in (omega arith, r.1)

module _ {G P : Type 0} (next : G → Signature → List Signature → Type 0) (payload : G → Signature → P → Type 0) (f : FrontierView G) (s : SeatView G) (found : List (Found P)) (k : IsKept next payload f s found)
    (ids : List ℕ) (sigs : List Signature) (l : IsListing (next f.graph) f s ids sigs) where
  -- two places of one id are the same
  one_place : (i j id : ℕ) → get_elem? ids i ≡ some id → j < length ids → slice_index ids j ≡ id → i ≡ j
  one_place i j id at low is =
      let r = read_at ids i 0 id at in
      let a = r.0 in
      let b = r.1 in by a b (dec_lt i j) (dec_lt j i)
    where
      by : i < length ids → get_or ids i 0 ≡ id → Dec (i < j) → Dec (j < i) → i ≡ j
      by a b (yes less) _ = let t = l.ascending i j 0 less low in absurd (omega arith)
      by a b (no _) (yes less) = let t = l.ascending j i 0 less a in absurd (omega arith)
      by a b (no x) (no y) = omega arith

  module _ (places : s.places ≡ f.workers) (quiet : s.quiet ≡ 1) where
    -- each listed signature is found
    each_found : All (Contains (signatures_of found)) sigs
    each_found j d low =
        let long = l.long in
        let id : ℕ = slice_index ids j in
        let inside : j < length ids = omega arith in
        let here : 0 < times id s.finished = let t = times_pos id ids j inside refl in let e = l.finished places quiet id in omega arith in
        let w = k.whole id here in
        let at = l.seen id w.0 w.1 in
        let same : at.0 ≡ j = one_place at.0 j id at.1 inside refl in
        let read : get_or sigs j d ≡ w.0 = subst (λ (n : ℕ). get_or sigs n d ≡ w.0) same (read_at sigs at.0 d w.0 at.2).1 in
        subst (Contains (signatures_of found)) (sym read) w.2

    as_many : length (signatures_of found) ≡ length sigs
    as_many = length-map found (λ (h : Found P). h.sig) ∙ (k.long ∙ (same_length s.finished ids (l.finished places quiet) ∙ l.long))

    pub found_few : (cap : ℕ) → length sigs ≤ cap → length found ≤ cap
    found_few cap few = let a = as_many in let b = length-map found (λ (h : Found P). h.sig) in omega arith

    pub found_reach : IsReach (next f.graph) f.first (signatures_of found)
    found_reach =
        let r = l.reach quiet in record {
          sound = All-map (Reached (next f.graph) f.first) (λ (h : Found P). h.sig) found (All-weaker (IsSound next payload f) (λ (h : Found P). Reached (next f.graph) f.first h.sig) (λ h o. o.0) found k.sound);
          complete = λ y way. All-contains (Contains (signatures_of found)) sigs y each_found (r.complete y way);
          once = once_again sigs (signatures_of found) r.once each_found (let e = as_many in omega arith);
        }

  -- where more than the cap are listed, more are reached
  pub listed_exceeds : (cap : ℕ) → cap < length sigs → ReachExceeds (next f.graph) f.first cap
  listed_exceeds cap many = record { some = sigs; many = many; reached = l.sound; once = l.once }

-- what is found, sorted, is in order
pub found_sorted : {P : Type 0} (next : Signature → List Signature → Type 0) (first : Signature) (found sorted : List (Found P)) → IsPermutation found sorted → AllPairs (λ a b. is_lt (signature_cmp b.sig a.sig) ≡ false) sorted → IsReach next first (signatures_of found)
    → IsReach next first (signatures_of sorted) × InOrder (signatures_of sorted)
found_sorted {P} next first found sorted same up r =
    let moved = reach_permuted next first (signatures_of found) (signatures_of sorted) (IsPermutation-map (λ (h : Found P). h.sig) found sorted same) r in
    (moved, strictly (signatures_of sorted) (sorted_signatures sorted up) moved.once)
