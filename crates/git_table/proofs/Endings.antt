-- What a frontier's end tells, in the words of its callers.
use Rattle.std.proofs.Common.{◌≡◌, ◌≢◌, ℕ, zero, suc, ◌<◌, List, [], ◌∷◌, map, length, slice_index_or, refl, sym, ◌∙◌, subst, arith}
use Rattle.std.specs.List.{All, AllPairs, Contains}
use Rattle.std.proofs.lemmas.List.{length-map}
use mathlib.Core.Option.{some, some-injective, some-ne-none}
use lib.ListN.{get_elem?}
use Rattle.atomic_table.proofs.Lists.{at_map}
use Rattle.atomic_table.specs.Seated.{TableId}
use Rattle.git_machine.specs.Signatures.{Signature}
use Rattle.git_machine.specs.Reach.{Reached, IsOnce, ReachExceeds}
use Rattle.git_visits.specs.declared.view.Known.{Known}
use Rattle.git_table.specs.Listings.{numbers_in, sigs_in, Listing, Exceeds}
use Rattle.git_table.specs.Views.{frontier_view, known_view}
use Rattle.git_table.specs.Calls.{IsListing}

or_at : {A : Type 0} (l : List A) (k : ℕ) (d : A) → k < length l → get_elem? l k ≡ some (slice_index_or l k d)
or_at [] k d h = absurd (omega arith)
or_at (x ∷ xs) zero d h = refl
or_at (x ∷ xs) (suc k) d h = or_at xs k d (omega arith)

row_at : {B : Type 0} (f : ℕ × Signature → B) (rs : List (ℕ × Signature)) (i : ℕ) (x : B) → get_elem? (map f rs) i ≡ some x → (a : ℕ × Signature) × (get_elem? rs i ≡ some a) × (f a ≡ x)
row_at f [] i x e = absurd (some-ne-none x (sym e))
row_at f (r ∷ rs) zero x e = (r, refl, some-injective (f r) x e)
row_at f (r ∷ rs) (suc i) x e = row_at f rs i x e

all_of : {A : Type 0} (P : A → Type 0) (l : List A) → ((i : ℕ) (a : A) → get_elem? l i ≡ some a → P a) → All P l
all_of P l h = λ k d m. h k (slice_index_or l k d) (or_at l k d m)

pairs_of : {A : Type 0} (R : A → A → Type 0) (l : List A) → ((i j : ℕ) (a b : A) → i < j → get_elem? l i ≡ some a → get_elem? l j ≡ some b → R a b) → AllPairs R l
pairs_of R l h = λ i j d m n. h i j (slice_index_or l i d) (slice_index_or l j d) m (or_at l i d (omega arith)) (or_at l j d n)

contains_of : {A : Type 0} (l : List A) (k : ℕ) (x : A) → get_elem? l k ≡ some x → Contains l x
contains_of [] k x e = absurd (some-ne-none x (sym e))
contains_of (y ∷ ys) zero x e = (0, omega arith, some-injective y x e)
contains_of (y ∷ ys) (suc k) x e = let c = contains_of ys k x e in let l = c.1 in (suc c.0, omega arith, c.2)

once_of : (l : List Signature) → ((i j : ℕ) (a b : Signature) → get_elem? l i ≡ some a → get_elem? l j ≡ some b → a ≡ b → i ≡ j) → IsOnce l
once_of l h = pairs_of (λ a b. a ≢ b) l (λ i j a b m e f same. let t = h i j a b e f same in absurd (omega arith))

module _ {G : Type 0} (next : G → Signature → List Signature → Type 0) (v : Known G) where
  sigs_once : (rs : List (ℕ × Signature)) → Listing next v rs → IsOnce (sigs_in rs)
  sigs_once rs l = once_of (sigs_in rs) (λ i j a b e f same. let x = row_at (λ (p : ℕ × Signature). p.1) rs i a e in let y = row_at (λ (p : ℕ × Signature). p.1) rs j b f in l.distinct i j x.0 y.0 x.1 y.1 (x.2 ∙ (same ∙ sym y.2)))

  sigs_sound : (rs : List (ℕ × Signature)) → Listing next v rs → All (Reached (next v.key.graph.value) v.key.first.value) (sigs_in rs)
  sigs_sound rs l = all_of (Reached (next v.key.graph.value) v.key.first.value) (sigs_in rs) (λ i a e. let x = row_at (λ (p : ℕ × Signature). p.1) rs i a e in subst (Reached (next v.key.graph.value) v.key.first.value) x.2 (l.reached i x.0 x.1))

  pub listing_is : (z : TableId) (rs : List (ℕ × Signature)) → Listing next v rs → IsListing (next v.key.graph.value) (frontier_view z v.key) (known_view z v) (numbers_in rs) (sigs_in rs)
  listing_is z rs l = record {
    long = length-map rs (λ (p : ℕ × Signature). p.0) ∙ sym (length-map rs (λ (p : ℕ × Signature). p.1));
    ascending = pairs_of (λ a b. a < b) (numbers_in rs) (λ i j a b m e f. let x = row_at (λ (p : ℕ × Signature). p.0) rs i a e in let y = row_at (λ (p : ℕ × Signature). p.0) rs j b f in
        subst (λ (n : ℕ). n < b) x.2 (subst (λ (n : ℕ). x.0.0 < n) y.2 (l.ascending i j x.0 y.0 m x.1 y.1)));
    once = sigs_once rs l;
    sound = sigs_sound rs l;
    seen = λ id x h. let t = l.seen id x h in (t.0, at_map (λ (p : ℕ × Signature). p.0) rs t.0 (id, x) t.1, at_map (λ (p : ℕ × Signature). p.1) rs t.0 (id, x) t.1);
    reach = λ quiet. record {
      sound = sigs_sound rs l;
      complete = λ x way. let t = l.whole quiet x way in contains_of (sigs_in rs) t.0 x (at_map (λ (p : ℕ × Signature). p.1) rs t.0 (t.1, x) t.2);
      once = sigs_once rs l;
    };
    finished = l.finished;
  }

  pub exceeds_is : Exceeds next v → ReachExceeds (next v.key.graph.value) v.key.first.value v.key.cap
  exceeds_is e = record {
    some = e.0;
    many = e.1;
    reached = all_of (Reached (next v.key.graph.value) v.key.first.value) e.0 e.3;
    once = once_of e.0 e.2;
  }
