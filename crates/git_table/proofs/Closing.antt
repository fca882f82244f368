-- What the words say at the end.
use Rattle.std.proofs.Common.{◌≡◌, ℕ, zero, suc, ◌+◌, ◌<◌, List, [], ◌∷◌, ◌++◌, length, slice_index, refl, sym, ap, ◌∙◌, arith, length-append}
use mathlib.Core.Option.{some, some-ne-none, some-injective}
use lib.ListN.{get_elem?}
use native.Mathlib.Decide.{dec_lt}

pub at_read : (l : List ℕ) (i x : ℕ) → get_elem? l i ≡ some x → slice_index l i ≡ x
at_read [] i x e = absurd (some-ne-none x (sym e))
at_read (y ∷ ys) zero x e = some-injective y x e
at_read (y ∷ ys) (suc i) x e = at_read ys i x e

pub snoc_at : (l : List ℕ) (x n : ℕ) → length l ≡ n → slice_index (l ++ x ∷ []) n ≡ x
snoc_at [] x zero e = refl
snoc_at [] x (suc n) e = absurd (omega arith)
snoc_at (y ∷ ys) x zero e = absurd (omega arith)
snoc_at (y ∷ ys) x (suc n) e = snoc_at ys x n (omega arith)

pub snoc_old : (l : List ℕ) (x j : ℕ) → j < length l → slice_index (l ++ x ∷ []) j ≡ slice_index l j
snoc_old [] x j h = absurd (omega arith)
snoc_old (y ∷ ys) x zero h = refl
snoc_old (y ∷ ys) x (suc j) h = snoc_old ys x j (omega arith)

pub read_more : (ws l : List ℕ) (start n x : ℕ) → length l ≡ n → ((j : ℕ) → j < n → slice_index l j ≡ slice_index ws (start + j)) → get_elem? ws (start + n) ≡ some x
    → (length (l ++ x ∷ []) ≡ n + 1) × ((j : ℕ) → j < n + 1 → slice_index (l ++ x ∷ []) j ≡ slice_index ws (start + j))
read_more ws l start n x long each is = (omega (arith, length-append l (x ∷ [])), λ j m. by j m (dec_lt j n))
  where
    by : (j : ℕ) → j < n + 1 → Dec (j < n) → slice_index (l ++ x ∷ []) j ≡ slice_index ws (start + j)
    by j m (yes a) = snoc_old l x j (omega arith) ∙ each j a
    by j m (no a) = let e : j ≡ n = omega arith in ap (λ (k : ℕ). slice_index (l ++ x ∷ []) k) e ∙ (snoc_at l x n long ∙ (sym (at_read ws (start + n) x is) ∙ ap (λ (k : ℕ). slice_index ws (start + k)) (sym e)))
