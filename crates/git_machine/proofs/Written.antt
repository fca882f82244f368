-- Lists read after a write, by slice_get.
use Rattle.std.proofs.Common.{◌≡◌, ◌≢◌, inl, inr, ℕ, zero, suc, ◌<◌, List, [], ◌∷◌, ◌++◌, length, get_or, slice_get, Some, set, refl, sym, ap, ◌∙◌, arith}
use Rattle.std.specs.List.{Contains}
use Rattle.std.proofs.lemmas.Bool.{cases_eq}
use Rattle.std.proofs.lemmas.Option.{slice_get-get_or, slice_get_within, get_or_from_slice_get}
use Rattle.git_machine.specs.Machine.{put}
use Rattle.git_machine.proofs.Puts.{put_here, put_else}

module _ {A : Type 0} where
  -- one read with two values for what is past the end
  pub same_read : (xs : List A) (i : ℕ) (d e : A) → i < length xs → get_or xs i d ≡ get_or xs i e
  same_read xs i d e h = let a = slice_get-get_or xs i d h in let b = slice_get-get_or xs i e h in let t : Some (get_or xs i d) ≡ Some (get_or xs i e) = sym a ∙ b in cc

  push_here : (xs : List A) (x : A) → slice_get (xs ++ x ∷ []) (length xs) ≡ Some x
  push_here [] x = refl
  push_here (y ∷ ys) x = push_here ys x

  push_else : (xs : List A) (x : A) (i : ℕ) → i ≢ length xs → slice_get (xs ++ x ∷ []) i ≡ slice_get xs i
  push_else [] x zero apart = absurd (apart refl)
  push_else [] x (suc i) apart = refl
  push_else (y ∷ ys) x zero apart = refl
  push_else (y ∷ ys) x (suc i) apart = push_else ys x i (λ e. apart (ap suc e))

  -- a list with one more, as a function
  pub pushed : (xs : List A) (x : A) (i : ℕ) → slice_get (xs ++ x ∷ []) i ≡ put (slice_get xs) (length xs) (Some x) i
  pushed xs x i = elim (cases_eq i (length xs)) [
    | inl e ↦ ap (slice_get (xs ++ x ∷ [])) e ∙ (push_here xs x ∙ sym (put_here (slice_get xs) (length xs) i (Some x) e))
    | inr n ↦ push_else xs x i n ∙ sym (put_else (slice_get xs) (length xs) i (Some x) n)
  ]

  set_here : (xs : List A) (i : ℕ) (x : A) → i < length xs → slice_get (set xs i x) i ≡ Some x
  set_here [] i x within = absurd (omega arith)
  set_here (y ∷ ys) zero x within = refl
  set_here (y ∷ ys) (suc i) x within = set_here ys i x (omega arith)

  set_else : (xs : List A) (i : ℕ) (x : A) (j : ℕ) → j ≢ i → slice_get (set xs i x) j ≡ slice_get xs j
  set_else [] i x j apart = refl
  set_else (y ∷ ys) zero x zero apart = absurd (apart refl)
  set_else (y ∷ ys) zero x (suc j) apart = refl
  set_else (y ∷ ys) (suc i) x zero apart = refl
  set_else (y ∷ ys) (suc i) x (suc j) apart = set_else ys i x j (λ e. apart (ap suc e))

  -- a list with one member changed, as a function
  pub written : (xs : List A) (i : ℕ) (x : A) → i < length xs → (j : ℕ) → slice_get (set xs i x) j ≡ put (slice_get xs) i (Some x) j
  written xs i x within j = elim (cases_eq j i) [
    | inl e ↦ ap (slice_get (set xs i x)) e ∙ (set_here xs i x within ∙ sym (put_here (slice_get xs) i j (Some x) e))
    | inr n ↦ set_else xs i x j n ∙ sym (put_else (slice_get xs) i j (Some x) n)
  ]

  pub is_member : (xs : List A) (i : ℕ) (x : A) → slice_get xs i ≡ Some x → Contains xs x
  is_member xs i x is = (i, slice_get_within xs i x is, get_or_from_slice_get xs i x x is)

  pub member_at : (xs : List A) (x : A) → Contains xs x → (i : ℕ) × (slice_get xs i ≡ Some x)
  member_at xs x (i, within, is) = (i, slice_get-get_or xs i x within ∙ ap Some is)

-- a function of what is put
pub put_then : {A B : Type 0} (g : A → B) (f : ℕ → A) (k : ℕ) (v : A) (x : ℕ) → g (put f k v x) ≡ put (λ y. g (f y)) k (g v) x
put_then g f k v x = elim (cases_eq x k) [
  | inl e ↦ ap g (put_here f k x v e) ∙ sym (put_here (λ y. g (f y)) k x (g v) e)
  | inr n ↦ ap g (put_else f k x v n) ∙ sym (put_else (λ y. g (f y)) k x (g v) n)
]

-- a value that is there already
pub put_again : {A : Type 0} (f : ℕ → A) (k : ℕ) (v : A) (x : ℕ) → f k ≡ v → put f k v x ≡ f x
put_again f k v x is = elim (cases_eq x k) [ inl e ↦ put_here f k x v e ∙ sym (ap f e ∙ is) | inr n ↦ put_else f k x v n ]
