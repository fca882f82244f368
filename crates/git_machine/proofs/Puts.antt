-- A function with one value changed, read there and elsewhere.
use Rattle.std.proofs.Common.{◌≡◌, ◌≢◌, ◌⊎◌, ℕ, sym, ◌∙◌, refl, inl, inr, eq-eqb, ne_eqb}
use Rattle.std.proofs.lemmas.Bool.{cases_eq}
use Rattle.git_machine.specs.Machine.{put}

module _ {A : Type 0} where
  pub put_here : (f : ℕ → A) (k x : ℕ) (v : A) → x ≡ k → put f k v x ≡ v
  put_here f k x v e = rw (eq-eqb x k e) refl

  pub put_else : (f : ℕ → A) (k x : ℕ) (v : A) → x ≢ k → put f k v x ≡ f x
  put_else f k x v n = rw (ne_eqb x k n) refl

  -- where the changed function has u, it is the new value or the old function has it
  pub at_put : (f : ℕ → A) (k x : ℕ) (v u : A) → put f k v x ≡ u → ((x ≡ k) × (v ≡ u)) ⊎ ((x ≢ k) × (f x ≡ u))
  at_put f k x v u e = elim (cases_eq x k) [ inl h ↦ inl (h, sym (put_here f k x v h) ∙ e) | inr n ↦ inr (n, sym (put_else f k x v n) ∙ e) ]
