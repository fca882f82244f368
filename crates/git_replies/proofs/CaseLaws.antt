-- Laws of cases in order.
use Rattle.std.proofs.Common.{◌≡◌, inl, inr, sym, ◌∙◌, subst}
use Rattle.git_replies.specs.Cases.{Passes, ◌otherwise◌, HasOne, HasSome, Settles, IsFirst}

module _ {X : Type 0} where
  pub one_of : (C D : X → Type 0) → HasOne C → (Passes C → HasOne D) → HasOne (C otherwise D)
  one_of C D c d x y (inl a) (inl b) = c x y a b
  one_of C D c d x y (inl a) (inr b) = absurd (b.0 x a)
  one_of C D c d x y (inr a) (inl b) = absurd (a.0 y b)
  one_of C D c d x y (inr a) (inr b) = d a.0 x y a.1 b.1

  pub some_of : (C D : X → Type 0) → Settles C → (Passes C → HasSome D) → HasSome (C otherwise D)
  some_of C D (inl c) d = (c.0, inl c.1)
  some_of C D (inr p) d = let h = d p in (h.0, inr (p, h.1))

  -- a case that passes leaves those after it
  pub later : (C D : X → Type 0) (x : X) → Passes C → (C otherwise D) x → D x
  later C D x p (inl c) = absurd (p x c)
  later C D x p (inr d) = d.1

  pub one_is : (z : X) → HasOne (λ (x : X). x ≡ z)
  one_is z x y a b = a ∙ sym b

module _ {K X : Type 0} (P : K → Type 0) (Q : K → X → Type 0) where
  pub one_by : HasOne P → ((k : K) → HasOne (Q k)) → HasOne (λ (x : X). (k : K) × P k × Q k x)
  one_by p q x y a b = q a.0 x y a.2 (subst (λ (k : K). Q k y) (p b.0 a.0 b.1 a.1) b.2)

  pub settles_by : Settles P → ((k : K) → P k → HasSome (Q k)) → Settles (λ (x : X). (k : K) × P k × Q k x)
  settles_by (inl h) q = let x = q h.0 h.1 in inl (x.0, (h.0, h.1, x.1))
  settles_by (inr p) q = inr (λ x h. p h.0 h.1)

pub one_first : {K : Type 0} (UpTo : K → K → Type 0) (P : K → Type 0) → ((j k : K) → UpTo j k → UpTo k j → j ≡ k) → HasOne (IsFirst UpTo P)
one_first UpTo P same j k a b = same j k (a.first k b.holds) (b.first j a.holds)
