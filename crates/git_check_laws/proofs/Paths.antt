-- What is led to from a first place is decided, where each step is decided and begins below a bound.
use Rattle.std.proofs.Common.{◌≡◌, ◌∷◌, [], ◌<◌, ◌⊎◌, ℕ, zero, suc, inl, inr, List, refl, sym, subst, arith}
use Rattle.std.proofs.lemmas.Bool.{cases_lt}
use Rattle.git_orbit.proofs.Settled.{Decided}
use Rattle.git_asked.specs.Ways.{LedTo, Way}
use Rattle.git_check_laws.proofs.Decisions.{both_decided, nat_decided}

module _ (leads : ℕ → ℕ → Type 0) where
  -- no step, one, or more by places below a bound
  abbrev Through : ℕ → ℕ → ℕ → Type 0
  Through zero i j = (i ≡ j) ⊎ leads i j
  Through (suc k) i j = Through k i j ⊎ (Through k i k × Through k k j)

  lift : (k i j : ℕ) → (i ≡ j) ⊎ leads i j → Through k i j
  lift zero i j h = h
  lift (suc k) i j h = inl (lift k i j h)

  to_last : (k i : ℕ) → Through (suc k) i k → Through k i k
  to_last k i h = elim h [ inl a ↦ a | inr b ↦ b.0 ]

  from_last : (k j : ℕ) → Through (suc k) k j → Through k k j
  from_last k j h = elim h [ inl a ↦ a | inr b ↦ b.1 ]

  join : (k i m j : ℕ) → m < k → Through k i m → Through k m j → Through k i j
  join zero i m j low p q = absurd (omega (arith, low))
  join (suc k) i m j low p q = elim (cases_lt m k) [
    | inl below ↦ elim p [
      | inl a ↦ elim q [ inl c ↦ inl (join k i m j below a c) | inr d ↦ inr (join k i m k below a d.0, d.1) ]
      | inr b ↦ elim q [ inl c ↦ inr (b.0, join k k m j below b.1 c) | inr d ↦ inr (b.0, d.1) ]
    ]
    | inr at ↦ (
        let e : m ≡ k = omega (arith, low, at) in
        inr (to_last k i (subst (λ (n : ℕ). Through (suc k) i n) e p), from_last k j (subst (λ (n : ℕ). Through (suc k) n j) e q))
        )
  ]

  through : (n first : ℕ) → ((i j : ℕ) → leads i j → i < n) → (way : List ℕ) (s : ℕ) → Way leads first way s → Through n first s
  through n first low [] s w = lift n first s (inl (sym w))
  through n first low (r ∷ rs) s w = join n first r s (low r s w.0) (through n first low rs r w.1) (lift n r s (inr w.0))

  longer : (i m : ℕ) → LedTo leads i m → (way : List ℕ) (j : ℕ) → Way leads m way j → LedTo leads i j
  longer i m a [] j w = subst (λ (n : ℕ). LedTo leads i n) (sym w) a
  longer i m a (r ∷ rs) j w = let b = longer i m a rs r w.1 in (r ∷ b.0, (w.0, b.1))

  back : (k i j : ℕ) → Through k i j → LedTo leads i j
  back zero i j h = elim h [ inl e ↦ ([], sym e) | inr l ↦ (i ∷ [], (l, refl)) ]
  back (suc k) i j h = elim h [
    | inl a ↦ back k i j a
    | inr b ↦ (let w = back k k j b.1 in longer i k (back k i k b.0) w.0 j w.1)
  ]

  module _ (decide : (i j : ℕ) → Decided (leads i j)) where
    through_decided : (k i j : ℕ) → Decided (Through k i j)
    through_decided zero i j = elim (nat_decided i j) [
      | inl e ↦ inl (inl e)
      | inr never ↦ elim (decide i j) [
        | inl l ↦ inl (inr l)
        | inr out ↦ inr (λ h. elim h [ inl e ↦ never e | inr l ↦ out l ])
      ]
    ]
    through_decided (suc k) i j = elim (through_decided k i j) [
      | inl a ↦ inl (inl a)
      | inr never ↦ elim (both_decided (through_decided k i k) (through_decided k k j)) [
        | inl b ↦ inl (inr b)
        | inr out ↦ inr (λ h. elim h [ inl a ↦ never a | inr b ↦ out b ])
      ]
    ]

    pub led_decided : (n first s : ℕ) → ((i j : ℕ) → leads i j → i < n) → Decided (LedTo leads first s)
    led_decided n first s low = elim (through_decided n first s) [
      | inl h ↦ inl (back n first s h)
      | inr never ↦ inr (λ w. never (through n first low w.0 s w.1))
    ]
