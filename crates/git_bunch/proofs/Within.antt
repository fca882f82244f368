-- Masks within masks, and how the least of a list are found.
use Rattle.std.proofs.Common.{◌≡◌, ◌⊎◌, ◌∙◌, ◌+◌, ◌<◌, ◌≤◌, ◌∷◌, [], ◌++◌, List, arith, get_or, inl, inr, length, refl, subst, sym, ℕ}
use Rattle.std.specs.Prelude.{◌↔◌, AllPairs, Contains}
use Rattle.std.proofs.lemmas.Bool.{cases_lt}
use Rattle.std.proofs.lemmas.List.{get_or_default}
use Rattle.std.proofs.lemmas.List.Elements.{Contains-append_cases, Contains-append_left, Contains-append_right}
use Rattle.std.proofs.lemmas.Nat.{and_le_r}
use Rattle.git_bits.specs.Bits.{IsWithin}
use Rattle.git_bits.proofs.Bits.{within_by_bits}
use Rattle.git_bunch.specs.Least.{AreLeast, AreLeastOf, IsLeast}
use Rattle.git_bunch.specs.Stable.{AreDescending}

pub within_all : (a b c : ℕ) → IsWithin a b → IsWithin b c → IsWithin a c
within_all a b c p q = (within_by_bits a c).1 (λ i h. (within_by_bits b c).0 q i ((within_by_bits a b).0 p i h))

pub within_less : (a b : ℕ) → IsWithin a b → a ≤ b
within_less a b p = subst (λ (n : ℕ). n ≤ b) p (and_le_r a b)

-- an element that is at a place or put at the end
here : (xs : List ℕ) (p : ℕ) → p < length xs → Contains xs (get_or xs p 0)
here xs p low = (p, low, get_or_default xs p (get_or xs p 0) 0 low)

pub last : (xs : List ℕ) (x : ℕ) → Contains (xs ++ x ∷ []) x
last xs x = Contains-append_right xs (x ∷ []) x (0, omega arith, refl)

pub last_or : (xs : List ℕ) (x m : ℕ) → Contains (xs ++ x ∷ []) m → Contains xs m ⊎ (x ≡ m)
last_or xs x m h = elim (Contains-append_cases xs (x ∷ []) m h) [
  | inl old ↦ inl old
  | inr new ↦ inr (one new.0 new.1 new.2)
] where
  one : (k : ℕ) → k < 1 → get_or (x ∷ []) k m ≡ m → x ≡ m
  one k low e = let z : k ≡ 0 = omega (arith, low) in subst (λ (n : ℕ). get_or (x ∷ []) n m ≡ m) z e

-- one of the kept masks is within m
abbrev pub IsCovered : List ℕ → ℕ → Type 0
IsCovered kept m = (n : ℕ) × Contains kept n × IsWithin n m

-- those of descending masks from place i on are done
pub record Sifting (xs : List ℕ) (i : ℕ) (kept : List ℕ) : Type 0 where
  pub sound : (m : ℕ) → Contains kept m → IsLeast (Contains xs) m
  pub covers : (p : ℕ) → i ≤ p → p < length xs → IsCovered kept (get_or xs p 0)

pub sifting_none : (xs : List ℕ) (i : ℕ) → length xs ≤ i → Sifting xs i []
sifting_none xs i end = record {
  sound = λ m h. absurd (let l = h.1 in omega (arith, l));
  covers = λ p low high. absurd (omega (arith, end, low, high));
}

pub sifting_covered : (xs : List ℕ) (i c : ℕ) (kept : List ℕ) → c ≡ i + 1 → IsCovered kept (get_or xs i 0) → Sifting xs c kept → Sifting xs i kept
sifting_covered xs i c kept e by s = record {
  sound = s.sound;
  covers = λ p low high. elim (cases_lt i p) [
    | inl above ↦ s.covers p (omega (arith, e, above)) high
    | inr below ↦ (let same : i ≡ p = omega (arith, low, below) in subst (λ (n : ℕ). IsCovered kept (get_or xs n 0)) same by)
  ];
}

module _ (xs : List ℕ) (i c : ℕ) (kept : List ℕ) (fall : AllPairs (λ (m n : ℕ). n < m) xs) (low : i < length xs) (e : c ≡ i + 1)
    (free : IsCovered kept (get_or xs i 0) → ⊥) (s : Sifting xs c kept) where
  alone_at : (p : ℕ) → p < length xs → IsWithin (get_or xs p 0) (get_or xs i 0) → get_or xs p 0 ≡ get_or xs i 0
  alone_at p high within = elim (cases_lt i p) [
    | inl above ↦ (let r = s.covers p (omega (arith, e, above)) high in absurd (free (r.0, r.1, within_all r.0 (get_or xs p 0) (get_or xs i 0) r.2 within)))
    | inr below ↦ elim (cases_lt p i) [
      | inl before ↦ absurd (let f = fall p i 0 before low in let l = within_less (get_or xs p 0) (get_or xs i 0) within in omega (arith, f, l))
      | inr after ↦ (let same : p ≡ i = omega (arith, below, after) in subst (λ (n : ℕ). get_or xs p 0 ≡ get_or xs n 0) same refl)
    ]
  ]

  least_here : IsLeast (Contains xs) (get_or xs i 0)
  least_here = record {
    holds = here xs i low;
    alone = λ m h within.
        let at : get_or xs h.0 0 ≡ m = get_or_default xs h.0 0 m h.1 ∙ h.2 in
        sym at ∙ alone_at h.0 h.1 (subst (λ (n : ℕ). IsWithin n (get_or xs i 0)) (sym at) within);
  }

  pub sifting_kept : Sifting xs i (kept ++ get_or xs i 0 ∷ [])
  sifting_kept = record {
    sound = λ m h. elim (last_or kept (get_or xs i 0) m h) [
      | inl old ↦ s.sound m old
      | inr new ↦ subst (IsLeast (Contains xs)) new least_here
    ];
    covers = λ p under high. elim (cases_lt i p) [
      | inl above ↦ (let r = s.covers p (omega (arith, e, above)) high in (r.0, Contains-append_left kept (get_or xs i 0 ∷ []) r.0 r.1, r.2))
      | inr below ↦ (let same : i ≡ p = omega (arith, under, below) in
          (get_or xs i 0, last kept (get_or xs i 0), subst (λ (n : ℕ). IsWithin (get_or xs i 0) (get_or xs n 0)) same (within_self (get_or xs i 0))))
    ];
  } where
    within_self : (m : ℕ) → IsWithin m m
    within_self m = (within_by_bits m m).1 (λ i h. h)

pub sifted_all : (xs kept : List ℕ) → Sifting xs 0 kept → AreLeast xs kept
sifted_all xs kept s = record {
  each = λ m. (
    s.sound m,
    λ l.
        let h = l.holds in
        let r = covered m h in
        let is = l.alone r.0 (s.sound r.0 r.1).holds r.2 in
        subst (Contains kept) is r.1,
  );
  covers = covered;
} where
  covered : (m : ℕ) → Contains xs m → IsCovered kept m
  covered m h = subst (IsCovered kept) (get_or_default xs h.0 0 m h.1 ∙ h.2) (s.covers h.0 (omega arith) h.1)

-- the same over lists with the same members, in order
pub least_along : (P Q : ℕ → Type 0) (m : ℕ) → ((n : ℕ) → P n ↔ Q n) → IsLeast P m → IsLeast Q m
least_along P Q m same l = record { holds = (same m).0 l.holds; alone = λ n h within. l.alone n ((same n).1 h) within }

pub least_falling : (given all kept out : List ℕ) → AreDescending (Contains given) all → AreLeast all kept → AreDescending (Contains kept) out → AreLeastOf given out
least_falling given all kept out a l o = record {
  are = record {
    descending = o.descending;
    each = λ m. (
      λ h. least_along (Contains all) (Contains given) m a.each ((l.each m).0 ((o.each m).0 h)),
      λ h. (o.each m).1 ((l.each m).1 (least_along (Contains given) (Contains all) m (λ n. ((a.each n).1, (a.each n).0)) h)),
    );
  };
  covers = λ m h. let r = l.covers m ((a.each m).1 h) in (r.0, (o.each r.0).1 r.1, r.2);
}
