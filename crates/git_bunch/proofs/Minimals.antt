-- A full a-face is stable exactly where a minimal one lies within it.
use Rattle.std.proofs.Common.{◌≡◌, ◌⊎◌, ◌<◌, ◌≤◌, List, arith, bit_and, inl, inr, suc, zero, ℕ}
use Rattle.std.proofs.lemmas.Bool.{cases_lt}
use Rattle.std.specs.Prelude.{◌↔◌, Contains}
use Rattle.git_bits.proofs.Bits.{within_by_bits}
use Rattle.git_bits.specs.Bits.{IsWithin}
use Rattle.git_defs.proofs.Lengths.{all_of_length}
use Rattle.git_defs.specs.Vectors.{Vector}
use Rattle.git_grading.specs.Gradings.{IsGrading}
use Rattle.git_lemmas.proofs.Members.{all_member, contains_member, member_all}
use Rattle.git_machine.specs.Signatures.{Signature}
use Rattle.git_orbit.proofs.Settled.{Decided}
use Rattle.git_orbit.specs.Signatures.{IsHolding, cone_in}
use Rattle.git_bunch.specs.Stable.{Family, IsFamily, Minimal, Stable}
use Rattle.git_bunch.proofs.Numbered.{equal_or_not, face_over, has_number, some_or_none, stable_decided}
use Rattle.git_bunch.proofs.Within.{within_all, within_less}

module _ (F : Family) (g : IsGrading F.fan.k F.columns) (is : IsFamily F) (s : Signature) where
  -- a stable face within the mask, and another one
  record Smaller (mask m : ℕ) : Type 0 where
    stable : Stable F s m
    within : IsWithin m mask
    other : m ≡ mask → ⊥

  smaller_decided : (mask m : ℕ) → Decided (Smaller mask m)
  smaller_decided mask m = elim (stable_decided F g is s m) [
    | inr out ↦ inr (λ r. out r.stable)
    | inl stable ↦ elim (equal_or_not m mask) [
      | inl same ↦ inr (λ r. r.other same)
      | inr other ↦ by stable other
    ]
  ] where
    by : Stable F s m → (m ≡ mask → ⊥) → Decided (Smaller mask m)
    by stable other = elim (equal_or_not (bit_and m mask) m) [
      | inl within ↦ inl (record { stable = stable; within = within; other = other })
      | inr out ↦ inr (λ r. out r.within)
    ]

  minimal_or_less : (mask : ℕ) → Stable F s mask → Minimal F s mask ⊎ ((m : ℕ) × Smaller mask m)
  minimal_or_less mask stable = elim (some_or_none (Smaller mask) (smaller_decided mask) F.free) [
    | inl less ↦ inr (less.0, less.2)
    | inr none ↦ inl (record {
      stable = stable;
      alone = λ m h within. elim (equal_or_not m mask) [
        | inl same ↦ same
        | inr other ↦ absurd (none m (contains_member m F.free h.free) (record { stable = h; within = within; other = other }))
      ];
    })
  ]

  pub minimal_decided : (mask : ℕ) → Decided (Minimal F s mask)
  minimal_decided mask = elim (stable_decided F g is s mask) [
    | inr out ↦ inr (λ m. out m.stable)
    | inl stable ↦ elim (minimal_or_less mask stable) [ inl m ↦ inl m | inr less ↦ inr (λ m. less.1.other (m.alone less.0 less.1.stable less.1.within)) ]
  ]

  pub over_a_minimal : (mask : ℕ) → Stable F s mask → (m : ℕ) × Minimal F s m × IsWithin m mask
  over_a_minimal mask = from (suc mask) mask (omega arith) where
    from : (n mask : ℕ) → mask < n → Stable F s mask → (m : ℕ) × Minimal F s m × IsWithin m mask
    from zero mask low stable = absurd (omega (arith, low))
    from (suc n) mask low stable = elim (minimal_or_less mask stable) [
      | inl m ↦ (mask, m, (within_by_bits mask mask).1 (λ i h. h))
      | inr less ↦ (
          let below = within_less less.0 mask less.1.within in
          let r = from n less.0 (smaller less.0 mask n below less.1.other low) less.1.stable in
          (r.0, r.1, within_all r.0 less.0 mask r.2 less.1.within)
          )
    ] where
      smaller : (m mask n : ℕ) → m ≤ mask → (m ≡ mask → ⊥) → mask < suc n → m < n
      smaller m mask n below other low = elim (cases_lt m mask) [ inl l ↦ omega (arith, l, low) | inr up ↦ absurd (other (omega (arith, below, up))) ]

  -- what lies over a stable face is stable, for the cones that hold some vectors
  pub stable_over : (rays : List Vector) (mask m : ℕ) → IsHolding F.fan rays s → Contains F.free mask → Stable F s m → IsWithin m mask → Stable F s mask
  stable_over rays mask m holding free stable within =
      let k = F.fan.k in
      let n = has_number F g is mask free in
      let inside = ((holding.each stable.number).0 stable.has).1 in
      record {
        free = free;
        number = n.0;
        is = n.1;
        has = (holding.each n.0).1 (
          n.1.in_range,
          member_all (cone_in F.fan n.0) rays (λ v o.
              (n.1.cone v).1 (face_over k F.columns (all_of_length k F.columns g.matrix.lengths) m mask within v ((stable.is.cone v).0 (all_member (cone_in F.fan stable.number) v rays inside o)))),
        );
      }

  pub exactly_over : (rays : List Vector) (mask : ℕ) → IsHolding F.fan rays s → Contains F.free mask → Stable F s mask ↔ ((m : ℕ) × Minimal F s m × IsWithin m mask)
  exactly_over rays mask holding free = (over_a_minimal mask, λ r. stable_over rays mask r.0 holding free r.1.stable r.2)
