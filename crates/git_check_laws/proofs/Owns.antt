-- A chamber by itself has a first reason, or none.
use Rattle.std.proofs.Common.{ℕ, List, All, inl, inr, length, arith}
use Rattle.std.specs.Prelude.{Option, Some, None}
use Rattle.std.proofs.lemmas.Bool.{cases_lt}
use Rattle.git_lemmas.proofs.Members.{all_member}
use Rattle.git_defs.specs.Vectors.{AllOfLength, HasRank, Vector}
use Rattle.git_defs.proofs.Lengths.{of_length_all}
use Rattle.git_machine.specs.Signatures.{Has, Signature}
use Rattle.git_stages.specs.Short.{IsShort}
use Rattle.git_stages.proofs.Decided.{rank_exists, wide_decided}
use Rattle.git_orbit.specs.Orbits.{Fan, IsFan}
use Rattle.git_orbit.specs.Signatures.{IsHolding}
use Rattle.git_orbit.proofs.Existence.{a_holding}
use Rattle.git_orbit.proofs.Settled.{Decided}
use Rattle.git_listing.specs.Listings.{Chamber, normals_of}
use Rattle.git_chamber.specs.Chambers.{IsCell, IsNumbers}
use Rattle.git_chamber.specs.Views.{FanChamber}
use Rattle.git_chamber.specs.declared.cell.Cell.{Cell}
use Rattle.git_chamber.specs.declared.cell.Cell.TheVariants.{Good, Wide}
use Rattle.git_chamber.proofs.Existence.{cell_exists}
use Rattle.git_chamber.proofs.Facets.{walls_have, walls_rank}
use Rattle.git_chamber.proofs.Fulls.{rays_make_full}
use Rattle.git_chamber.proofs.Gatherings.{has_or_not, walls_exist}
use Rattle.git_asked.specs.declared.finding.Reason.{Reason}
use Rattle.git_asked.specs.declared.finding.Reason.TheVariants.{FacetSet, Mark, Rays, Weight, WideChamber}
use Rattle.git_check_chambers.specs.Families.{IsFirstReason}
use Rattle.git_check_chambers.specs.Judged.{AsksOwn, IsSizedChamber}
use Rattle.git_check_chambers.proofs.OwnReasons.{facets_differ, is_flat, is_wide, mark_differs, never_narrow, none_differs, none_holds, rank_tells, rays_differ, weight_differs}
use Rattle.git_check_laws.proofs.Decisions.{option_decided, place_decided, vector_decided, vectors_decided}

-- something is given
abbrev pub HasReason : (Reason → Type 0) → Type 0
HasReason asks = (o : Option Reason) × IsFirstReason asks o

pub all_long : (k : ℕ) (vs : List Vector) → All (IsShort k) vs → AllOfLength k vs
all_long k vs h = of_length_all k vs (record { each = λ v m. (all_member (IsShort k) v vs h m).entries })

rank_decided : (k : ℕ) (vs : List Vector) → All (IsShort k) vs → Decided (HasRank k vs)
rank_decided k vs h =
    let r = rank_exists k vs (all_long k vs h) in
    let tells = rank_tells k r.0 vs h r.1 in
    elim (cases_lt r.0 k) [
      | inl less ↦ inr (λ has. let le = tells.1 has in omega (arith, le, less))
      | inr le ↦ inl (tells.0 (omega (arith, le)))
    ]

module _ (fan : Fan) (is : IsFan fan.k fan.list) (c : Chamber) (sized : IsSizedChamber fan.k c) where
  held : (s : Signature) × IsHolding fan c.rays s
  held = a_holding fan c.rays (all_long fan.k c.rays sized.rays)

  module _ (s : Signature) (holds : IsHolding fan c.rays s) (m : (n : ℕ) × Has s n) where
    compared : HasRank fan.k c.rays → (own : FanChamber) → IsCell fan s (Good own) → HasReason (AsksOwn fan c)
    compared rank own cell = elim (vectors_decided c.rays own.rays) [
      | inr never ↦ (Some Rays, rays_differ fan c s holds m rank own cell never)
      | inl rays ↦ elim (vector_decided c.weight own.weight) [
        | inr never ↦ (Some Weight, weight_differs fan c s holds m rank own cell rays never)
        | inl weight ↦ elim (option_decided c.crossed own.crossed) [
          | inr never ↦ (Some Mark, mark_differs fan c s holds m rank own cell rays weight never)
          | inl mark ↦ elim (vectors_decided (normals_of c) own.facets) [
            | inr never ↦ (Some FacetSet, facets_differ fan c s holds m rank own cell rays weight mark never)
            | inl facets ↦ (None, none_differs fan c s holds m rank own cell rays weight mark facets)
          ]
        ]
      ]
    ]

    of_full : HasRank fan.k c.rays → (cell : Cell) → IsCell fan s cell → HasReason (AsksOwn fan c)
    of_full rank (Good own) cell = compared rank own cell
    of_full rank (Wide at) cell = (Some WideChamber, is_wide fan c s holds m (at, cell))

    of_flat : (HasRank fan.k c.rays → ⊥) → HasReason (AsksOwn fan c)
    of_flat flat =
        let numbers : IsNumbers fan s = record { width = holds.width; in_range = λ i h. ((holds.each i).0 h).0; member = m.0; has_member = m.1 } in
        let w = walls_exist fan s is numbers in
        elim (wide_decided fan.k w.0 (of_length_all fan.k w.0 (walls_have fan s is numbers w.0 w.1)) (walls_rank fan s is numbers w.0 w.1)) [
          | inl never ↦ (Some Rays, is_flat fan c s holds (never_narrow fan s w.0 w.1 never) flat)
          | inr wide ↦ (Some WideChamber, is_wide fan c s holds m (record { stage = wide.0; what = wide.1 }, record { walls = w.0; are = w.1; wide = wide.2 }))
        ]

    of_some : HasReason (AsksOwn fan c)
    of_some = elim (rank_decided fan.k c.rays sized.rays) [
      | inl rank ↦ (let cell = cell_exists fan s is (rays_make_full fan c.rays s m.0 rank holds m.1) in of_full rank cell.0 cell.1)
      | inr flat ↦ of_flat flat
    ]

  pub own_exists : HasReason (AsksOwn fan c)
  own_exists =
      let s = held in
      elim (place_decided (Has s.0) (length fan.list) (λ i low. has_or_not s.0 i)) [
        | inl m ↦ of_some s.0 s.1 (m.0, m.2)
        | inr none ↦ (Some Rays, none_holds fan c s.0 s.1 (λ m. none (m.0, ((s.1.each m.0).0 m.1).0, m.1)))
      ]
