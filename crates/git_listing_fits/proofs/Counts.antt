-- A true listing has no more chambers than signatures are reached.
use Rattle.std.proofs.Common.{◌≡◌, ◌∙◌, ◌≤◌, ap, arith, inl, inr, length, subst, sym, ℕ}
use Rattle.std.specs.Prelude.{slice_get, Some}
use Rattle.std.specs.Cmp.Lexicographic.{slice_cmp}
use Rattle.std.specs.Ordering.{int_cmp, ordering_reverse}
use Rattle.std.specs.declared.cmp.Ordering.{Ordering}
use Rattle.std.specs.declared.cmp.Ordering.TheVariants.{Equal, Greater, Less}
use Rattle.std.proofs.lemmas.Bool.{cases_lt}
use Rattle.git_defs.specs.Cones.{AreRays}
use Rattle.git_geometry.proofs.Sorted.{rays_once}
use Rattle.git_machine.specs.Signatures.{Signature}
use Rattle.git_machine.specs.Reach.{IsOnce, ReachExceeds}
use Rattle.git_orbit.specs.Orbits.{Fan}
use Rattle.git_orbit.specs.Signatures.{InChamber}
use Rattle.git_listing.specs.Listings.{Chamber, Listing}
use Rattle.git_chamber.specs.Chambers.{IsNext}
use Rattle.git_chamber.specs.Listings.{IsListed, IsListing}
use Rattle.git_asked.proofs.Held.{lists_of_vectors}
use Rattle.git_asked.proofs.Places.{get_or_is, got, zipped_at, zipped_length}

not_self : (o : Ordering) → o ≡ ordering_reverse o → o ≡ Less → ⊥
not_self Less e f = cc e
not_self Equal e f = cc f
not_self Greater e f = cc f

module _ (fan : Fan) (first : Signature) (r : ℕ) (l : Listing) (li : IsListing fan first r l) where
  listed : (i : ℕ) (s : Signature) (c : Chamber) → slice_get li.sigs i ≡ Some s → slice_get l.chambers i ≡ Some c → IsListed fan li.sigs l.chambers s c
  listed i s c e f = zipped_at (IsListed fan li.sigs l.chambers) li.sigs l.chambers i s c li.each e f

  sigs_once : IsOnce li.sigs
  sigs_once i j d less low same =
      let size = zipped_length (IsListed fan li.sigs l.chambers) li.sigs l.chambers li.each in
      let s = got li.sigs i (omega (arith, less, low)) in
      let t = got li.sigs j low in
      let a = got l.chambers i (omega (arith, less, low, size)) in
      let b = got l.chambers j (omega (arith, low, size)) in
      let one : s.0 ≡ t.0 = sym (get_or_is li.sigs i s.0 d s.1) ∙ same ∙ get_or_is li.sigs j t.0 d t.1 in
      let x = (listed i s.0 a.0 s.1 a.1).chamber.rays_are in
      let y = subst (λ (u : Signature). AreRays fan.k (InChamber fan u) b.0.rays) (sym one) (listed j t.0 b.0 t.1 b.1).chamber.rays_are in
      let rays = rays_once fan.k (InChamber fan s.0) a.0.rays b.0.rays x y in
      let before = li.ordered i j a.0 less (omega (arith, low, size)) in
      let here = get_or_is l.chambers i a.0 a.0 a.1 in
      let later = get_or_is l.chambers j b.0 a.0 b.1 in
      let precede : slice_cmp (slice_cmp int_cmp) a.0.rays b.0.rays ≡ Less = (λ k. slice_cmp (slice_cmp int_cmp) (sym here k).rays (sym later k).rays) ∙ before in
      let itself : slice_cmp (slice_cmp int_cmp) a.0.rays a.0.rays ≡ Less = ap (slice_cmp (slice_cmp int_cmp) a.0.rays) rays ∙ precede in
      not_self (slice_cmp (slice_cmp int_cmp) a.0.rays a.0.rays) (lists_of_vectors.antisymm a.0.rays a.0.rays) itself

  pub few_chambers : (cap : ℕ) → (ReachExceeds (IsNext fan) first cap → ⊥) → length l.chambers ≤ cap
  few_chambers cap fits =
      let size = zipped_length (IsListed fan li.sigs l.chambers) li.sigs l.chambers li.each in
      elim (cases_lt cap (length li.sigs)) [
        | inl more ↦ absurd (fits (record { some = li.sigs; many = more; reached = li.sound; once = sigs_once }))
        | inr few ↦ omega (arith, few, size)
      ]
