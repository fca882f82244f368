-- What fails first of a facet, and of the head of a listing.
use Rattle.std.proofs.Common.{◌≡◌, ◌∙◌, ◌+◌, ◌<◌, ℕ, List, Bool, true, false, refl, sym, subst, arith, length}
use Rattle.std.specs.Prelude.{◌↔◌, Some, IsTrue, slice_get}
use Rattle.git_machine.specs.Signatures.{Signature}
use Rattle.git_orbit.specs.Orbits.{Fan}
use Rattle.git_orbit.specs.Signatures.{IsHolding, IsSignature}
use Rattle.git_orbit.proofs.Signatures.{one_holding, one_signature}
use Rattle.git_listing.specs.Listings.{Chamber, Facet, Listing, boundary, inner}
use Rattle.git_chamber.specs.Chambers.{IsInner, crossing}
use Rattle.git_chamber.specs.Listings.{IsMatched}
use Rattle.git_asked.specs.declared.finding.Reason.{Reason}
use Rattle.git_asked.specs.declared.finding.Reason.TheVariants.{Shape, VerdictMissing, CertRefused, Monomial, WideCone, ConeCount, Order, WideChamber, Rays, Weight, Mark, FacetSet, FacetKind, Neighbour, MatchKind, FirstMissing, NotReached}
use Rattle.git_asked.specs.Findings.{rank_of}
use Rattle.git_asked.specs.Asked.{AsksKind, AsksMatch, AsksNeighbour, IsFirstPlace, IsNumber, KindFits, LeadsTo, MatchFits}
use Rattle.git_asked.proofs.Places.{one_at, within}
use Rattle.git_check_chambers.specs.Families.{FailsAt}
use Rattle.git_check_chambers.specs.Judged.{AsksFacet, AsksHead}

-- two tests that hold alike are one
one_test : (a b : Bool) → (IsTrue a → IsTrue b) → (IsTrue b → IsTrue a) → a ≡ b
one_test true true f g = refl
one_test true false f g = sym (f refl)
one_test false true f g = g refl
one_test false false f g = refl

module _ (fan : Fan) (version : ℕ) (cs : List Chamber) (c : Chamber) (f : Facet) where
  below : (n : ℕ) → (12 < n → AsksKind fan c f) → (13 < n → AsksNeighbour fan cs c f) → (14 < n → version ≡ 2 → AsksMatch cs c f) → (q : Reason) → rank_of q < n → AsksFacet fan version cs c f q
  below n a b d Shape lt = tt
  below n a b d VerdictMissing lt = tt
  below n a b d CertRefused lt = tt
  below n a b d Monomial lt = tt
  below n a b d WideCone lt = tt
  below n a b d ConeCount lt = tt
  below n a b d Order lt = tt
  below n a b d WideChamber lt = tt
  below n a b d Rays lt = tt
  below n a b d Weight lt = tt
  below n a b d Mark lt = tt
  below n a b d FacetSet lt = tt
  below n a b d FacetKind lt = a lt
  below n a b d Neighbour lt = b lt
  below n a b d MatchKind lt = d lt
  below n a b d FirstMissing lt = tt
  below n a b d NotReached lt = tt

  pub all_asked : AsksKind fan c f → AsksNeighbour fan cs c f → (version ≡ 2 → AsksMatch cs c f) → (q : Reason) → AsksFacet fan version cs c f q
  all_asked a b d Shape = tt
  all_asked a b d VerdictMissing = tt
  all_asked a b d CertRefused = tt
  all_asked a b d Monomial = tt
  all_asked a b d WideCone = tt
  all_asked a b d ConeCount = tt
  all_asked a b d Order = tt
  all_asked a b d WideChamber = tt
  all_asked a b d Rays = tt
  all_asked a b d Weight = tt
  all_asked a b d Mark = tt
  all_asked a b d FacetSet = tt
  all_asked a b d FacetKind = a
  all_asked a b d Neighbour = b
  all_asked a b d MatchKind = d
  all_asked a b d FirstMissing = tt
  all_asked a b d NotReached = tt

  kind_fails : (AsksKind fan c f → ⊥) → FailsAt (AsksFacet fan version cs c f) FacetKind
  kind_fails never = record { fails = never; before = below 12 (λ lt. absurd (omega (arith, lt))) (λ lt. absurd (omega (arith, lt))) (λ lt. absurd (omega (arith, lt))) }

  neighbour_fails : AsksKind fan c f → (AsksNeighbour fan cs c f → ⊥) → FailsAt (AsksFacet fan version cs c f) Neighbour
  neighbour_fails k never = record { fails = never; before = below 13 (λ lt. k) (λ lt. absurd (omega (arith, lt))) (λ lt. absurd (omega (arith, lt))) }

  match_fails : AsksKind fan c f → AsksNeighbour fan cs c f → version ≡ 2 → (AsksMatch cs c f → ⊥) → FailsAt (AsksFacet fan version cs c f) MatchKind
  match_fails k b v never = record { fails = λ h. never (h v); before = below 14 (λ lt. k) (λ lt. b) (λ lt. absurd (omega (arith, lt))) }

  -- ---- printed boundary
  module _ (side : f.side ≡ boundary) where
    pub boundary_holds : (IsInner fan c.rays f.normal → ⊥) → (q : Reason) → AsksFacet fan version cs c f q
    boundary_holds never = all_asked (subst (KindFits fan c.rays f.normal) (sym side) never) (subst (LeadsTo fan cs c.rays f.normal) (sym side) tt) (λ v. subst (MatchFits cs c.rays f.normal) (sym side) tt)

    pub boundary_fails : IsInner fan c.rays f.normal → FailsAt (AsksFacet fan version cs c f) FacetKind
    boundary_fails is = kind_fails (λ k. subst (KindFits fan c.rays f.normal) side k is)

  -- ---- printed inner
  module _ (number : ℕ) (matched : Bool) (side : f.side ≡ inner number matched) where
    pub inner_fails : (IsInner fan c.rays f.normal → ⊥) → FailsAt (AsksFacet fan version cs c f) FacetKind
    inner_fails never = kind_fails (λ k. never (subst (KindFits fan c.rays f.normal) side k))

    module _ (is : IsInner fan c.rays f.normal) where
      kind : AsksKind fan c f
      kind = subst (KindFits fan c.rays f.normal) (sym side) is

      -- the number is that of no chamber
      pub no_number : ((place : ℕ) → number ≡ place + 1 → place < length cs → ⊥) → FailsAt (AsksFacet fan version cs c f) Neighbour
      no_number never = neighbour_fails kind (λ b. let l = subst (LeadsTo fan cs c.rays f.normal) side b in never l.1.place l.1.is (within cs l.1.place l.0 l.1.there))

      module _ (place : ℕ) (at : number ≡ place + 1) (d : Chamber) (there : slice_get cs place ≡ Some d) (s t : Signature)
          (holds : IsHolding fan d.rays s) (behind : IsSignature fan (crossing fan.k c.rays f.normal) t) where
        one_number : (e : Chamber) → IsNumber cs number e → d ≡ e
        one_number e n =
            let p : n.place ≡ place = (let a = n.is in omega (arith, a, at)) in
            one_at cs place d e there (subst (λ i. slice_get cs i ≡ Some e) p n.there)

        pub other_neighbour : (s ≡ t → ⊥) → FailsAt (AsksFacet fan version cs c f) Neighbour
        other_neighbour never = neighbour_fails kind (λ b.
            let l = subst (LeadsTo fan cs c.rays f.normal) side b in
            let h = subst (λ (e : Chamber). IsHolding fan e.rays s) (one_number l.0 l.1) holds in
            never (one_signature fan (crossing fan.k c.rays f.normal) s t (l.2 s h) behind))

        module _ (same : s ≡ t) where
          neighbour : AsksNeighbour fan cs c f
          neighbour = subst (LeadsTo fan cs c.rays f.normal) (sym side) (
            d,
            record { place = place; is = at; there = there },
            λ u h. subst (IsSignature fan (crossing fan.k c.rays f.normal)) (sym same ∙ one_holding fan d.rays s u holds h) behind,
          )

          pub no_match_asked : (version ≡ 2 → ⊥) → (q : Reason) → AsksFacet fan version cs c f q
          no_match_asked never = all_asked kind neighbour (λ v. absurd (never v))

          module _ (shared : Bool) (tells : IsTrue shared ↔ IsMatched f.normal c.rays d) where
            pub match_holds : shared ≡ matched → (q : Reason) → AsksFacet fan version cs c f q
            match_holds e = all_asked kind neighbour (λ v. subst (MatchFits cs c.rays f.normal) (sym side) (λ g n.
                subst (λ (x : Chamber). IsTrue matched ↔ IsMatched f.normal c.rays x) (one_number g n) (subst (λ (b : Bool). IsTrue b ↔ IsMatched f.normal c.rays d) e tells)))

            pub match_differs : version ≡ 2 → (shared ≡ matched → ⊥) → FailsAt (AsksFacet fan version cs c f) MatchKind
            match_differs v never = match_fails kind neighbour v (λ a.
                let m = subst (MatchFits cs c.rays f.normal) side a d (record { place = place; is = at; there = there }) in
                never (one_test shared matched (λ h. m.1 (tells.0 h)) (λ h. tells.1 (m.0 h))))

-- ---- the head
module _ (fan : Fan) (start : Signature) (r : ℕ) (l : Listing) (rows : l.k ≡ fan.k) (columns : l.r ≡ r) where
  pub count_fails : (l.cones ≡ length fan.list → ⊥) → FailsAt (AsksHead fan start r l) ConeCount
  count_fails never = record { fails = never; before = before_count } where
    before_count : (q : Reason) → rank_of q < 5 → AsksHead fan start r l q
    before_count Shape lt = (rows, columns)
    before_count VerdictMissing lt = tt
    before_count CertRefused lt = tt
    before_count Monomial lt = tt
    before_count WideCone lt = tt
    before_count ConeCount lt = absurd (omega (arith, lt))
    before_count Order lt = tt
    before_count WideChamber lt = tt
    before_count Rays lt = tt
    before_count Weight lt = tt
    before_count Mark lt = tt
    before_count FacetSet lt = tt
    before_count FacetKind lt = tt
    before_count Neighbour lt = tt
    before_count MatchKind lt = tt
    before_count FirstMissing lt = absurd (omega (arith, lt))
    before_count NotReached lt = tt

  pub start_fails : l.cones ≡ length fan.list → ((b : ℕ) × IsFirstPlace fan start l.chambers b → ⊥) → FailsAt (AsksHead fan start r l) FirstMissing
  start_fails count never = record { fails = never; before = before_start } where
    before_start : (q : Reason) → rank_of q < 15 → AsksHead fan start r l q
    before_start Shape lt = (rows, columns)
    before_start VerdictMissing lt = tt
    before_start CertRefused lt = tt
    before_start Monomial lt = tt
    before_start WideCone lt = tt
    before_start ConeCount lt = count
    before_start Order lt = tt
    before_start WideChamber lt = tt
    before_start Rays lt = tt
    before_start Weight lt = tt
    before_start Mark lt = tt
    before_start FacetSet lt = tt
    before_start FacetKind lt = tt
    before_start Neighbour lt = tt
    before_start MatchKind lt = tt
    before_start FirstMissing lt = absurd (omega (arith, lt))
    before_start NotReached lt = tt

  pub head_holds : l.cones ≡ length fan.list → (b : ℕ) × IsFirstPlace fan start l.chambers b → (q : Reason) → AsksHead fan start r l q
  head_holds count is Shape = (rows, columns)
  head_holds count is VerdictMissing = tt
  head_holds count is CertRefused = tt
  head_holds count is Monomial = tt
  head_holds count is WideCone = tt
  head_holds count is ConeCount = count
  head_holds count is Order = tt
  head_holds count is WideChamber = tt
  head_holds count is Rays = tt
  head_holds count is Weight = tt
  head_holds count is Mark = tt
  head_holds count is FacetSet = tt
  head_holds count is FacetKind = tt
  head_holds count is Neighbour = tt
  head_holds count is MatchKind = tt
  head_holds count is FirstMissing = is
  head_holds count is NotReached = tt
