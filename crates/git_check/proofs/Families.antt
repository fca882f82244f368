-- The first finding of all that is asked, from those of its parts.
use Rattle.std.proofs.Common.{ℕ, ◌<◌, ◌≤◌, List, length, refl, sym, ◌∙◌, arith}
use Rattle.std.specs.Prelude.{Option, Some}
use Rattle.git_stages.specs.declared.wide.WideAt.{WideAt}
use Rattle.git_stages.proofs.Uniqueness.{wide_not_never}
use Rattle.git_defs.specs.Faces.{face}
use Rattle.git_machine.specs.Signatures.{Signature}
use Rattle.git_orbit.specs.Orbits.{Fan}
use Rattle.git_input.specs.Inputs.{InputValue}
use Rattle.git_listing.specs.Listings.{Listing}
use Rattle.git_certtext.specs.Blocks.{Block}
use Rattle.git_answers.specs.Fan.{IsOpening, IsWideFace}
use Rattle.git_answers.proofs.OneFan.{opening_along}
use Rattle.git_asked.specs.declared.finding.Reason.{Reason}
use Rattle.git_asked.specs.declared.finding.Reason.TheVariants.{Shape, VerdictMissing, CertRefused, Monomial, WideCone, ConeCount, Order, WideChamber, Rays, Weight, Mark, FacetSet, FacetKind, Neighbour, MatchKind, FirstMissing, NotReached}
use Rattle.git_asked.specs.declared.finding.Finding.{Finding}
use Rattle.git_asked.specs.Asks.{Asks}
use Rattle.git_asked.specs.Findings.{FailsFirst, Finds, rank_of}
use Rattle.git_asked.proofs.Joined.{finds_same}
use Rattle.git_check_faces.specs.Faces.{AsksFaces}
use Rattle.git_check.specs.Texts.{AllHold, AreNarrow, AsksListing, AsksText, IsOfSizes}

-- for the one fan and first signature that the input has
pub finds_asked : (v : InputValue) (l : Listing) (fan : Fan) (first : Signature) → IsOpening v fan first → (r : Reason) (line : ℕ) → Asks fan first (length v.degrees.columns) l r line → AsksListing v l r line
finds_asked v l fan first opening r line a other start there =
    opening_along v fan other first start (λ (f : Fan) (s : Signature). Asks f s (length v.degrees.columns) l r line) opening there a

pub finds_for_all : (v : InputValue) (l : Listing) (fan : Fan) (first : Signature) (o : Option Finding) → IsOpening v fan first → Finds (Asks fan first (length v.degrees.columns) l) o → Finds (AsksListing v l) o
finds_for_all v l fan first o opening h =
    finds_same (Asks fan first (length v.degrees.columns) l) (AsksListing v l) o
    (finds_asked v l fan first opening)
    (λ q line a. a fan first opening) h

module _ (v : InputValue) (l : Listing) (bs : List Block) where
  -- the sizes aren't right
  pub shape_fails : (IsOfSizes v l → ⊥) → Finds (AsksText v l bs) (Some (record { reason = Shape; line = 2 }))
  shape_fails never = record {
    fails = λ h. never (h refl);
    lines = λ n lt e. absurd (omega (arith, lt, e));
    reasons = λ q lt. absurd (omega (arith, lt));
  }

  module _ (sizes : IsOfSizes v l) where
    -- what is asked before a cone may be wide
    below : (n : ℕ) → n ≤ 4 → ((q : Reason) → rank_of q < n → (m : ℕ) → AsksFaces v bs q m) → (q : Reason) → rank_of q < n → (m : ℕ) → AsksText v l bs q m
    below n few h Shape lt m = λ e. sizes
    below n few h VerdictMissing lt m = h VerdictMissing lt m
    below n few h CertRefused lt m = h CertRefused lt m
    below n few h Monomial lt m = h Monomial lt m
    below n few h WideCone lt m = absurd (omega (arith, few, lt))
    below n few h ConeCount lt m = absurd (omega (arith, few, lt))
    below n few h Order lt m = absurd (omega (arith, few, lt))
    below n few h WideChamber lt m = absurd (omega (arith, few, lt))
    below n few h Rays lt m = absurd (omega (arith, few, lt))
    below n few h Weight lt m = absurd (omega (arith, few, lt))
    below n few h Mark lt m = absurd (omega (arith, few, lt))
    below n few h FacetSet lt m = absurd (omega (arith, few, lt))
    below n few h FacetKind lt m = absurd (omega (arith, few, lt))
    below n few h Neighbour lt m = absurd (omega (arith, few, lt))
    below n few h MatchKind lt m = absurd (omega (arith, few, lt))
    below n few h FirstMissing lt m = absurd (omega (arith, few, lt))
    below n few h NotReached lt m = absurd (omega (arith, few, lt))

    -- nothing else is asked of certificates
    pub face_fails : (r : Reason) (line : ℕ) → FailsFirst (AsksFaces v bs) r line → FailsFirst (AsksText v l bs) r line
    face_fails Shape line h = absurd (h.fails (λ i b e is. tt, λ is. tt))
    face_fails VerdictMissing line h = record { fails = h.fails; lines = h.lines; reasons = below 1 (omega arith) h.reasons }
    face_fails CertRefused line h = record { fails = h.fails; lines = h.lines; reasons = below 2 (omega arith) h.reasons }
    face_fails Monomial line h = record { fails = h.fails; lines = h.lines; reasons = below 3 (omega arith) h.reasons }
    face_fails WideCone line h = absurd (h.fails (λ i b e is. tt, λ is. tt))
    face_fails ConeCount line h = absurd (h.fails (λ i b e is. tt, λ is. tt))
    face_fails Order line h = absurd (h.fails (λ i b e is. tt, λ is. tt))
    face_fails WideChamber line h = absurd (h.fails (λ i b e is. tt, λ is. tt))
    face_fails Rays line h = absurd (h.fails (λ i b e is. tt, λ is. tt))
    face_fails Weight line h = absurd (h.fails (λ i b e is. tt, λ is. tt))
    face_fails Mark line h = absurd (h.fails (λ i b e is. tt, λ is. tt))
    face_fails FacetSet line h = absurd (h.fails (λ i b e is. tt, λ is. tt))
    face_fails FacetKind line h = absurd (h.fails (λ i b e is. tt, λ is. tt))
    face_fails Neighbour line h = absurd (h.fails (λ i b e is. tt, λ is. tt))
    face_fails MatchKind line h = absurd (h.fails (λ i b e is. tt, λ is. tt))
    face_fails FirstMissing line h = absurd (h.fails (λ i b e is. tt, λ is. tt))
    face_fails NotReached line h = absurd (h.fails (λ i b e is. tt, λ is. tt))

    -- what is asked of the listing is asked of the whole
    pub to_listing : (q : Reason) (m : ℕ) → AsksText v l bs q m → AsksListing v l q m
    to_listing Shape m h = λ fan first opening e. (sizes.0 ∙ sym opening.is_fan.k, sizes.1)
    to_listing VerdictMissing m h = λ fan first opening. tt
    to_listing CertRefused m h = λ fan first opening. tt
    to_listing Monomial m h = λ fan first opening. tt
    to_listing WideCone m h = λ fan first opening. tt
    to_listing ConeCount m h = h
    to_listing Order m h = h
    to_listing WideChamber m h = h
    to_listing Rays m h = h
    to_listing Weight m h = h
    to_listing Mark m h = h
    to_listing FacetSet m h = h
    to_listing FacetKind m h = h
    to_listing Neighbour m h = h
    to_listing MatchKind m h = h
    to_listing FirstMissing m h = h
    to_listing NotReached m h = h

    module _ (faces : AllHold (AsksFaces v bs)) where
      -- a cone is wide
      pub wide_fails : (mask : ℕ) (at : WideAt) → IsWideFace v mask at → Finds (AsksText v l bs) (Some (record { reason = WideCone; line = 3 }))
      wide_fails mask at wide = record {
        fails = λ h. wide_not_never v.degrees.k (face v.degrees.columns mask) at.stage at.what wide.1 (h refl mask wide.0);
        lines = λ n lt e. absurd (omega (arith, lt, e));
        reasons = below 4 (omega arith) (λ q lt m. faces q m);
      }

      module _ (narrow : AreNarrow v) where
        pub from_listing : (q : Reason) (m : ℕ) → AsksListing v l q m → AsksText v l bs q m
        from_listing Shape m h = λ e. sizes
        from_listing VerdictMissing m h = faces VerdictMissing m
        from_listing CertRefused m h = faces CertRefused m
        from_listing Monomial m h = faces Monomial m
        from_listing WideCone m h = λ e. narrow
        from_listing ConeCount m h = h
        from_listing Order m h = h
        from_listing WideChamber m h = h
        from_listing Rays m h = h
        from_listing Weight m h = h
        from_listing Mark m h = h
        from_listing FacetSet m h = h
        from_listing FacetKind m h = h
        from_listing Neighbour m h = h
        from_listing MatchKind m h = h
        from_listing FirstMissing m h = h
        from_listing NotReached m h = h

        pub listing_finds : (o : Option Finding) → Finds (AsksListing v l) o → Finds (AsksText v l bs) o
        listing_finds o h = finds_same (AsksListing v l) (AsksText v l bs) o from_listing to_listing h

-- all that is asked of certificates is asked of the whole
pub faces_hold : (v : InputValue) (l : Listing) (bs : List Block) → AllHold (AsksText v l bs) → AllHold (AsksFaces v bs)
faces_hold v l bs h Shape m = (λ i b e is. tt, λ is. tt)
faces_hold v l bs h VerdictMissing m = h VerdictMissing m
faces_hold v l bs h CertRefused m = h CertRefused m
faces_hold v l bs h Monomial m = h Monomial m
faces_hold v l bs h WideCone m = (λ i b e is. tt, λ is. tt)
faces_hold v l bs h ConeCount m = (λ i b e is. tt, λ is. tt)
faces_hold v l bs h Order m = (λ i b e is. tt, λ is. tt)
faces_hold v l bs h WideChamber m = (λ i b e is. tt, λ is. tt)
faces_hold v l bs h Rays m = (λ i b e is. tt, λ is. tt)
faces_hold v l bs h Weight m = (λ i b e is. tt, λ is. tt)
faces_hold v l bs h Mark m = (λ i b e is. tt, λ is. tt)
faces_hold v l bs h FacetSet m = (λ i b e is. tt, λ is. tt)
faces_hold v l bs h FacetKind m = (λ i b e is. tt, λ is. tt)
faces_hold v l bs h Neighbour m = (λ i b e is. tt, λ is. tt)
faces_hold v l bs h MatchKind m = (λ i b e is. tt, λ is. tt)
faces_hold v l bs h FirstMissing m = (λ i b e is. tt, λ is. tt)
faces_hold v l bs h NotReached m = (λ i b e is. tt, λ is. tt)
