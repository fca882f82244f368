-- What is asked of a listing is what is asked of its head, of its chambers and of their facets.
use Rattle.std.proofs.Common.{◌≡◌, ℕ, refl, arith}
use Rattle.std.specs.Prelude.{Some, Option}
use Rattle.git_machine.specs.Signatures.{Signature}
use Rattle.git_orbit.specs.Orbits.{Fan}
use Rattle.git_listing.specs.Listings.{Listing}
use Rattle.git_asked.specs.declared.finding.Reason.{Reason}
use Rattle.git_asked.specs.declared.finding.Reason.TheVariants.{Shape, VerdictMissing, CertRefused, Monomial, WideCone, ConeCount, Order, WideChamber, Rays, Weight, Mark, FacetSet, FacetKind, Neighbour, MatchKind, FirstMissing, NotReached}
use Rattle.git_asked.specs.declared.finding.Finding.{Finding}
use Rattle.git_asked.specs.Asks.{Asks}
use Rattle.git_asked.specs.Findings.{Both, Finds, earlier_of}
use Rattle.git_asked.proofs.Joined.{finds_both, finds_same}
use Rattle.git_check_chambers.specs.Families.{AtLines, OfEach}
use Rattle.git_check_chambers.specs.Judged.{AsksHead, ChamberAt, head_line}

module _ (fan : Fan) (start : Signature) (r : ℕ) (l : Listing) where
  abbrev OfHead : Reason → ℕ → Type 0
  OfHead = AtLines head_line (AsksHead fan start r l)

  abbrev OfChambers : Reason → ℕ → Type 0
  OfChambers = OfEach (ChamberAt fan start l.version l.chambers) l.chambers

  to_whole : (q : Reason) (line : ℕ) → Both OfHead OfChambers q line → Asks fan start r l q line
  to_whole Shape line p = λ e. p.0 e
  to_whole VerdictMissing line p = tt
  to_whole CertRefused line p = tt
  to_whole Monomial line p = tt
  to_whole WideCone line p = tt
  to_whole ConeCount line p = λ e. p.0 e
  to_whole Order line p = λ i c e is. (p.1 i c e).0 is
  to_whole WideChamber line p = λ i c e is. (p.1 i c e).0 is
  to_whole Rays line p = λ i c e is. (p.1 i c e).0 is
  to_whole Weight line p = λ i c e is. (p.1 i c e).0 is
  to_whole Mark line p = λ i c e is. (p.1 i c e).0 is
  to_whole FacetSet line p = λ i c e is. (p.1 i c e).0 is
  to_whole FacetKind line p = λ i c j f e g is. (p.1 i c e).1 j f g is
  to_whole Neighbour line p = λ i c j f e g is. (p.1 i c e).1 j f g is
  to_whole MatchKind line p = λ v i c j f e g is. (p.1 i c e).1 j f g is v
  to_whole FirstMissing line p = λ e. p.0 e
  to_whole NotReached line p = λ i c e is. (p.1 i c e).0 is

  from_whole : (q : Reason) (line : ℕ) → Asks fan start r l q line → Both OfHead OfChambers q line
  from_whole Shape line h = (λ e. h e, λ i c e. (λ is. tt, λ j f g is. tt))
  from_whole VerdictMissing line h = (λ e. tt, λ i c e. (λ is. tt, λ j f g is. tt))
  from_whole CertRefused line h = (λ e. tt, λ i c e. (λ is. tt, λ j f g is. tt))
  from_whole Monomial line h = (λ e. tt, λ i c e. (λ is. tt, λ j f g is. tt))
  from_whole WideCone line h = (λ e. tt, λ i c e. (λ is. tt, λ j f g is. tt))
  from_whole ConeCount line h = (λ e. h e, λ i c e. (λ is. tt, λ j f g is. tt))
  from_whole Order line h = (λ e. tt, λ i c e. (λ is. h i c e is, λ j f g is. tt))
  from_whole WideChamber line h = (λ e. tt, λ i c e. (λ is. h i c e is, λ j f g is. tt))
  from_whole Rays line h = (λ e. tt, λ i c e. (λ is. h i c e is, λ j f g is. tt))
  from_whole Weight line h = (λ e. tt, λ i c e. (λ is. h i c e is, λ j f g is. tt))
  from_whole Mark line h = (λ e. tt, λ i c e. (λ is. h i c e is, λ j f g is. tt))
  from_whole FacetSet line h = (λ e. tt, λ i c e. (λ is. h i c e is, λ j f g is. tt))
  from_whole FacetKind line h = (λ e. tt, λ i c e. (λ is. tt, λ j f g is. h i c j f e g is))
  from_whole Neighbour line h = (λ e. tt, λ i c e. (λ is. tt, λ j f g is. h i c j f e g is))
  from_whole MatchKind line h = (λ e. tt, λ i c e. (λ is. tt, λ j f g is v. h v i c j f e g is))
  from_whole FirstMissing line h = (λ e. h e, λ i c e. (λ is. tt, λ j f g is. tt))
  from_whole NotReached line h = (λ e. tt, λ i c e. (λ is. h i c e is, λ j f g is. tt))

  pub finds_whole : (a b : Option Finding) → Finds OfHead a → Finds OfChambers b → Finds (Asks fan start r l) (earlier_of a b)
  finds_whole a b p q = finds_same (Both OfHead OfChambers) (Asks fan start r l) (earlier_of a b) to_whole from_whole (finds_both OfHead OfChambers a b p q)

  -- the sizes aren't right
  pub shape_fails : ((l.k ≡ fan.k) × (l.r ≡ r) → ⊥) → Finds (Asks fan start r l) (Some (record { reason = Shape; line = 2 }))
  shape_fails never = record {
    fails = λ h. never (h refl);
    lines = λ n lt e. absurd (omega (arith, lt, e));
    reasons = λ q lt. absurd (omega (arith, lt));
  }
