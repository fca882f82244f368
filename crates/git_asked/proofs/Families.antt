-- What is asked by reason and line, and that it holds exactly of the true listings.
use Rattle.std.proofs.Common.{arith, ◌≡◌, ◌↔◌, All, List, inl, inr, length, map, refl, subst, sym, ℕ}
use Rattle.std.specs.Prelude.{IsNone}
use Rattle.git_machine.specs.Signatures.{Signature}
use Rattle.git_orbit.specs.Orbits.{Fan, IsFan}
use Rattle.git_orbit.specs.Signatures.{IsLegal}
use Rattle.git_listing.specs.Listings.{Chamber, FitsVersion, IsUnmarked, Listing, old_chamber, old_of}
use Rattle.git_chamber.specs.Listings.{IsListing}
use Rattle.git_asked.specs.declared.finding.Reason.{Reason}
use Rattle.git_asked.specs.declared.finding.Reason.TheVariants.{Shape, VerdictMissing, CertRefused, Monomial, WideCone, ConeCount, Order, WideChamber, Rays, Weight, Mark, FacetSet, FacetKind, Neighbour, MatchKind, FirstMissing, NotReached}
use Rattle.git_asked.specs.Asks.{Asks, IsTrueListing, chamber_line, facet_line, weight_line}
use Rattle.git_asked.specs.Held.{AllHolds}
use Rattle.git_asked.proofs.Held.{is_listing}
use Rattle.git_asked.proofs.Listed.{all_holds}
use Rattle.git_asked.proofs.Olds.{holds_alike, mark_chamber, marked, marked_alike, marked_match, old_alike, unmarked}
use Rattle.git_asked.proofs.Places.{all_at, all_got, map_from}

-- all that is asked, in one
record HoldsWhole (fan : Fan) (first : Signature) (r : ℕ) (l : Listing) : Type 0 where
  k : l.k ≡ fan.k
  columns : l.r ≡ r
  cones : l.cones ≡ length fan.list
  chambers : AllHolds fan first l.version l.chambers

module _ (fan : Fan) (first : Signature) (r : ℕ) (l : Listing) where
  abbrev cs : List Chamber
  cs = l.chambers

  whole : ((q : Reason) (line : ℕ) → Asks fan first r l q line) → HoldsWhole fan first r l
  whole h = record {
    k = (h Shape 2 refl).0;
    columns = (h Shape 2 refl).1;
    cones = h ConeCount 3 refl;
    chambers = record {
      order = λ i c e. h Order (chamber_line cs i) i c e refl;
      narrow = λ i c e. h WideChamber (chamber_line cs i) i c e refl;
      rays = λ i c e. h Rays (chamber_line cs i) i c e refl;
      weight = λ i c e. h Weight (weight_line cs i c) i c e refl;
      mark = λ i c e. h Mark (chamber_line cs i) i c e refl;
      facets = λ i c e. h FacetSet (chamber_line cs i) i c e refl;
      kind = λ i c j f e g. h FacetKind (facet_line cs i c j) i c j f e g refl;
      neighbour = λ i c j f e g. h Neighbour (facet_line cs i c j) i c j f e g refl;
      matched = λ v i c j f e g. h MatchKind (facet_line cs i c j) v i c j f e g refl;
      start = h FirstMissing 4 refl;
      reached = λ i c e. h NotReached (chamber_line cs i) i c e refl;
    };
  }

  asked : HoldsWhole fan first r l → (q : Reason) (line : ℕ) → Asks fan first r l q line
  asked h Shape line = λ e. (h.k, h.columns)
  asked h VerdictMissing line = tt
  asked h CertRefused line = tt
  asked h Monomial line = tt
  asked h WideCone line = tt
  asked h ConeCount line = λ e. h.cones
  asked h Order line = λ i c e is. h.chambers.order i c e
  asked h WideChamber line = λ i c e is. h.chambers.narrow i c e
  asked h Rays line = λ i c e is. h.chambers.rays i c e
  asked h Weight line = λ i c e is. h.chambers.weight i c e
  asked h Mark line = λ i c e is. h.chambers.mark i c e
  asked h FacetSet line = λ i c e is. h.chambers.facets i c e
  asked h FacetKind line = λ i c j f e g is. h.chambers.kind i c j f e g
  asked h Neighbour line = λ i c j f e g is. h.chambers.neighbour i c j f e g
  asked h MatchKind line = λ v i c j f e g is. h.chambers.matched v i c j f e g
  asked h FirstMissing line = λ e. h.chambers.start
  asked h NotReached line = λ i c e is. h.chambers.reached i c e

  -- the same, as it is found
  abbrev as_new : Listing
  as_new = record { version = 2; k = l.k; r = r; cones = l.cones; chambers = cs }

  module _ (is : IsFan fan.k fan.list) where
    -- ---- version 2
    new_listing : l.version ≡ 2 → HoldsWhole fan first r l → IsListing fan first r l
    new_listing v h =
        let two = subst (λ x. AllHolds fan first x cs) v h.chambers in
        let e : as_new ≡ l = (λ i. record { version = sym v i; k = l.k; r = sym h.columns i; cones = l.cones; chambers = cs }) in
        subst (IsListing fan first r) e (is_listing fan first cs l.k r l.cones is two h.k h.cones)

    new_holds : IsLegal fan first → IsListing fan first r l → HoldsWhole fan first r l
    new_holds legal li = record {
      k = li.k;
      columns = li.columns;
      cones = li.cones;
      chambers = subst (λ x. AllHolds fan first x cs) (sym li.version) (all_holds fan is first r l legal li);
    }

    -- ---- version 1
    none_marked : All IsUnmarked cs → All (λ (c : Chamber). IsNone c.crossed) (marked cs)
    none_marked u = all_got (λ (c : Chamber). IsNone c.crossed) (marked cs) (λ i d e.
        let c = map_from (mark_chamber cs) cs i d e in
        subst (λ (z : Chamber). IsNone z.crossed) c.2 (all_at IsUnmarked cs i c.0 u c.1).crossed)

    old_listing : l.version ≡ 1 → All IsUnmarked cs → HoldsWhole fan first r l → (m : Listing) × IsListing fan first r m × All (λ (c : Chamber). IsNone c.crossed) m.chambers × (l ≡ old_of m)
    old_listing v u h =
        let two = holds_alike fan first cs (marked cs) (marked_alike cs) l.version 2 h.chambers (λ w. marked_match cs) in
        let same = sym (unmarked cs u) in (
          record { version = 2; k = l.k; r = r; cones = l.cones; chambers = marked cs },
          is_listing fan first (marked cs) l.k r l.cones is two h.k h.cones,
          none_marked u,
          λ i. record { version = v i; k = l.k; r = h.columns i; cones = l.cones; chambers = same i },
        )

module _ (fan : Fan) (first : Signature) (r : ℕ) (is : IsFan fan.k fan.list) (legal : IsLegal fan first) where
  old_holds : (m : Listing) → IsListing fan first r m → All (λ (c : Chamber). IsNone c.crossed) m.chambers → HoldsWhole fan first r (old_of m)
  old_holds m li none =
      let h = all_holds fan is first r m legal li in
      record {
        k = li.k;
        columns = li.columns;
        cones = li.cones;
        chambers = holds_alike fan first m.chambers (map old_chamber m.chambers) (old_alike m.chambers none) 2 1 h (λ w i d j g e at. absurd (omega (arith, w)));
      }

  from_true : (l : Listing) → IsTrueListing fan first r l → HoldsWhole fan first r l
  from_true l (inl li) = new_holds fan first r l is legal li
  from_true l (inr o) = subst (HoldsWhole fan first r) (sym o.3) (old_holds o.0 o.1 o.2)

  to_true : (l : Listing) → FitsVersion l → HoldsWhole fan first r l → IsTrueListing fan first r l
  to_true l (inl old) h = inr (old_listing fan first r l is old.0 old.1 h)
  to_true l (inr new) h = inl (new_listing fan first r l is new h)

pub exactly : (fan : Fan) (first : Signature) (r : ℕ) (l : Listing) → IsFan fan.k fan.list → IsLegal fan first → FitsVersion l
    → (((reason : Reason) (line : ℕ) → Asks fan first r l reason line) ↔ IsTrueListing fan first r l)
exactly fan first r l is legal fits = (
  λ h. to_true fan first r is legal l fits (whole fan first r l h),
  λ t. asked fan first r l (from_true fan first r is legal l t),
)
