-- A true listing is within the limits of a listing's text.
use Rattle.std.proofs.Common.{◌≡◌, ◌∷◌, ◌+◌, ◌*◌, ◌^◌, ◌≤◌, [], List, All, arith, inl, inr, length, refl, subst, suc, sym, ℕ}
use Rattle.std.specs.Prelude.{Contains, Option, None, Some, slice_get, unsigned_abs}
use Rattle.std.specs.List.{AllByRecursion}
use Rattle.std.proofs.lemmas.List.{length-map}
use Rattle.git_lemmas.specs.Members.{Member}
use Rattle.git_lemmas.proofs.Members.{all_member}
use Rattle.git_defs.specs.Vectors.{HasRank, Vector, vector_sum}
use Rattle.git_defs.specs.Cones.{Cut}
use Rattle.git_defs.proofs.Lengths.{of_length_all}
use Rattle.git_defs.proofs.Linear.{length-zero}
use Rattle.git_geometry.proofs.Rays.{rays_along, same_back}
use Rattle.git_machine.specs.Signatures.{Has, Signature}
use Rattle.git_machine.specs.Reach.{Reached}
use Rattle.git_stages.specs.Short.{IsShort}
use Rattle.git_stages.specs.Wide.{NeverWide}
use Rattle.git_stages.proofs.Decided.{wide_decided}
use Rattle.git_orbit.specs.Orbits.{Fan, IsFan}
use Rattle.git_orbit.specs.Signatures.{InChamber, IsLegal}
use Rattle.git_orbit.proofs.Fans.{few_cones}
use Rattle.git_listing.specs.Limits.{FitsChamber, FitsFacet, FitsListing, FitsMark, FitsSide, FitsVector}
use Rattle.git_listing.specs.Listings.{Chamber, Facet, Listing, Side, boundary, inner, normals_of}
use Rattle.git_chamber.specs.Chambers.{AreWalls, IsFullSet, IsMark, IsNext}
use Rattle.git_chamber.specs.Listings.{IsListed, IsListing, IsSide}
use Rattle.git_chamber.specs.Nexts.{legal_numbers}
use Rattle.git_chamber.proofs.Cells.{few_chamber_rays}
use Rattle.git_chamber.proofs.Facets.{walls_cut, walls_have, walls_rank}
use Rattle.git_chamber.proofs.Fulls.{legal_is_full}
use Rattle.git_chamber.proofs.Gatherings.{walls_exist}
use Rattle.git_chamber.proofs.Graphs.{reached_legal}
use Rattle.git_chamber.proofs.RaySums.{IsSum, sum_more, within_more, zero_within}
use Rattle.git_allcones.specs.Cones.{IsShortCone, cone_of_chamber, cones_of}
use Rattle.git_covering.proofs.Short.{short_listing}
use Rattle.git_asked.proofs.Places.{all_at, got, map_at, within, zipped_at, zipped_length}
use Rattle.git_listing_fits.proofs.Chambers.{few_facets}

-- ---- lists

-- what holds at each place
pub by_places : {X : Type 0} (P : X → Type 0) (xs : List X) → ((i : ℕ) (x : X) → slice_get xs i ≡ Some x → P x) → AllByRecursion P xs
by_places P [] h = tt
by_places P (x ∷ xs) h = (h 0 x refl, by_places P xs (λ i y e. h (suc i) y e))

rank_some : (k : ℕ) (vs : List Vector) → 1 ≤ k → HasRank k vs → 1 ≤ length vs
rank_some k (v ∷ vs) some rank = omega arith
rank_some k [] some rank = by rank.chosen rank.count rank.from where
  by : (chosen : List Vector) → length chosen ≡ k → All (Contains []) chosen → 1 ≤ 0
  by [] count from = absurd (omega (arith, count, some))
  by (x ∷ xs) count from = let c = from 0 x (omega arith) in absurd (let low = c.1 in omega (arith, low))

-- ---- vectors

vector_fits : (k n : ℕ) (v : Vector) → length v ≡ k → All (λ z. unsigned_abs z ≤ n) v → FitsVector k n v
vector_fits k n v entries small = record { entries = entries; small = by_places (λ z. unsigned_abs z ≤ n) v (λ i z e. all_at (λ y. unsigned_abs y ≤ n) v i z small e) }

sum_of : (k : ℕ) (vs : List Vector) → ((v : Vector) → Member v vs → IsShort k v) → IsSum k vs (length vs) (vector_sum k vs)
sum_of k [] short = record { value = refl; entries = length-zero k; size = zero_within k (0 * 2 ^ 40) }
sum_of k (v ∷ vs) short =
    let one : length vs + 1 ≡ suc (length vs) = omega arith in
    subst (λ (j : ℕ). IsSum k (v ∷ vs) j (vector_sum k (v ∷ vs))) one (sum_more k v vs (length vs) (vector_sum k vs) (short v (inl refl)) (sum_of k vs (λ u m. short u (inr m))))

weight_fits : (k : ℕ) (rays : List Vector) (weight : Vector) → weight ≡ vector_sum k rays → All (IsShort k) rays → length rays ≤ 65536 → FitsVector k (2 ^ 57) weight
weight_fits k rays weight is short few =
    let s = sum_of k rays (λ v m. all_member (IsShort k) v rays short m) in
    subst (FitsVector k (2 ^ 57)) (sym is) (vector_fits k (2 ^ 57) (vector_sum k rays) s.entries (within_more (length rays * 2 ^ 40) (2 ^ 57) (vector_sum k rays) (omega (arith, few)) s.size))

-- ---- a listing

module _ (fan : Fan) (is : IsFan fan.k fan.list) (first : Signature) (legal : IsLegal fan first) (r : ℕ) (l : Listing) (li : IsListing fan first r l) (few : length l.chambers ≤ 65536) where
  same_size : length li.sigs ≡ length l.chambers
  same_size = zipped_length (IsListed fan li.sigs l.chambers) li.sigs l.chambers li.each

  number_below : (sig : Signature) (n : ℕ) → IsLegal fan sig → Has sig n → n ≤ 65535
  number_below sig n is_legal has =
      let low = (legal_numbers fan sig is_legal).in_range n has in
      let all = few_cones fan.k fan.list is in
      omega (arith, low, all)

  mark_fits : (sig : Signature) (weight : Vector) (mark : Option ℕ) → IsLegal fan sig → IsMark fan sig weight mark → FitsMark 2 mark
  mark_fits sig weight None is_legal m = tt
  mark_fits sig weight (Some n) is_legal m = (
    elim m.2.differs [
      | inl h ↦ number_below sig n is_legal h.0
      | inr h ↦ (let low = ((m.1.each n).0 h.0).0 in let all = few_cones fan.k fan.list is in omega (arith, low, all))
    ],
    refl,
  )

  side_fits : (rays : List Vector) (n : Vector) (s : Side) → IsSide fan li.sigs l.chambers rays n s → FitsSide 2 s
  side_fits rays n boundary h = tt
  side_fits rays n (inner number matched) h =
      let low = h.1.in_range in
      let is_number = h.1.is in
      let size = same_size in
      ((omega (arith, is_number), omega (arith, low, is_number, size, few)), λ e. absurd (omega (arith, e)))

  module _ (sig : Signature) (c : Chamber) (is_legal : IsLegal fan sig) (h : IsListed fan li.sigs l.chambers sig c) (cone : IsShortCone fan.k (cone_of_chamber c)) where
    some : 1 ≤ fan.k
    some = is.grading.matrix.some_rows

    full : IsFullSet fan sig
    full = legal_is_full fan sig is is_legal

    never : (walls : List Vector) → AreWalls fan sig walls → NeverWide fan.k walls
    never walls are = elim (wide_decided fan.k walls (of_length_all fan.k walls (walls_have fan sig is full.numbers walls are)) (walls_rank fan sig is full.numbers walls are)) [
      | inl n ↦ n
      | inr wide ↦ absurd (h.narrow (record { stage = wide.0; what = wide.1 }) (record { walls = walls; are = are; wide = wide.2 }))
    ]

    few_rays : length c.rays ≤ 65536
    few_rays =
        let w = walls_exist fan sig is full.numbers in
        few_chamber_rays fan sig is full.numbers w.0 w.1 c.rays (never w.0 w.1)
        (rays_along fan.k (InChamber fan sig) (Cut fan.k w.0) c.rays (same_back (Cut fan.k w.0) (InChamber fan sig) (walls_cut fan sig is full.numbers w.0 w.1)) h.chamber.rays_are)

    facet_fits : (i : ℕ) (f : Facet) → slice_get c.facets i ≡ Some f → FitsFacet 2 fan.k f
    facet_fits i f e =
        let short = all_at (IsShort fan.k) (normals_of c) i f.normal cone.facets_short (map_at (λ (g : Facet). g.normal) c.facets i f e) in
        let side = all_at (λ (g : Facet). IsSide fan li.sigs l.chambers c.rays g.normal g.side) c.facets i f h.sides e in
        (vector_fits fan.k (2 ^ 40) f.normal short.entries short.within, side_fits c.rays f.normal f.side side)

    chamber_fits : FitsChamber 2 fan.k c
    chamber_fits =
        let normals = length-map c.facets (λ (g : Facet). g.normal) in
        let many = rank_some fan.k (normals_of c) some cone.full.facets_rank in
        let most = few_facets fan sig is full (normals_of c) h.chamber.facets_are in
        record {
          ray_count = (rank_some fan.k c.rays some cone.full.rays_rank, few_rays);
          rays = by_places (FitsVector fan.k (2 ^ 40)) c.rays (λ i v e. (let s = all_at (IsShort fan.k) c.rays i v cone.rays_short e in vector_fits fan.k (2 ^ 40) v s.entries s.within));
          weight = weight_fits fan.k c.rays c.weight h.chamber.weight_is cone.rays_short few_rays;
          mark = mark_fits sig c.weight c.crossed is_legal h.mark;
          facet_count = (omega (arith, normals, many), omega (arith, normals, most));
          facets = by_places (FitsFacet 2 fan.k) c.facets facet_fits;
        }

  chamber_at : (i : ℕ) (c : Chamber) → slice_get l.chambers i ≡ Some c → FitsChamber 2 fan.k c
  chamber_at i c e =
      let low = within l.chambers i c e in
      let size = same_size in
      let sig = got li.sigs i (omega (arith, low, size)) in
      let listed = zipped_at (IsListed fan li.sigs l.chambers) li.sigs l.chambers i sig.0 c li.each sig.1 e in
      let reached = all_at (Reached (IsNext fan) first) li.sigs i sig.0 li.sound sig.1 in
      let cones = short_listing fan is first r l legal li in
      let cone = all_at (IsShortCone fan.k) (cones_of l) i (cone_of_chamber c) cones.each (map_at cone_of_chamber l.chambers i c e) in
      chamber_fits sig.0 c (reached_legal fan first sig.0 legal reached) listed cone

  pub listing_fits : 1 ≤ r → r ≤ 16 → FitsListing l
  listing_fits some_columns few_columns =
      let some_rows = is.grading.matrix.some_rows in
      let few_rows = is.grading.matrix.few_rows in
      let cones_few = few_cones fan.k fan.list is in
      let numbers = legal_numbers fan first legal in
      let cone = numbers.in_range numbers.member numbers.has_member in
      let there = (li.complete first ([], refl)).1 in
      let size = same_size in
      record {
        version = inr li.version;
        sizes = (omega (arith, li.k, some_rows), omega (arith, li.k, few_rows), omega (arith, li.columns, some_columns), omega (arith, li.columns, few_columns));
        cones = (omega (arith, li.cones, cone), omega (arith, li.cones, cones_few));
        chamber_count = (omega (arith, there, size), few);
        chambers = by_places (FitsChamber l.version l.k) l.chambers (λ i c e. subst (λ (n : ℕ). FitsChamber n l.k c) (sym li.version) (subst (λ (n : ℕ). FitsChamber 2 n c) (sym li.k) (chamber_at i c e)));
      }
