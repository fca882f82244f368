-- The chambers of a listing have a first finding, or none.
use Rattle.std.proofs.Common.{◌≡◌, ◌+◌, ◌≤◌, ◌<◌, ℕ, zero, suc, Bool, List, All, inl, inr, length, ap, subst, arith}
use Rattle.std.proofs.lemmas.Bool.{cases_lt}
use Rattle.std.specs.Prelude.{Option, Some, None, slice_get}
use Rattle.std.specs.Ordering.{int_cmp}
use Rattle.std.specs.Cmp.Lexicographic.{slice_cmp}
use Rattle.git_machine.specs.Signatures.{Signature}
use Rattle.git_stages.specs.Short.{IsShort}
use Rattle.git_orbit.specs.Orbits.{Fan, IsFan}
use Rattle.git_orbit.specs.Signatures.{IsHolding}
use Rattle.git_orbit.proofs.Existence.{a_holding}
use Rattle.git_orbit.proofs.Settled.{Decided}
use Rattle.git_orbit.proofs.Signatures.{one_holding}
use Rattle.git_listing.specs.Listings.{Chamber, Facet, Listing, RaysPrecede, Side, boundary, inner, normals_of}
use Rattle.git_asked.specs.declared.finding.Reason.{Reason}
use Rattle.git_asked.specs.declared.finding.Reason.TheVariants.{ConeCount, FirstMissing, NotReached, Order}
use Rattle.git_asked.specs.declared.finding.Finding.{Finding}
use Rattle.git_asked.specs.Asked.{AsksOrder, IsFirstPlace, IsNamedFromFirst, Names}
use Rattle.git_asked.specs.Asks.{Asks, chamber_line, facet_line}
use Rattle.git_asked.specs.Findings.{Finds, earlier_of}
use Rattle.git_asked.specs.Ways.{LedTo}
use Rattle.git_asked.proofs.Joined.{finds_both}
use Rattle.git_asked.proofs.Places.{all_at, got, map_at, one_at, within}
use Rattle.git_check_chambers.specs.Families.{AtLines, IsFirstReason, OfEach, OfFirst, finding_at}
use Rattle.git_check_chambers.specs.Judged.{AsksChamber, AsksFacet, AsksHead, AsksOwn, ChamberAt, FacetAt, IsSizedChamber, head_line, reason_line}
use Rattle.git_check_chambers.proofs.FacetReasons.{count_fails, head_holds, start_fails}
use Rattle.git_check_chambers.proofs.Joins.{at_lines, first_all, first_more, first_none}
use Rattle.git_check_chambers.proofs.OwnReasons.{nothing_fails, out_of_order, own_fails, reach_fails}
use Rattle.git_check_chambers.proofs.Whole.{finds_whole}
use Rattle.git_check_laws.proofs.Decisions.{both_decided, less_decided, nat_decided, place_decided, signature_decided}
use Rattle.git_check_laws.proofs.Facets.{facet_exists}
use Rattle.git_check_laws.proofs.Owns.{HasReason, all_long, own_exists}
use Rattle.git_check_laws.proofs.Paths.{led_decided}

-- something is found, or nothing
abbrev pub HasFinding : (Reason → ℕ → Type 0) → Type 0
HasFinding asks = (o : Option Finding) × Finds asks o

pub at_a_line : (line_of : Reason → ℕ) (asks : Reason → Type 0) → HasReason asks → HasFinding (AtLines line_of asks)
at_a_line line_of asks h = (finding_at line_of h.0, at_lines line_of asks h.0 h.1)

-- ---- of each member of a list
module _ {A : Type 0} (asks : ℕ → A → Reason → ℕ → Type 0) (xs : List A) (each : (i : ℕ) (x : A) → slice_get xs i ≡ Some x → HasFinding (asks i x)) where
  up_to : (n : ℕ) → n ≤ length xs → HasFinding (OfFirst asks xs n)
  up_to zero le = (None, first_none asks xs)
  up_to (suc n) le =
      let before = up_to n (omega (arith, le)) in
      let x = got xs n (omega (arith, le)) in
      let here = each n x.0 x.1 in
      let next : n + 1 ≡ suc n = omega arith in
      (earlier_of before.0 here.0, subst (λ (m : ℕ). Finds (OfFirst asks xs m) (earlier_of before.0 here.0)) next (first_more asks xs n x.0 before.0 here.0 x.1 before.1 here.1))

  pub each_finding : HasFinding (OfEach asks xs)
  each_finding = let all = up_to (length xs) (omega arith) in (all.0, first_all asks xs (length xs) all.0 (omega arith) all.1)

-- ---- order
order_decided : (cs : List Chamber) (i : ℕ) → i < length cs → Decided (AsksOrder cs i)
order_decided cs zero low = inl (λ h b c e. absurd (omega (arith, e)))
order_decided cs (suc p) low =
    let x = got cs p (omega (arith, low)) in
    let y = got cs (suc p) low in
    elim (less_decided (slice_cmp (slice_cmp int_cmp) x.0.rays y.0.rays)) [
      | inl less ↦ inl (λ h b c e f g.
          let h_is : h ≡ p = omega (arith, e) in
          let b_is : x.0 ≡ b = one_at cs p x.0 b x.1 (subst (λ (j : ℕ). slice_get cs j ≡ Some b) h_is f) in
          let c_is : y.0 ≡ c = one_at cs (suc p) y.0 c y.1 g in
          subst (λ (z : Chamber). RaysPrecede b z) c_is (subst (λ (z : Chamber). RaysPrecede z y.0) b_is less))
      | inr never ↦ inr (λ asks. never (asks p x.0 y.0 (let e : suc p ≡ p + 1 = omega arith in e) x.1 y.1))
    ]

-- ---- what names what
abbrev number_of : Side → ℕ
number_of boundary = 0
number_of (inner number matched) = number

named_by : (s : Side) (m : ℕ) → Decided ((matched : Bool) × (s ≡ inner (m + 1) matched))
named_by boundary m = inr (λ n. cc n.1)
named_by (inner number matched) m = elim (nat_decided number (m + 1)) [
  | inl e ↦ inl (matched, λ i. inner (e i) matched)
  | inr never ↦ inr (λ n. never (ap number_of n.1))
]

names_decided : (cs : List Chamber) (i m : ℕ) → Decided (Names cs i m)
names_decided cs i m = elim (cases_lt i (length cs)) [
  | inr high ↦ inr (λ n. let low = within cs i n.chamber n.there in omega (arith, low, high))
  | inl low ↦ (
      let x = got cs i low in
      elim (place_decided (λ (j : ℕ). (f : Facet) × (slice_get x.0.facets j ≡ Some f) × ((matched : Bool) × (f.side ≡ inner (m + 1) matched))) (length x.0.facets) (facet x.0)) [
        | inl p ↦ inl (record { chamber = x.0; there = x.1; place = p.0; facet = p.2.0; stands = p.2.1; matched = p.2.2.0; is = p.2.2.1 })
        | inr none ↦ inr (λ n.
            let stands = subst (λ (c : Chamber). slice_get c.facets n.place ≡ Some n.facet) (one_at cs i n.chamber x.0 n.there x.1) n.stands in
            none (n.place, within x.0.facets n.place n.facet stands, (n.facet, stands, (n.matched, n.is))))
      ]
      )
] where
  facet : (c : Chamber) (j : ℕ) → j < length c.facets → Decided ((f : Facet) × (slice_get c.facets j ≡ Some f) × ((matched : Bool) × (f.side ≡ inner (m + 1) matched)))
  facet c j low =
      let f = got c.facets j low in
      elim (named_by f.0.side m) [
        | inl n ↦ inl (f.0, f.1, n)
        | inr never ↦ inr (λ p. never (subst (λ (g : Facet). (matched : Bool) × (g.side ≡ inner (m + 1) matched)) (one_at c.facets j p.0 f.0 p.1 f.1) p.2))
      ]

module _ (fan : Fan) (first : Signature) (cs : List Chamber) (sized : All (IsSizedChamber fan.k) cs) where
  first_place_decided : (b : ℕ) → Decided (IsFirstPlace fan first cs b)
  first_place_decided b = elim (cases_lt b (length cs)) [
    | inr high ↦ inr (λ p. let low = within cs b p.chamber p.there in omega (arith, low, high))
    | inl low ↦ (
        let x = got cs b low in
        let s = a_holding fan x.0.rays (all_long fan.k x.0.rays (all_at (IsSizedChamber fan.k) cs b x.0 sized x.1).rays) in
        elim (signature_decided s.0 first) [
          | inl e ↦ inl (record { chamber = x.0; there = x.1; holding = subst (IsHolding fan x.0.rays) e s.1 })
          | inr never ↦ inr (λ p. never (one_holding fan x.0.rays s.0 first s.1 (subst (λ (c : Chamber). IsHolding fan c.rays first) (one_at cs b p.chamber x.0 p.there x.1) p.holding)))
        ]
        )
  ]

  start_decided : Decided ((b : ℕ) × IsFirstPlace fan first cs b)
  start_decided = elim (place_decided (IsFirstPlace fan first cs) (length cs) (λ b low. first_place_decided b)) [
    | inl p ↦ inl (p.0, p.2)
    | inr none ↦ inr (λ p. none (p.0, within cs p.0 p.1.chamber p.1.there, p.1))
  ]

  named_decided : (i : ℕ) → Decided (IsNamedFromFirst fan first cs i)
  named_decided i = elim (place_decided (λ (b : ℕ). IsFirstPlace fan first cs b × LedTo (Names cs) b i) (length cs) led) [
    | inl p ↦ inl (p.0, p.2.0, p.2.1)
    | inr none ↦ inr (λ p. none (p.0, within cs p.0 p.1.chamber p.1.there, (p.1, p.2)))
  ] where
    led : (b : ℕ) → b < length cs → Decided (IsFirstPlace fan first cs b × LedTo (Names cs) b i)
    led b low = both_decided (first_place_decided b) (led_decided (Names cs) (names_decided cs) (length cs) b i (λ j m n. within cs j n.chamber n.there))

  -- ---- of a chamber in the list
  module _ (is : IsFan fan.k fan.list) (version : ℕ) where
    module _ (i : ℕ) (c : Chamber) (there : slice_get cs i ≡ Some c) where
      own_sized : IsSizedChamber fan.k c
      own_sized = all_at (IsSizedChamber fan.k) cs i c sized there

      in_order : AsksOrder cs i → (o : Option Reason) → IsFirstReason (AsksOwn fan c) o → HasReason (AsksChamber fan first cs i c)
      in_order order (Some q) h = (Some q, own_fails fan first cs i c order q h)
      in_order order None h = elim (named_decided i) [
        | inl named ↦ (None, nothing_fails fan first cs i c order h named)
        | inr never ↦ (Some NotReached, reach_fails fan first cs i c order h never)
      ]

      chamber_reason : HasReason (AsksChamber fan first cs i c)
      chamber_reason = elim (order_decided cs i (within cs i c there)) [
        | inr never ↦ (Some Order, out_of_order fan first cs i c never)
        | inl order ↦ (let own = own_exists fan is c own_sized in in_order order own.0 own.1)
      ]

      facet_finding : (j : ℕ) (f : Facet) → slice_get c.facets j ≡ Some f → HasFinding (FacetAt fan version cs i c j f)
      facet_finding j f e =
          let normal = all_at (IsShort fan.k) (normals_of c) j f.normal own_sized.normals (map_at (λ (g : Facet). g.normal) c.facets j f e) in
          at_a_line (λ (r : Reason). facet_line cs i c j) (AsksFacet fan version cs c f) (facet_exists fan version cs sized c own_sized.rays f normal)

      chamber_finding : HasFinding (ChamberAt fan first version cs i c)
      chamber_finding =
          let own = at_a_line (reason_line (chamber_line cs i) c) (AsksChamber fan first cs i c) chamber_reason in
          let facets = each_finding (FacetAt fan version cs i c) c.facets facet_finding in
          (earlier_of own.0 facets.0, finds_both (AtLines (reason_line (chamber_line cs i) c) (AsksChamber fan first cs i c)) (OfEach (FacetAt fan version cs i c) c.facets) own.0 facets.0 own.1 facets.1)

    chambers_finding : HasFinding (OfEach (ChamberAt fan first version cs) cs)
    chambers_finding = each_finding (ChamberAt fan first version cs) cs chamber_finding

-- ---- of a listing
module _ (fan : Fan) (is : IsFan fan.k fan.list) (first : Signature) (r : ℕ) (l : Listing) (rows : l.k ≡ fan.k) (columns : l.r ≡ r) (sized : All (IsSizedChamber fan.k) l.chambers) where
  head_reason : HasReason (AsksHead fan first r l)
  head_reason = elim (nat_decided l.cones (length fan.list)) [
    | inr never ↦ (Some ConeCount, count_fails fan first r l rows columns never)
    | inl count ↦ elim (start_decided fan first l.chambers sized) [
      | inr none ↦ (Some FirstMissing, start_fails fan first r l rows columns count none)
      | inl start ↦ (None, head_holds fan first r l rows columns count start)
    ]
  ]

  pub listing_finding : HasFinding (Asks fan first r l)
  listing_finding =
      let head = at_a_line head_line (AsksHead fan first r l) head_reason in
      let chambers = chambers_finding fan first l.chambers sized is l.version in
      (earlier_of head.0 chambers.0, finds_whole fan first r l head.0 chambers.0 head.1 chambers.1)
