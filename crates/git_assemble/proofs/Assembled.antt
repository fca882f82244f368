-- The listing of the chambers of all that is reached, and the first that isn't good.
use Rattle.std.proofs.Common.{◌≡◌, ◌<◌, ◌≤◌, ◌∙◌, ◌∷◌, [], All, AllPairs, List, Some, false, ap, arith, get_or, inl, inr, length, refl, subst, suc, sym, zero, ℕ}
use Rattle.std.specs.Prelude.{◌↔◌, ◌+◌, ◌-◌, Bool, IsSome, IsTrue, None, slice_get}
use Rattle.std.specs.BTreeMap.{BTreeMap, get}
use Rattle.std.specs.List.{AllZip, Contains}
use Rattle.std.specs.List.Sorted.{IsPermutation}
use Rattle.std.specs.Cmp.Lexicographic.{slice_cmp}
use Rattle.std.specs.Ordering.{int_cmp, is_lt}
use Rattle.std.proofs.lemmas.List.Sorted.{All-permutation, IsPermutation-map, length_permutation}
use Rattle.git_plain.proofs.Ordered.{reach_permuted}
use Rattle.std.specs.declared.cmp.Ordering.TheVariants.{Less}
use Rattle.std.proofs.lemmas.Bool.{cases_lt}
use Rattle.std.proofs.lemmas.List.{get_or-map, length-map}
use Rattle.std.proofs.lemmas.List.Elements.{All-contains}
use Rattle.std.proofs.lemmas.Option.{get_or_from_slice_get, slice_get-get_or, slice_get_within}
use Rattle.git_lemmas.proofs.Sorting.{not_self}
use Rattle.git_defs.specs.Vectors.{Vector, vector_sum}
use Rattle.git_defs.specs.Cones.{AreFacets, AreRays}
use Rattle.git_machine.specs.Signatures.{Signature, signature_cmp}
use Rattle.git_machine.specs.Ties.{signature_total}
use Rattle.git_machine.specs.Reach.{IsReach, Reached}
use Rattle.git_machine.specs.declared.successors.Found.{Found}
use Rattle.git_plain.specs.Closing.{signatures_of}
use Rattle.git_orbit.specs.Orbits.{Fan, IsFan}
use Rattle.git_orbit.specs.Signatures.{InChamber, IsLegal, IsSignature}
use Rattle.git_listing.specs.Listings.{Chamber, Facet, Listing, RaysPrecede, Side, boundary, inner, normals_of}
use Rattle.git_chamber.specs.Views.{FanChamber}
use Rattle.git_chamber.specs.Chambers.{IsInner, IsCell, IsMark, IsNext, crossing}
use Rattle.git_chamber.specs.Listings.{IsListed, IsListing, IsSide, SharesWall, no_chamber}
use Rattle.git_chamber.specs.declared.cell.Cell.{Cell}
use Rattle.git_chamber.specs.declared.cell.Cell.TheVariants as cell
use Rattle.git_assemble.specs.Assembling.{AllGood, IsAssembleFault, IsClosure, IsFirstBad, IsGoodSignature}
use Rattle.git_assemble.specs.Making.{IsFirstFault, IsGoodFound, IsMade, IsNumberedSide, IsNumbering, IsReady, Shares, good_cells, nothing, payloads_of, signatures_in}
use Rattle.git_assemble.specs.declared.fault.AssembleFault.{AssembleFault}
use Rattle.git_assemble.specs.declared.fault.AssembleFault.TheVariants.{NoMemory, Wide}
use Rattle.git_assemble.proofs.OneListing.{zip_at}
use Rattle.git_assemble.proofs.Reaching.{GoodAt, RaysBefore, found_good, legal_all, reached_at, ready, strict}

module _ (fan : Fan) where
  -- ---- sides, beside the chambers from which the listing is made
  -- the signature of the crossing has this number, and the chamber with this number shares the whole wall or not
  pub record NumberedAmong (sigs : List Signature) (all : List FanChamber) (rays : List Vector) (n : Vector) (number : ℕ) (matched : Bool) : Type 0 where
    pub place : ℕ
    pub in_range : place < length sigs
    pub is : number ≡ place + 1
    pub signature : IsSignature fan (crossing fan.k rays n) (get_or sigs place [])
    pub mark : IsTrue matched ↔ Shares all number rays n

  abbrev pub SideAmong : List Signature → List FanChamber → List Vector → Vector → Side → Type 0
  SideAmong sigs all rays n boundary = IsInner fan rays n → ⊥
  SideAmong sigs all rays n (inner number matched) = IsInner fan rays n × NumberedAmong sigs all rays n number matched

  -- ---- chambers as they are listed
  -- the chamber c, listed as m
  pub record IsShown (sigs : List Signature) (all : List FanChamber) (c : FanChamber) (m : Chamber) : Type 0 where
    pub same_rays : m.rays ≡ c.rays
    pub same_weight : m.weight ≡ c.weight
    pub same_crossed : m.crossed ≡ c.crossed
    pub same_normals : normals_of m ≡ c.facets
    pub sides : All (λ (f : Facet). SideAmong sigs all c.rays f.normal f.side) m.facets

  module _ (sigs : List Signature) (all : List FanChamber) (list : List Chamber) (count : length sigs ≡ length all) (whole : AllZip (IsShown sigs all) all list) where
    side_listed : (rays : List Vector) (n : Vector) (s : Side) → SideAmong sigs all rays n s → IsSide fan sigs list rays n s
    side_listed rays n boundary p = p
    side_listed rays n (inner number matched) p =
        let place = p.1.place in
        let low : place < length all = (let h = p.1.in_range in omega (arith, h, count)) in
        let at : number - 1 ≡ place = (let e = p.1.is in omega (arith, e)) in
        let c = get_or all place nothing in
        let m = get_or list place no_chamber in
        let shown = zip_at (IsShown sigs all) all list whole place nothing no_chamber low in
        let mark : IsTrue matched ↔ SharesWall n rays c.rays c.facets = subst (λ (i : ℕ). IsTrue matched ↔ SharesWall n rays (get_or all i nothing).rays (get_or all i nothing).facets) at p.1.mark in
        let facets : IsTrue matched ↔ SharesWall n rays c.rays (normals_of m) = subst (λ (f : List Vector). IsTrue matched ↔ SharesWall n rays c.rays f) (sym shown.same_normals) mark in (
          p.0,
          record {
            place = place;
            in_range = p.1.in_range;
            is = p.1.is;
            signature = p.1.signature;
            mark = subst (λ (r : List Vector). IsTrue matched ↔ SharesWall n rays r (normals_of m)) (sym shown.same_rays) facets;
          },
        )

    listed_of : (c : FanChamber) (m : Chamber) → GoodAt fan c → IsShown sigs all c m → IsListed fan sigs list c.sig m
    listed_of c m p made = record {
      narrow = p.0;
      chamber = record {
        rays_are = subst (λ (r : List Vector). AreRays fan.k (InChamber fan c.sig) r) (sym made.same_rays) p.1.chamber.rays_are;
        facets_are = subst (λ (r : List Vector). AreFacets fan.k (InChamber fan c.sig) r) (sym made.same_normals) p.1.chamber.facets_are;
        weight_is = made.same_weight ∙ p.1.chamber.weight_is ∙ ap (vector_sum fan.k) (sym made.same_rays);
      };
      mark = subst (IsMark fan c.sig m.weight) (sym made.same_crossed) (subst (λ (v : Vector). IsMark fan c.sig v c.crossed) (sym made.same_weight) p.1.mark);
      sides = λ i d low. side_listed m.rays (get_or m.facets i d).normal (get_or m.facets i d).side
          (subst (λ (r : List Vector). SideAmong sigs all r (get_or m.facets i d).normal (get_or m.facets i d).side) (sym made.same_rays) (made.sides i d low));
    }

    zip_listed : (cs : List FanChamber) (ms : List Chamber) → All (GoodAt fan) cs → AllZip (IsShown sigs all) cs ms → AllZip (IsListed fan sigs list) (signatures_in cs) ms
    zip_listed [] [] good z = tt
    zip_listed [] (m ∷ ms) good z = absurd z
    zip_listed (c ∷ cs) [] good z = absurd z
    zip_listed (c ∷ cs) (m ∷ ms) good z = (listed_of c m (good 0 c (omega arith)) z.0, zip_listed cs ms (λ i d h. good (suc i) d (omega arith)) z.1)

  shown_at : (sigs : List Signature) (all cs : List FanChamber) (ms : List Chamber) → AllZip (IsShown sigs all) cs ms → (i : ℕ) (d : FanChamber) (e : Chamber) → i < length ms
      → (i < length cs) × ((get_or ms i e).rays ≡ (get_or cs i d).rays)
  shown_at sigs all [] [] z i d e h = absurd (omega arith)
  shown_at sigs all [] (m ∷ ms) z i d e h = absurd z
  shown_at sigs all (c ∷ cs) [] z i d e h = absurd z
  shown_at sigs all (c ∷ cs) (m ∷ ms) z zero d e h = (omega arith, z.0.same_rays)
  shown_at sigs all (c ∷ cs) (m ∷ ms) z (suc i) d e h = let r = shown_at sigs all cs ms z.1 i d e (omega arith) in (omega (arith, r.0), r.1)

  pub listing_of_shown : (first : Signature) (r : ℕ) (cs : List FanChamber) (ms : List Chamber) → All (Reached (IsNext fan) first) (signatures_in cs)
      → ((s : Signature) → Reached (IsNext fan) first s → Contains (signatures_in cs) s) → All (GoodAt fan) cs → AllPairs RaysBefore cs → AllZip (IsShown (signatures_in cs) cs) cs ms
      → (k columns cones : ℕ) → k ≡ fan.k → columns ≡ r → cones ≡ length fan.list → IsListing fan first r (record { version = 2; k = k; r = columns; cones = cones; chambers = ms })
  listing_of_shown first r cs ms sound complete all order made k columns cones same_k same_r same_cones = record {
    version = refl;
    k = same_k;
    columns = same_r;
    cones = same_cones;
    sigs = signatures_in cs;
    sound = sound;
    complete = complete;
    ordered = λ i j e less h.
        let a = shown_at (signatures_in cs) cs cs ms made i nothing e (omega arith) in
        let b = shown_at (signatures_in cs) cs cs ms made j nothing e h in
        subst (λ (rays : List Vector). RaysPrecede (record { rays = rays; weight = []; crossed = None; facets = [] }) (get_or ms j e)) (sym a.1)
        (subst (λ (rays : List Vector). RaysPrecede (record { rays = (get_or cs i nothing).rays; weight = []; crossed = None; facets = [] }) (record { rays = rays; weight = []; crossed = None; facets = [] })) (sym b.1) (order i j nothing less b.0));
    each = zip_listed (signatures_in cs) cs ms (length-map cs (λ (c : FanChamber). c.sig)) made cs ms all made;
  }

  -- ---- sides by numbers
  side_is : (sigs : List Signature) (numbers : BTreeMap Signature ℕ) (all : List FanChamber) (rays : List Vector) (n : Vector) (s : Side) → IsNumbering sigs numbers
      → IsNumberedSide fan numbers all rays n s → SideAmong sigs all rays n s
  side_is sigs numbers all rays n boundary is p = p
  side_is sigs numbers all rays n (inner number matched) is p =
      let here = is.right p.1 number p.3 in (
        p.0,
        record {
          place = here.0;
          in_range = slice_get_within sigs here.0 p.1 here.2;
          is = here.1;
          signature = subst (IsSignature fan (crossing fan.k rays n)) (sym (get_or_from_slice_get sigs here.0 p.1 [] here.2)) p.2;
          mark = p.4;
        },
      )

  pub zip_shown : (sigs : List Signature) (numbers : BTreeMap Signature ℕ) (all cs : List FanChamber) (ms : List Chamber) → IsNumbering sigs numbers → AllZip (IsMade fan numbers all) cs ms
      → AllZip (IsShown sigs all) cs ms
  zip_shown sigs numbers all [] [] is z = tt
  zip_shown sigs numbers all [] (m ∷ ms) is z = absurd z
  zip_shown sigs numbers all (c ∷ cs) [] is z = absurd z
  zip_shown sigs numbers all (c ∷ cs) (m ∷ ms) is z = (
    record {
      same_rays = z.0.same_rays;
      same_weight = z.0.same_weight;
      same_crossed = z.0.same_crossed;
      same_normals = z.0.same_normals;
      sides = λ i d low. side_is sigs numbers all c.rays (get_or m.facets i d).normal (get_or m.facets i d).side is (z.0.sides i d low);
    },
    zip_shown sigs numbers all cs ms is z.1,
  )

  -- ---- the first that isn't good
  found_at : (found : List (Found Cell)) (i : ℕ) (f : Found Cell) (d : Signature) → slice_get found i ≡ Some f → get_or (signatures_of found) i d ≡ f.sig
  found_at found i f d at = get_or-map (λ (x : Found Cell). x.sig) found i f d (slice_get_within found i f at) ∙ ap (λ (x : Found Cell). x.sig) (get_or_from_slice_get found i f f at)

  told_at : (found : List (Found Cell)) → All (λ f. IsCell fan f.sig f.payload) found → (i : ℕ) (f : Found Cell) → slice_get found i ≡ Some f → IsCell fan f.sig f.payload
  told_at found cells i f at = subst (λ (x : Found Cell). IsCell fan x.sig x.payload) (get_or_from_slice_get found i f f at) (cells i f (slice_get_within found i f at))

  good_found : (found : List (Found Cell)) → All (λ f. IsCell fan f.sig f.payload) found → (i : ℕ) (f : Found Cell) → slice_get found i ≡ Some f → IsGoodFound f → IsGoodSignature fan f.sig
  good_found found cells i f at good = (good.0, subst (IsCell fan f.sig) good.1 (told_at found cells i f at))

  first_bad : (first : Signature) (found : List (Found Cell)) → IsClosure fan first found → (place : ℕ) (item : Found Cell) → slice_get found place ≡ Some item
      → ((j : ℕ) (f : Found Cell) → j < place → slice_get found j ≡ Some f → IsGoodFound f) → IsFirstBad fan first item.sig item.payload
  first_bad first found cl place item at before = record {
    reached = subst (Reached (IsNext fan) first) (found_at found place item [] at) (cl.reach.sound place [] low);
    is_cell = told_at found cl.cells place item at;
    before = earlier;
  } where
    sigs : List Signature
    sigs = signatures_of found

    low : place < length sigs
    low = let h = slice_get_within found place item at in let long = length-map found (λ (f : Found Cell). f.sig) in omega (arith, h, long)

    never : (s : Signature) → signature_cmp s s ≡ Less → ⊥
    never s h = not_self (signature_cmp s s) (signature_total.antisymm s s) h

    earlier : (s : Signature) → Reached (IsNext fan) first s → signature_cmp s item.sig ≡ Less → IsGoodSignature fan s
    earlier s way less = elim (cases_lt here.0 place) [
      | inl below ↦ subst (IsGoodSignature fan) same (good_found found cl.cells here.0 f is (before here.0 f below is))
      | inr more ↦ absurd (elim (cases_lt place here.0) [
        | inl above ↦ never s (signature_total.trans s item.sig s less
            (subst (λ (t : Signature). signature_cmp item.sig t ≡ Less) (found_at found here.0 f [] is ∙ same)
            (subst (λ (t : Signature). signature_cmp t (get_or sigs here.0 []) ≡ Less) (found_at found place item [] at) (cl.order place here.0 [] above here.1))))
        | inr rest ↦
            let e : here.0 ≡ place = omega arith in
            let level : item.sig ≡ s = sym (found_at found place item s at) ∙ ap (λ (n : ℕ). get_or sigs n s) (sym e) ∙ here.2 in
            never s (subst (λ (t : Signature). signature_cmp s t ≡ Less) level less)
      ])
    ] where
      here : Contains sigs s
      here = cl.reach.complete s way

      f : Found Cell
      f = get_or found here.0 item

      is : slice_get found here.0 ≡ Some f
      is = slice_get-get_or found here.0 item (let h = here.1 in let long = length-map found (λ (x : Found Cell). x.sig) in omega (arith, h, long))

      same : f.sig ≡ s
      same = sym (found_at found here.0 f s is) ∙ here.2

  pub fault_is : (first : Signature) (found : List (Found Cell)) (fault : AssembleFault) → IsClosure fan first found → IsFirstFault found fault → IsAssembleFault fan first fault
  fault_is first found (Wide sig at) cl p =
      subst (λ (s : Signature). IsFirstBad fan first s (cell.Wide at)) (sym p.fault_of.0) (subst (IsFirstBad fan first p.item.sig) p.fault_of.1 (first_bad first found cl p.place p.item p.is p.before))
  fault_is first found NoMemory cl p = tt

  -- ---- the parts of the listing
  -- sorted good chambers of exactly what is reached
  pub record Assembles (first : Signature) (cs : List FanChamber) : Type 0 where
    pub reach : IsReach (IsNext fan) first (signatures_in cs)
    pub good : All (GoodAt fan) cs
    pub order : AllPairs RaysBefore cs
    pub few : length cs ≤ 65536

  pub assembles : IsFan fan.k fan.list → (first : Signature) (found : List (Found Cell)) (raw cs : List FanChamber) → IsClosure fan first found → payloads_of found ≡ good_cells raw → IsPermutation raw cs
      → AllPairs (λ c d. is_lt (slice_cmp (slice_cmp int_cmp) d.rays c.rays) ≡ false) cs → Assembles first cs
  assembles is first found raw cs cl same moved sorted = record {
    reach = reach;
    good = good;
    order = strict fan is cs (legal_all fan first cs cl.legal reach.sound) good sorted reach.once;
    few = (let a = length-map found (λ (f : Found Cell). f.sig) in let b = length-map raw (λ (c : FanChamber). c.sig) in let e = ap length all.0 in let m = length_permutation raw cs moved in let f = cl.few in omega (arith, a, b, e, m, f));
  } where
    all : (signatures_of found ≡ signatures_in raw) × All (GoodAt fan) raw
    all = found_good fan found raw cl.cells same

    reach : IsReach (IsNext fan) first (signatures_in cs)
    reach = reach_permuted (IsNext fan) first (signatures_in raw) (signatures_in cs) (IsPermutation-map (λ (c : FanChamber). c.sig) raw cs moved) (subst (IsReach (IsNext fan) first) all.0 cl.reach)

    good : All (GoodAt fan) cs
    good = All-permutation (GoodAt fan) raw cs moved all.1

  pub ready_all : (first : Signature) (cs : List FanChamber) (numbers : BTreeMap Signature ℕ) → IsLegal fan first → Assembles first cs → IsNumbering (signatures_in cs) numbers → All (IsReady fan numbers) cs
  ready_all first cs numbers legal ok is i d low =
      let c = get_or cs i d in
      let r = ready fan first (signatures_in cs) c legal ok.reach.complete (reached_at fan first cs i d low ok.reach.sound) (ok.good i d low) in
      record {
        rays = r.rays;
        facets = r.facets;
        leads = λ j n h t holds sig. All-contains (λ (s : Signature). IsSome (get signature_cmp numbers s)) (signatures_in cs) t is.each (r.leads j n h t holds sig);
      }

  pub listing_is : (first : Signature) (r : ℕ) (cs : List FanChamber) (numbers : BTreeMap Signature ℕ) (ms : List Chamber) → Assembles first cs → IsNumbering (signatures_in cs) numbers → AllZip (IsMade fan numbers cs) cs ms
      → (k columns cones : ℕ) → k ≡ fan.k → columns ≡ r → cones ≡ length fan.list → IsListing fan first r (record { version = 2; k = k; r = columns; cones = cones; chambers = ms })
  listing_is first r cs numbers ms ok is made k columns cones same_k same_r same_cones =
      listing_of_shown first r cs ms ok.reach.sound ok.reach.complete ok.good ok.order (zip_shown (signatures_in cs) numbers cs cs ms is made) k columns cones same_k same_r same_cones

  -- ---- what is listed is good
  pub listed_good : (first : Signature) (r : ℕ) (l : Listing) → IsListing fan first r l → AllGood fan first
  listed_good first r l p s at =
      let here = p.complete s at in
      let c = get_or l.chambers here.0 no_chamber in
      let is : IsListed fan p.sigs l.chambers s c = subst (λ (t : Signature). IsListed fan p.sigs l.chambers t c) here.2 (zip_at (IsListed fan p.sigs l.chambers) p.sigs l.chambers p.each here.0 s no_chamber here.1) in
      (record { sig = s; rays = c.rays; facets = normals_of c; weight = c.weight; crossed = c.crossed }, (is.narrow, record { sig_is = refl; chamber = is.chamber; mark = is.mark }))
