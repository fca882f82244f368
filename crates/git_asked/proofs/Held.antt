-- Where all that is asked holds, the chambers are those of what is reached.
use Rattle.std.proofs.Common.{◌≡◌, ◌∙◌, ◌↔◌, ◌+◌, ◌-◌, ◌<◌, ◌∷◌, [], AllPairs, List, ap, arith, get_or, length, refl, subst, suc, sym, zero, ℕ, Bool, IsTrue}
use Rattle.std.specs.Prelude.{slice_get, Some}
use Rattle.std.specs.Ordering.{int_cmp}
use Rattle.std.specs.Cmp.{IsTotalOrder, int_cmp_total}
use Rattle.std.specs.Cmp.Lexicographic.{lists_total, slice_cmp}
use Rattle.git_lemmas.proofs.Options.{some_is}
use Rattle.git_defs.specs.Cones.{AreRays}
use Rattle.git_machine.specs.Signatures.{Has, Signature}
use Rattle.git_machine.specs.Reach.{IsWay, LeadsTo, Reached}
use Rattle.git_orbit.specs.Orbits.{Fan, IsFan}
use Rattle.git_orbit.specs.Signatures.{InChamber, IsHolding, IsSignature}
use Rattle.git_orbit.proofs.Signatures.{one_holding, one_signature}
use Rattle.git_listing.specs.Listings.{Chamber, Facet, RaysPrecede, Side, boundary, inner}
use Rattle.git_chamber.specs.Chambers.{IsInner, IsMark, IsNext, crossing}
use Rattle.git_chamber.specs.Listings.{IsListed, IsListing, IsMatched, IsNumbered, IsSide, no_chamber}
use Rattle.git_asked.specs.Asked.{AsksOrder, IsFirstPlace, IsNumber, KindFits, Names}
use Rattle.git_asked.specs.Asked as asked
use Rattle.git_asked.specs.Held.{AllHolds}
use Rattle.git_asked.specs.Ways.{Way}
use Rattle.git_asked.proofs.Places.{all_got, contains_at, get_or_is, got, map_at, map_from, one_at, within, zipped}
use Rattle.git_asked.proofs.Right.{IsRight, leads_by, leads_on}

-- ---- order
pub lists_of_vectors : IsTotalOrder (slice_cmp (slice_cmp int_cmp))
lists_of_vectors = lists_total (lists_total int_cmp_total)

-- chambers that come one after the other are in order
chain : (cs : List Chamber) → ((i : ℕ) (c : Chamber) → slice_get cs i ≡ Some c → AsksOrder cs i) → (n i : ℕ) (c d : Chamber) → slice_get cs i ≡ Some c → slice_get cs (i + 1 + n) ≡ Some d → RaysPrecede c d
chain cs h zero i c d e f =
    let z : i + 1 ≡ i + 1 + 0 = omega arith in
    let there = ap (slice_get cs) z ∙ f in
    h (i + 1) d there i c d refl e there
chain cs h (suc n) i c d e f =
    let lt = within cs (i + 1 + suc n) d f in
    let b = got cs (i + 1 + n) (omega (arith, lt)) in
    let z : i + 1 + suc n ≡ i + 1 + n + 1 = omega arith in
    lists_of_vectors.trans c.rays b.0.rays d.rays (chain cs h n i c b.0 e b.1) (h (i + 1 + suc n) d f (i + 1 + n) b.0 d z b.1 f)

ordered_places : (cs : List Chamber) → ((i : ℕ) (c : Chamber) → slice_get cs i ≡ Some c → AsksOrder cs i) → (i j : ℕ) (c d : Chamber) → i < j → slice_get cs i ≡ Some c → slice_get cs j ≡ Some d → RaysPrecede c d
ordered_places cs h i j c d lt e f =
    let n : (n : ℕ) × (j ≡ i + 1 + n) = (j - (i + 1), omega arith) in
    chain cs h n.0 i c d e (ap (slice_get cs) (sym n.1) ∙ f)

all_ordered : (cs : List Chamber) → ((i : ℕ) (c : Chamber) → slice_get cs i ≡ Some c → AsksOrder cs i) → AllPairs RaysPrecede cs
all_ordered cs h i j d less low =
    let a = got cs i (omega (arith, less, low)) in
    let b = got cs j low in
    let P : Chamber → Type 0 = λ x. RaysPrecede x (get_or cs j d) in
    subst P (sym (get_or_is cs i a.0 d a.1)) (subst (RaysPrecede a.0) (sym (get_or_is cs j b.0 d b.1)) (ordered_places cs h i j a.0 b.0 less a.1 b.1))

-- ---- the sets of cones around each chamber's rays
record Paired (fan : Fan) (cs : List Chamber) (sigs : List Signature) : Type 0 where
  same : length sigs ≡ length cs
  to : (i : ℕ) (s : Signature) → slice_get sigs i ≡ Some s → (c : Chamber) × (slice_get cs i ≡ Some c) × IsHolding fan c.rays s
  from : (i : ℕ) (c : Chamber) → slice_get cs i ≡ Some c → (s : Signature) × (slice_get sigs i ≡ Some s) × IsHolding fan c.rays s

module _ (fan : Fan) where
  pair_to : (cs : List Chamber) (sigs : List Signature) (c : Chamber) (s : Signature) → IsHolding fan c.rays s → Paired fan cs sigs
      → (i : ℕ) (t : Signature) → slice_get (s ∷ sigs) i ≡ Some t → (d : Chamber) × (slice_get (c ∷ cs) i ≡ Some d) × IsHolding fan d.rays t
  pair_to cs sigs c s h p zero t e = (c, refl, subst (IsHolding fan c.rays) (some_is s t e) h)
  pair_to cs sigs c s h p (suc i) t e = p.to i t e

  pair_from : (cs : List Chamber) (sigs : List Signature) (c : Chamber) (s : Signature) → IsHolding fan c.rays s → Paired fan cs sigs
      → (i : ℕ) (d : Chamber) → slice_get (c ∷ cs) i ≡ Some d → (t : Signature) × (slice_get (s ∷ sigs) i ≡ Some t) × IsHolding fan d.rays t
  pair_from cs sigs c s h p zero d e = (s, refl, subst (λ (x : Chamber). IsHolding fan x.rays s) (some_is c d e) h)
  pair_from cs sigs c s h p (suc i) d e = p.from i d e

  paired : (cs : List Chamber) → ((i : ℕ) (c : Chamber) → slice_get cs i ≡ Some c → (s : Signature) × IsHolding fan c.rays s) → (sigs : List Signature) × Paired fan cs sigs
  paired [] h = ([], record { same = refl; to = λ i s e. absurd (cc e); from = λ i c e. absurd (cc e) })
  paired (c ∷ cs) h =
      let s = h 0 c refl in
      let more = paired cs (λ i d e. h (suc i) d e) in
      (s.0 ∷ more.0, record { same = ap suc more.1.same; to = pair_to cs more.0 c s.0 s.1 more.1; from = pair_from cs more.0 c s.0 s.1 more.1 })

module _ (fan : Fan) (is : IsFan fan.k fan.list) (first : Signature) (cs : List Chamber) (h : AllHolds fan first 2 cs) (sigs : List Signature) (p : Paired fan cs sigs) where
  right_at : (i : ℕ) (s : Signature) (c : Chamber) → slice_get cs i ≡ Some c → IsHolding fan c.rays s → IsRight fan s c
  right_at i s c e own =
      let r = h.rays i c e in
      let same = one_holding fan c.rays r.0 s r.1 own in
      let has = subst (λ t. Has t r.2.0) same r.2.1 in
      let weight = h.weight i c e in
      record {
        holding = own;
        member = r.2.0;
        has = has;
        narrow = h.narrow i c e s r.2.0 own has;
        chamber = record {
          rays_are = subst (λ t. AreRays fan.k (InChamber fan t) c.rays) same r.3;
          facets_are = h.facets i c e s own;
          weight_is = weight;
        };
        rank = r.4;
        mark = subst (λ v. IsMark fan s v c.crossed) (sym weight) (h.mark i c e s own);
      }

  -- where a facet that is said to be inner leads
  there : (i : ℕ) (c : Chamber) (j : ℕ) (f : Facet) (number : ℕ) (matched : Bool) → slice_get cs i ≡ Some c → slice_get c.facets j ≡ Some f → f.side ≡ inner number matched
      → IsInner fan c.rays f.normal × ((d : Chamber) × IsNumber cs number d × ((s : Signature) → IsHolding fan d.rays s → IsSignature fan (crossing fan.k c.rays f.normal) s))
  there i c j f number matched e g side = (
    subst (KindFits fan c.rays f.normal) side (h.kind i c j f e g),
    subst (asked.LeadsTo fan cs c.rays f.normal) side (h.neighbour i c j f e g),
  )

  -- the signature to which a facet leads has the place of the chamber that is named
  place_of : (i : ℕ) (c : Chamber) (j : ℕ) (f : Facet) (t : Signature) → slice_get cs i ≡ Some c → slice_get c.facets j ≡ Some f → IsInner fan c.rays f.normal → IsSignature fan (crossing fan.k c.rays f.normal) t
      → (m : ℕ) × (slice_get sigs m ≡ Some t)
  place_of i c j f t e g holds sig = by f.side refl
    where
      by : (side : Side) → f.side ≡ side → (m : ℕ) × (slice_get sigs m ≡ Some t)
      by boundary side = absurd (let outside : KindFits fan c.rays f.normal boundary = subst (KindFits fan c.rays f.normal) side (h.kind i c j f e g) in outside holds)
      by (inner number matched) side =
          let n = (there i c j f number matched e g side).1 in
          let s = p.from n.1.place n.0 n.1.there in
          (n.1.place, s.1 ∙ ap Some (one_signature fan (crossing fan.k c.rays f.normal) s.0 t (n.2 s.0 s.2) sig))

  numbered_at : (i : ℕ) (c : Chamber) (j : ℕ) (f : Facet) (number : ℕ) (matched : Bool) → slice_get cs i ≡ Some c → slice_get c.facets j ≡ Some f → f.side ≡ inner number matched
      → IsNumbered fan sigs cs c.rays f.normal number matched
  numbered_at i c j f number matched e g side =
      let n = (there i c j f number matched e g side).1 in
      let s = p.from n.1.place n.0 n.1.there in
      let mark : IsTrue matched ↔ IsMatched f.normal c.rays n.0 = subst (asked.MatchFits cs c.rays f.normal) side (h.matched refl i c j f e g) n.0 n.1 in
      record {
        place = n.1.place;
        in_range = within sigs n.1.place s.0 s.1;
        is = n.1.is;
        signature = subst (IsSignature fan (crossing fan.k c.rays f.normal)) (sym (get_or_is sigs n.1.place s.0 [] s.1)) (n.2 s.0 s.2);
        mark = subst (λ (d : Chamber). IsTrue matched ↔ IsMatched f.normal c.rays d) (sym (get_or_is cs n.1.place n.0 no_chamber n.1.there)) mark;
      }

  side_at : (i : ℕ) (c : Chamber) (j : ℕ) (f : Facet) → slice_get cs i ≡ Some c → slice_get c.facets j ≡ Some f → (side : Side) → f.side ≡ side → IsSide fan sigs cs c.rays f.normal side
  side_at i c j f e g boundary side = subst (KindFits fan c.rays f.normal) side (h.kind i c j f e g)
  side_at i c j f e g (inner number matched) side = ((there i c j f number matched e g side).0, numbered_at i c j f number matched e g side)

  listed_at : (i : ℕ) (s : Signature) (c : Chamber) → slice_get sigs i ≡ Some s → slice_get cs i ≡ Some c → IsListed fan sigs cs s c
  listed_at i s c e f =
      let d = p.to i s e in
      let own : IsHolding fan c.rays s = subst (λ (x : Chamber). IsHolding fan x.rays s) (one_at cs i d.0 c d.1 f) d.2 in
      let r = right_at i s c f own in
      record {
        narrow = r.narrow;
        chamber = r.chamber;
        mark = r.mark;
        sides = all_got (λ (g : Facet). IsSide fan sigs cs c.rays g.normal g.side) c.facets (λ j g q. side_at i c j g f q g.side refl);
      }

  -- one step by listed facets is one step of signatures
  step : (r i : ℕ) (s t : Signature) → Names cs r i → slice_get sigs r ≡ Some t → slice_get sigs i ≡ Some s → LeadsTo (IsNext fan) t s
  step r i s t n at e =
      let c = n.chamber in let f = n.facet in
      let d = p.to r t at in
      let own : IsHolding fan c.rays t = subst (λ (x : Chamber). IsHolding fan x.rays t) (one_at cs r d.0 c d.1 n.there) d.2 in
      let q = there r c n.place f (i + 1) n.matched n.there n.stands n.is in
      let same : q.1.1.place ≡ i = (let z = q.1.1.is in omega (arith, z)) in
      let u = p.to i s e in
      let b : u.0 ≡ q.1.0 = one_at cs i u.0 q.1.0 u.1 (ap (slice_get cs) (sym same) ∙ q.1.1.there) in
      let sig = q.1.2 s (subst (λ (x : Chamber). IsHolding fan x.rays s) b u.2) in
      leads_on fan is t c (right_at r t c n.there own) n.place f.normal s (map_at (λ (g : Facet). g.normal) c.facets n.place f n.stands) q.0 sig

  -- what the listed facets reach is reached
  sound : (b : ℕ) → IsFirstPlace fan first cs b → (way : List ℕ) (i : ℕ) → Way (Names cs) b way i → (s : Signature) → slice_get sigs i ≡ Some s → Reached (IsNext fan) first s
  sound b q [] i w s e =
      let d = p.to i s e in
      let same : d.0 ≡ q.chamber = one_at cs b d.0 q.chamber (ap (slice_get cs) (sym w) ∙ d.1) q.there in
      ([], one_holding fan d.0.rays s first d.2 (subst (λ (x : Chamber). IsHolding fan x.rays first) (sym same) q.holding))
  sound b q (r ∷ rs) i w s e =
      let n = w.0 in
      let t = p.from r n.chamber n.there in
      let before = sound b q rs r w.1 t.0 t.1 in
      (t.0 ∷ before.0, (step r i s t.0 n t.1 e, before.1))

  -- what is reached is listed
  complete : (way : List Signature) (s : Signature) → IsWay (IsNext fan) first way s → (i : ℕ) × (slice_get sigs i ≡ Some s)
  complete [] s w =
      let b = h.start in
      let t = p.from b.0 b.1.chamber b.1.there in
      (b.0, t.1 ∙ ap Some (one_holding fan b.1.chamber.rays t.0 first t.2 b.1.holding ∙ sym w))
  complete (r ∷ rs) s w =
      let i = complete rs r w.1 in
      let c = p.to i.0 r i.1 in
      let n = leads_by fan is r c.0 (right_at i.0 r c.0 c.1 c.2) s w.0 in
      let f = map_from (λ (g : Facet). g.normal) c.0.facets n.place n.normal n.stands in
      place_of i.0 c.0 n.place f.0 s c.1 f.1 (subst (IsInner fan c.0.rays) (sym f.2) n.inner) (subst (λ v. IsSignature fan (crossing fan.k c.0.rays v) s) (sym f.2) n.signature)

  found : (i : ℕ) (s : Signature) → slice_get sigs i ≡ Some s → Reached (IsNext fan) first s
  found i s e =
      let c = p.to i s e in
      let r = h.reached i c.0 c.1 in
      sound r.0 r.1 r.2.0 i r.2.1 s e

  listing : (k r cones : ℕ) → k ≡ fan.k → cones ≡ length fan.list → IsListing fan first r (record { version = 2; k = k; r = r; cones = cones; chambers = cs })
  listing k r cones k_is cones_are = record {
    version = refl;
    k = k_is;
    columns = refl;
    cones = cones_are;
    sigs = sigs;
    sound = all_got (Reached (IsNext fan) first) sigs found;
    complete = λ s w. (let i = complete w.0 s w.1 in contains_at sigs i.0 s i.1);
    ordered = all_ordered cs h.order;
    each = zipped (IsListed fan sigs cs) sigs cs p.same listed_at;
  }

pub is_listing : (fan : Fan) (first : Signature) (cs : List Chamber) (k r cones : ℕ) → IsFan fan.k fan.list → AllHolds fan first 2 cs → k ≡ fan.k → cones ≡ length fan.list
    → IsListing fan first r (record { version = 2; k = k; r = r; cones = cones; chambers = cs })
is_listing fan first cs k r cones is h k_is cones_are =
    let q = paired fan cs (λ i c e. (let rays = h.rays i c e in (rays.0, rays.1))) in
    listing fan is first cs h q.0 q.1 k r cones k_is cones_are
