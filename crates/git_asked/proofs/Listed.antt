-- Of the listing of what is reached all that is asked holds.
use Rattle.std.proofs.Common.{◌≡◌, ◌∙◌, ◌↔◌, ◌+◌, ◌<◌, ◌∷◌, [], List, ap, arith, get_or, inl, inr, length, refl, subst, sym, ℕ, Bool, IsTrue}
use Rattle.std.specs.Prelude.{slice_get, Some}
use Rattle.std.specs.Ordering.{int_cmp}
use Rattle.std.specs.declared.cmp.Ordering.TheVariants.{Less}
use Rattle.std.specs.Cmp.Lexicographic.{slice_cmp}
use Rattle.std.proofs.lemmas.Bool.{cases_lt}
use Rattle.git_lemmas.proofs.Sorting.{not_self}
use Rattle.git_defs.specs.Vectors.{Vector}
use Rattle.git_geometry.proofs.Sorted.{rays_once}
use Rattle.git_machine.specs.Signatures.{Signature}
use Rattle.git_machine.specs.Reach.{IsWay, Reached}
use Rattle.git_orbit.specs.Orbits.{Fan, IsFan}
use Rattle.git_orbit.specs.Signatures.{InChamber, IsHolding, IsLegal, IsSignature}
use Rattle.git_orbit.proofs.Signatures.{one_holding, one_signature}
use Rattle.git_listing.specs.Listings.{Chamber, Facet, Listing, RaysPrecede, Side, boundary, inner, normals_of}
use Rattle.git_chamber.specs.Chambers.{IsInner, IsMark, IsNext, crossing}
use Rattle.git_chamber.specs.Listings.{IsListed, IsListing, IsMatched, IsNumbered, IsSide, no_chamber}
use Rattle.git_chamber.proofs.Fulls.{legal_is_full}
use Rattle.git_chamber.proofs.Graphs.{reached_legal}
use Rattle.git_chamber.proofs.Inner.{holding_of_rays}
use Rattle.git_asked.specs.Asked.{IsFirstPlace, KindFits, LeadsTo, MatchFits, Names}
use Rattle.git_asked.specs.Held.{AllHolds}
use Rattle.git_asked.specs.Ways.{LedTo}
use Rattle.git_asked.proofs.Places.{all_at, get_or_is, got, map_from, place_of, within, zipped_at, zipped_length}
use Rattle.git_asked.proofs.Held.{lists_of_vectors}
use Rattle.git_asked.proofs.Right.{IsRight, leads_by, rays_rank}

never_rays : (r : List Vector) → slice_cmp (slice_cmp int_cmp) r r ≡ Less → ⊥
never_rays r h = not_self (slice_cmp (slice_cmp int_cmp) r r) (lists_of_vectors.antisymm r r) h

module _ (fan : Fan) (is : IsFan fan.k fan.list) (first : Signature) (r : ℕ) (l : Listing) (legal : IsLegal fan first) (li : IsListing fan first r l) where
  abbrev cs : List Chamber
  cs = l.chambers

  same : length li.sigs ≡ length cs
  same = zipped_length (IsListed fan li.sigs cs) li.sigs cs li.each

  -- a listed chamber beside its signature
  record Beside (i : ℕ) (s : Signature) (c : Chamber) : Type 0 where
    sig_there : slice_get li.sigs i ≡ Some s
    there : slice_get cs i ≡ Some c
    listed : IsListed fan li.sigs cs s c
    right : IsRight fan s c

  beside : (i : ℕ) (s : Signature) (c : Chamber) → slice_get li.sigs i ≡ Some s → slice_get cs i ≡ Some c → Beside i s c
  beside i s c e f =
      let at = zipped_at (IsListed fan li.sigs cs) li.sigs cs i s c li.each e f in
      let legal_s = reached_legal fan first s legal (all_at (Reached (IsNext fan) first) li.sigs i s li.sound e) in
      record {
        sig_there = e;
        there = f;
        listed = at;
        right = record {
          holding = holding_of_rays fan s c.rays (normals_of c) c.weight is legal_s at.chamber;
          member = legal_s.member;
          has = legal_s.has_member;
          narrow = at.narrow;
          chamber = at.chamber;
          rank = rays_rank fan s c.rays (normals_of c) c.weight is (legal_is_full fan s is legal_s) at.chamber;
          mark = at.mark;
        };
      }

  of_chamber : (i : ℕ) (c : Chamber) → slice_get cs i ≡ Some c → (s : Signature) × Beside i s c
  of_chamber i c e = let s = got li.sigs i (omega (arith, within cs i c e, same)) in (s.0, beside i s.0 c s.1 e)

  of_sig : (i : ℕ) (s : Signature) → slice_get li.sigs i ≡ Some s → (c : Chamber) × Beside i s c
  of_sig i s e = let c = got cs i (omega (arith, within li.sigs i s e, same)) in (c.0, beside i s c.0 e c.1)

  -- it is right for all cones that hold its rays
  right_of : (i : ℕ) (c : Chamber) → slice_get cs i ≡ Some c → (s : Signature) → IsHolding fan c.rays s → IsRight fan s c
  right_of i c e s own = let t = of_chamber i c e in subst (λ x. IsRight fan x c) (one_holding fan c.rays t.0 s t.1.right.holding own) t.1.right

  -- ---- one place for each signature
  before_itself : (i j : ℕ) (s : Signature) → slice_get li.sigs i ≡ Some s → slice_get li.sigs j ≡ Some s → i < j → ⊥
  before_itself i j s e f lt =
      let c = of_sig i s e in let d = of_sig j s f in
      let rays : c.0.rays ≡ d.0.rays = rays_once fan.k (InChamber fan s) c.0.rays d.0.rays c.1.right.chamber.rays_are d.1.right.chamber.rays_are in
      let low = within cs j d.0 d.1.there in
      let one : RaysPrecede c.0 (get_or cs j no_chamber) = subst (λ x. RaysPrecede x (get_or cs j no_chamber)) (get_or_is cs i c.0 no_chamber c.1.there) (li.ordered i j no_chamber lt low) in
      let two : RaysPrecede c.0 d.0 = subst (RaysPrecede c.0) (get_or_is cs j d.0 no_chamber d.1.there) one in
      never_rays d.0.rays (subst (λ v. slice_cmp (slice_cmp int_cmp) v d.0.rays ≡ Less) rays two)

  one_place : (i j : ℕ) (s : Signature) → slice_get li.sigs i ≡ Some s → slice_get li.sigs j ≡ Some s → i ≡ j
  one_place i j s e f = elim (cases_lt i j) [
    | inl less ↦ absurd (before_itself i j s e f less)
    | inr more ↦ elim (cases_lt j i) [ inl less ↦ absurd (before_itself j i s f e less) | inr rest ↦ omega arith ]
  ]

  -- ---- facets
  side_of : (i : ℕ) (c : Chamber) (j : ℕ) (f : Facet) → slice_get cs i ≡ Some c → slice_get c.facets j ≡ Some f → IsSide fan li.sigs cs c.rays f.normal f.side
  side_of i c j f e g = all_at (λ (x : Facet). IsSide fan li.sigs cs c.rays x.normal x.side) c.facets j f (of_chamber i c e).1.listed.sides g

  kind_by : (rays : List Vector) (n : Vector) (side : Side) → IsSide fan li.sigs cs rays n side → KindFits fan rays n side
  kind_by rays n boundary g = g
  kind_by rays n (inner number matched) g = g.0

  -- the signature, the chamber and the number of a numbered side
  named_sig : (rays : List Vector) (n : Vector) (number : ℕ) (matched : Bool) → (q : IsNumbered fan li.sigs cs rays n number matched)
      → (s : Signature) × (slice_get li.sigs q.place ≡ Some s) × IsSignature fan (crossing fan.k rays n) s
  named_sig rays n number matched q =
      let s = got li.sigs q.place q.in_range in
      (s.0, s.1, subst (IsSignature fan (crossing fan.k rays n)) (get_or_is li.sigs q.place s.0 [] s.1) q.signature)

  neighbour_by : (rays : List Vector) (n : Vector) (side : Side) → IsSide fan li.sigs cs rays n side → LeadsTo fan cs rays n side
  neighbour_by rays n boundary g = tt
  neighbour_by rays n (inner number matched) g =
      let q = g.1 in
      let s = named_sig rays n number matched q in
      let d = of_sig q.place s.0 s.1 in
      (d.0, record { place = q.place; is = q.is; there = d.1.there }, λ t own. subst (IsSignature fan (crossing fan.k rays n)) (one_holding fan d.0.rays s.0 t d.1.right.holding own) s.2)

  match_by : (rays : List Vector) (n : Vector) (side : Side) → IsSide fan li.sigs cs rays n side → MatchFits cs rays n side
  match_by rays n boundary g = tt
  match_by rays n (inner number matched) g = λ d at. (
      let q = g.1 in
      let place : q.place ≡ at.place = (let a = q.is in let b = at.is in omega (arith, a, b)) in
      let there = get_or_is cs q.place d no_chamber (ap (slice_get cs) place ∙ at.there) in
      subst (λ x. IsTrue matched ↔ IsMatched n rays x) there q.mark
      )

  -- the place to which an inner facet leads
  side_place : (rays : List Vector) (n : Vector) (side : Side) (t : Signature) → IsSide fan li.sigs cs rays n side → IsInner fan rays n → IsSignature fan (crossing fan.k rays n) t
      → (m : ℕ) × (matched : Bool) × (side ≡ inner (m + 1) matched) × (slice_get li.sigs m ≡ Some t)
  side_place rays n boundary t g holds sig = absurd (g holds)
  side_place rays n (inner number matched) t g holds sig =
      let q = g.1 in
      let s = named_sig rays n number matched q in
      (q.place, matched, ap (λ x. inner x matched) q.is, s.1 ∙ ap Some (one_signature fan (crossing fan.k rays n) s.0 t s.2 sig))

  names_by : (i m k : ℕ) (c : Chamber) (j : ℕ) (f : Facet) (matched : Bool) → slice_get cs i ≡ Some c → slice_get c.facets j ≡ Some f → f.side ≡ inner (k + 1) matched → k ≡ m → Names cs i m
  names_by i m k c j f matched e g side same_place = record { chamber = c; there = e; place = j; facet = f; stands = g; matched = matched; is = side ∙ ap (λ x. inner (x + 1) matched) same_place }

  -- a way of signatures is one of places
  named : (b : ℕ) → slice_get li.sigs b ≡ Some first → (way : List Signature) (s : Signature) (i : ℕ) → IsWay (IsNext fan) first way s → slice_get li.sigs i ≡ Some s → LedTo (Names cs) b i
  named b q [] s i w e = ([], one_place i b first (e ∙ ap Some w) q)
  named b q (v ∷ vs) s i w e =
      let at = place_of li.sigs v (li.complete v (vs, w.1)) in
      let before = named b q vs v at.0 w.1 at.1 in
      let c = of_sig at.0 v at.1 in
      let n = leads_by fan is v c.0 c.1.right s w.0 in
      let f = map_from (λ (g : Facet). g.normal) c.0.facets n.place n.normal n.stands in
      let m = side_place c.0.rays f.0.normal f.0.side s (side_of at.0 c.0 n.place f.0 c.1.there f.1) (subst (IsInner fan c.0.rays) (sym f.2) n.inner)
      (subst (λ u. IsSignature fan (crossing fan.k c.0.rays u) s) (sym f.2) n.signature) in
      let here : m.0 ≡ i = one_place m.0 i s m.3 e in
      let step = names_by at.0 i m.0 c.0 n.place f.0 m.1 c.1.there f.1 m.2 here in
      (at.0 ∷ before.0, (step, before.1))

  first_place : (b : ℕ) × (slice_get li.sigs b ≡ Some first) × IsFirstPlace fan first cs b
  first_place =
      let b = place_of li.sigs first (li.complete first ([], refl)) in
      let c = of_sig b.0 first b.1 in
      (b.0, b.1, record { chamber = c.0; there = c.1.there; holding = c.1.right.holding })

  pub all_holds : AllHolds fan first 2 cs
  all_holds = record {
    order = λ i c e h b d h_is f g. (
        let low = within cs i d g in
        let one = li.ordered h i no_chamber (omega (arith, h_is)) low in
        subst (RaysPrecede b) (get_or_is cs i d no_chamber g) (subst (λ x. RaysPrecede x (get_or cs i no_chamber)) (get_or_is cs h b no_chamber f) one)
        );
    narrow = λ i c e s member own has. (right_of i c e s own).narrow;
    rays = λ i c e. (let t = of_chamber i c e in let q = t.1.right in (t.0, q.holding, (q.member, q.has), q.chamber.rays_are, q.rank));
    weight = λ i c e. (of_chamber i c e).1.right.chamber.weight_is;
    mark = λ i c e s own. (let q = right_of i c e s own in subst (λ v. IsMark fan s v c.crossed) q.chamber.weight_is q.mark);
    facets = λ i c e s own. (right_of i c e s own).chamber.facets_are;
    kind = λ i c j f e g. kind_by c.rays f.normal f.side (side_of i c j f e g);
    neighbour = λ i c j f e g. neighbour_by c.rays f.normal f.side (side_of i c j f e g);
    matched = λ v i c j f e g. match_by c.rays f.normal f.side (side_of i c j f e g);
    start = (first_place.0, first_place.2);
    reached = λ i c e. (
        let s = of_chamber i c e in
        let w = all_at (Reached (IsNext fan) first) li.sigs i s.0 li.sound s.1.sig_there in
        (first_place.0, first_place.2, named first_place.0 first_place.1 w.0 s.0 i w.1 s.1.sig_there)
        );
  }
