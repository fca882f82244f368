-- There is a listing where all that is reached is good.
use Rattle.std.proofs.Common.{◌≡◌, ◌⊎◌, ◌+◌, ◌∙◌, ◌∷◌, [], All, List, ap, arith, get_or, inl, inr, length, refl, subst, suc, sym, ℕ}
use Rattle.std.specs.Cmp.Lexicographic.{slice_cmp}
use Rattle.std.specs.List.{AllZip, Contains}
use Rattle.std.specs.Ordering.{int_cmp, int_eq, ordering_reverse}
use Rattle.std.specs.declared.cmp.Ordering.{Ordering}
use Rattle.std.specs.declared.cmp.Ordering.TheVariants.{Equal, Greater, Less}
use Rattle.std.proofs.lemmas.List.{get_or_default, length-map}
use Rattle.std.proofs.lemmas.List.Elements.{All-cons, All-nil}
use Rattle.git_lemmas.specs.Members.{Member}
use Rattle.git_lemmas.proofs.Members.{all_member, contains_member, member_all, member_contains}
use Rattle.git_lemmas.proofs.Sorting.{AreComparable, pairs_of_ascends, sort}
use Rattle.std.specs.Prelude.{◌↔◌, ◌-◌, Bool, Decides, IsTrue, false, true}
use Rattle.std.proofs.Math.IntN.{negsuc}
use Rattle.std.proofs.lemmas.Bool.Decides.{Decides-int_eq}
use Rattle.std.proofs.lemmas.Slice.Eq.{slice_eq-Decides}
use lib.Pointwise.{pointwise}
use Rattle.git_defs.specs.Vectors.{AllOfLength, Vector, scale}
use Rattle.git_cone_faces.specs.Faces.{on_wall}
use Rattle.git_machine.specs.Signatures.{Signature}
use Rattle.git_machine.specs.Reach.{IsOnce, IsReach, Reached}
use Rattle.git_machine.proofs.Once.{tail_once}
use Rattle.git_orbit.specs.Orbits.{Fan, IsFan}
use Rattle.git_orbit.proofs.Settled.{Decided}
use Rattle.git_orbit.specs.Signatures.{IsLegal, IsSignature}
use Rattle.git_listing.specs.Listings.{Chamber, Facet, Listing, Side, boundary, inner}
use Rattle.git_chamber.specs.Views.{FanChamber}
use Rattle.git_chamber.specs.Chambers.{IsNext, crossing}
use Rattle.git_chamber.specs.Listings.{IsListing, SharesWall}
use Rattle.git_assemble.specs.Assembling.{AllGood, IsGoodSignature}
use Rattle.git_assemble.specs.Making.{Shares, nothing, signatures_in}
use Rattle.git_assemble.proofs.OneListing.{normals_in, ray_lists_total}
use Rattle.git_assemble.proofs.Reaching.{GoodAt, LegalAt, LeadsAmong, RaysBefore, Ready, leads_or_not, legal_all, own_sig, ready, same_rays, same_sig, sig_here}
use Rattle.git_assemble.proofs.Assembled.{IsShown, SideAmong, listing_of_shown}

-- ---- members of lists of chambers and of their signatures
sig_member : (cs : List FanChamber) (c : FanChamber) → Member c cs → Member c.sig (signatures_in cs)
sig_member [] c m = absurd m
sig_member (d ∷ cs) c (inl e) = inl (ap (λ (x : FanChamber). x.sig) e)
sig_member (d ∷ cs) c (inr m) = inr (sig_member cs c m)

member_sig : (cs : List FanChamber) (s : Signature) → Member s (signatures_in cs) → (c : FanChamber) × Member c cs × (c.sig ≡ s)
member_sig [] s m = absurd m
member_sig (d ∷ cs) s (inl e) = (d, inl refl, e)
member_sig (d ∷ cs) s (inr m) = let r = member_sig cs s m in (r.0, inr r.1, r.2)

one_first : (a b : List Vector) (o p : Ordering) → slice_cmp (slice_cmp int_cmp) a b ≡ o → slice_cmp (slice_cmp int_cmp) b a ≡ p → o ≡ ordering_reverse p → (a ≡ b → ⊥)
    → (slice_cmp (slice_cmp int_cmp) a b ≡ Less) ⊎ (slice_cmp (slice_cmp int_cmp) b a ≡ Less)
one_first a b Less p e f r apart = inl e
one_first a b Equal p e f r apart = absurd (apart (same_rays a b e))
one_first a b Greater Less e f r apart = inr f
one_first a b Greater Equal e f r apart = absurd (let g : Greater ≡ Equal = r in cc)
one_first a b Greater Greater e f r apart = absurd (let g : Greater ≡ Less = r in cc)

-- ---- whether a wall is shared is decided
a_bool : (P : Type 0) → Decided P → (b : Bool) × (IsTrue b ↔ P)
a_bool P (inl p) = (true, (λ t. p, λ q. refl))
a_bool P (inr other) = (false, (λ t. absurd (cc t), λ q. absurd (other q)))

of_test : (P : Type 0) (b : Bool) → Decides b P → Decided P
of_test P true d = inl (d.0 refl)
of_test P false d = inr (λ p. let t : false ≡ true = d.1 p in cc t)

vectors_decided : (u v : Vector) → Decides (pointwise int_eq u v) (u ≡ v)
vectors_decided u v = slice_eq-Decides Decides-int_eq u v (pointwise int_eq u v) refl

lists_decided : (us vs : List Vector) → Decided (us ≡ vs)
lists_decided us vs = of_test (us ≡ vs) (pointwise (pointwise int_eq) us vs) (slice_eq-Decides vectors_decided us vs (pointwise (pointwise int_eq) us vs) refl)

member_decided : (v : Vector) (us : List Vector) → Decided (Member v us)
member_decided v [] = inr (λ m. m)
member_decided v (u ∷ us) = elim (of_test (u ≡ v) (pointwise int_eq u v) (vectors_decided u v)) [
  | inl e ↦ inl (inl e)
  | inr other ↦ elim (member_decided v us) [ inl m ↦ inl (inr m) | inr out ↦ inr (λ m. elim m [ inl e ↦ other e | inr o ↦ out o ]) ]
]

wall_decided : (n : Vector) (rays others facets : List Vector) → Decided (SharesWall n rays others facets)
wall_decided n rays others facets = elim (member_decided (scale (negsuc 0) n) facets) [
  | inr out ↦ inr (λ s. out (contains_member (scale (negsuc 0) n) facets s.facet))
  | inl facet ↦ elim (lists_decided (on_wall n rays) (on_wall n others)) [
    | inl same ↦ inl (record { facet = member_contains (scale (negsuc 0) n) facets facet; wall = same })
    | inr other ↦ inr (λ s. other s.wall)
  ]
]

shares_decided : (all : List FanChamber) (number : ℕ) (rays : List Vector) (n : Vector) → Decided (Shares all number rays n)
shares_decided all number rays n = wall_decided n rays (get_or all (number - 1) nothing).rays (get_or all (number - 1) nothing).facets

module _ (fan : Fan) where
  -- ---- the chambers in order
  gather : (sigs : List Signature) → ((s : Signature) → Member s sigs → IsGoodSignature fan s) → (cs : List FanChamber) × (signatures_in cs ≡ sigs) × All (GoodAt fan) cs
  gather [] good = ([], refl, All-nil (GoodAt fan))
  gather (s ∷ sigs) good =
      let here = good s (inl refl) in
      let rest = gather sigs (λ t m. good t (inr m)) in
      let same : here.0.sig ≡ s = here.1.1.sig_is in
      (here.0 ∷ rest.0, (λ i. same i ∷ rest.1 i), All-cons (GoodAt fan) here.0 rest.0 (own_sig fan s here.0 here.1) rest.2)

  comparable : IsFan fan.k fan.list → (cs : List FanChamber) → All (LegalAt fan) cs → All (GoodAt fan) cs → IsOnce (signatures_in cs) → AreComparable RaysBefore cs
  comparable is [] legal good once = tt
  comparable is (c ∷ cs) legal good once = (
    λ d m.
        let at = member_contains d cs m in
        let apart : c.rays ≡ d.rays → ⊥ = (λ e.
        let same = same_sig fan is c d (legal 0 c (omega arith)) (all_member (LegalAt fan) d (c ∷ cs) legal (inr m)) (good 0 c (omega arith)) (all_member (GoodAt fan) d (c ∷ cs) good (inr m)) e in
        let long = length-map cs (λ (x : FanChamber). x.sig) in
        let there : get_or (signatures_in cs) at.0 [] ≡ d.sig = sig_here cs at.0 d at.1 ∙ ap (λ (x : FanChamber). x.sig) at.2 in
        once 0 (suc at.0) [] (omega arith) (let h = at.1 in omega (arith, long, h)) (same ∙ sym there)) in
        one_first c.rays d.rays (slice_cmp (slice_cmp int_cmp) c.rays d.rays) (slice_cmp (slice_cmp int_cmp) d.rays c.rays) refl refl (ray_lists_total.antisymm c.rays d.rays) apart,
    comparable is cs (λ i d h. legal (suc i) d (omega arith)) (λ i d h. good (suc i) d (omega arith)) (tail_once c.sig (signatures_in cs) once),
  )

  -- ---- a chamber as it is listed
  side_for : (sigs : List Signature) (all : List FanChamber) (rays : List Vector) (n : Vector) → AllOfLength fan.k rays → length n ≡ fan.k → LeadsAmong fan sigs rays n
      → (s : Side) × SideAmong fan sigs all rays n s
  side_for sigs all rays n long entries leads = elim (leads_or_not fan rays n long entries) [
    | inl out ↦ (boundary, out)
    | inr inside ↦
        let t = inside.1.0 in
        let at = leads t inside.0 inside.1.1 in
        let same : get_or sigs at.0 [] ≡ t = get_or_default sigs at.0 [] t at.1 ∙ at.2 in
        let matched = a_bool (Shares all (at.0 + 1) rays n) (shares_decided all (at.0 + 1) rays n) in (
          inner (at.0 + 1) matched.0,
          (inside.0, record { place = at.0; in_range = at.1; is = refl; signature = subst (IsSignature fan (crossing fan.k rays n)) (sym same) inside.1.1; mark = matched.1 }),
        )
  ]

  facets_for : (sigs : List Signature) (all : List FanChamber) (rays normals : List Vector) → AllOfLength fan.k rays → AllOfLength fan.k normals → All (LeadsAmong fan sigs rays) normals
      → (fs : List Facet) × (normals_in fs ≡ normals) × All (λ (f : Facet). SideAmong fan sigs all rays f.normal f.side) fs
  facets_for sigs all rays [] long entries leads = ([], refl, All-nil (λ (f : Facet). SideAmong fan sigs all rays f.normal f.side))
  facets_for sigs all rays (n ∷ normals) long entries leads =
      let s = side_for sigs all rays n long (entries 0 n (omega arith)) (leads 0 n (omega arith)) in
      let rest = facets_for sigs all rays normals long (λ i d h. entries (suc i) d (omega arith)) (λ i d h. leads (suc i) d (omega arith)) in
      let f : Facet = record { normal = n; side = s.0 } in
      (f ∷ rest.0, (λ i. n ∷ rest.1 i), All-cons (λ (g : Facet). SideAmong fan sigs all rays g.normal g.side) f rest.0 s.1 rest.2)

  shown_for : (sigs : List Signature) (all cs : List FanChamber) → All (Ready fan sigs) cs → (ms : List Chamber) × AllZip (IsShown fan sigs all) cs ms
  shown_for sigs all [] ok = ([], tt)
  shown_for sigs all (c ∷ cs) ok =
      let r = ok 0 c (omega arith) in
      let fs = facets_for sigs all c.rays c.facets r.rays r.facets r.leads in
      let rest = shown_for sigs all cs (λ i d h. ok (suc i) d (omega arith)) in
      (record { rays = c.rays; weight = c.weight; crossed = c.crossed; facets = fs.0 } ∷ rest.0, (record { same_rays = refl; same_weight = refl; same_crossed = refl; same_normals = fs.1; sides = fs.2 }, rest.1))

  -- ---- the listing
  pub a_listing : (first : Signature) (r : ℕ) (sigs : List Signature) → IsFan fan.k fan.list → IsLegal fan first → IsReach (IsNext fan) first sigs → AllGood fan first → (l : Listing) × IsListing fan first r l
  a_listing first r sigs is legal reach all = (
    record { version = 2; k = fan.k; r = r; cones = length fan.list; chambers = shown.0 },
    listing_of_shown fan first r cs shown.0 sound complete good order shown.1 fan.k r (length fan.list) refl refl refl,
  ) where
    AtAll : Signature → Type 0
    AtAll s = Reached (IsNext fan) first s

    raw : (cs : List FanChamber) × (signatures_in cs ≡ sigs) × All (GoodAt fan) cs
    raw = gather sigs (λ s m. all s (all_member AtAll s sigs reach.sound m))

    legal_raw : All (LegalAt fan) raw.0
    legal_raw = legal_all fan first raw.0 legal (subst (All AtAll) (sym raw.1) reach.sound)

    sorted : (list : List FanChamber) × Rattle.git_lemmas.proofs.Sorting.IsSorting RaysBefore raw.0 list
    sorted = sort RaysBefore (λ x y z p q. ray_lists_total.trans x.rays y.rays z.rays p q) raw.0 (comparable is raw.0 legal_raw raw.2 (subst IsOnce (sym raw.1) reach.once))

    cs : List FanChamber
    cs = sorted.0

    good : All (GoodAt fan) cs
    good = member_all (GoodAt fan) cs (λ c m. all_member (GoodAt fan) c raw.0 raw.2 (sorted.1.back c m))

    order : Rattle.std.specs.List.AllPairs RaysBefore cs
    order = pairs_of_ascends RaysBefore cs sorted.1.ascends

    back : (s : Signature) → Member s (signatures_in cs) → AtAll s
    back s m =
        let c = member_sig cs s m in
        let n : Member c.0.sig sigs = subst (λ (l : List Signature). Member c.0.sig l) raw.1 (sig_member raw.0 c.0 (sorted.1.back c.0 c.1)) in
        subst AtAll c.2 (all_member AtAll c.0.sig sigs reach.sound n)

    sound : All AtAll (signatures_in cs)
    sound = member_all AtAll (signatures_in cs) back

    complete : (s : Signature) → AtAll s → Contains (signatures_in cs) s
    complete s at =
        let m : Member s (signatures_in raw.0) = subst (λ (l : List Signature). Member s l) (sym raw.1) (contains_member s sigs (reach.complete s at)) in
        let c = member_sig raw.0 s m in
        let n : Member c.0.sig (signatures_in cs) = sig_member cs c.0 (sorted.1.to c.0 c.1) in
        member_contains s (signatures_in cs) (subst (λ (t : Signature). Member t (signatures_in cs)) c.2 n)

    readies : All (Ready fan (signatures_in cs)) cs
    readies = member_all (Ready fan (signatures_in cs)) cs (λ c m. ready fan first (signatures_in cs) c legal complete (back c.sig (sig_member cs c m)) (all_member (GoodAt fan) c cs good m))

    shown : (ms : List Chamber) × AllZip (IsShown fan (signatures_in cs) cs) cs ms
    shown = shown_for (signatures_in cs) cs cs readies
