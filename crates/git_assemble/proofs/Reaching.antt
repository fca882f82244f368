-- The chambers of all that is reached: their order, and where their walls lead.
use Rattle.std.proofs.Common.{◌≡◌, ◌⊎◌, ◌<◌, ◌∙◌, ◌∷◌, [], All, AllPairs, List, ap, arith, false, get_or, inl, inr, length, refl, subst, suc, sym, true, zero, ℕ}
use Rattle.std.specs.FinMap.{int_cmp-IsAntisymmetric, slice_cmp-IsAntisymmetric}
use Rattle.std.specs.Cmp.Lexicographic.{slice_cmp}
use Rattle.std.specs.List.{Contains}
use Rattle.std.specs.Ordering.{int_cmp, is_lt, ordering_reverse}
use Rattle.std.specs.declared.cmp.Ordering.{Ordering}
use Rattle.std.specs.declared.cmp.Ordering.TheVariants.{Equal, Greater, Less}
use Rattle.std.proofs.lemmas.List.{get_or-map, length-map}
use Rattle.std.proofs.lemmas.List.Elements.{All-cons, All-nil}
use Rattle.git_defs.specs.Vectors.{AllOfLength, Vector, vector_sum}
use Rattle.git_machine.specs.Signatures.{Signature}
use Rattle.git_machine.specs.Reach.{IsOnce, IsReach, Reached}
use Rattle.git_machine.specs.declared.successors.Found.{Found}
use Rattle.git_plain.specs.Closing.{signatures_of}
use Rattle.git_orbit.specs.Orbits.{Fan, IsFan}
use Rattle.git_chamber.proofs.Inner.{rays_tell}
use Rattle.git_orbit.specs.Signatures.{IsLegal, IsSignature}
use Rattle.git_orbit.proofs.Signatures.{one_signature}
use Rattle.git_chamber.specs.Views.{FanChamber}
use Rattle.git_chamber.specs.Chambers.{AreCrossings, IsBehind, IsCell, IsInner, IsNext, crossing}
use Rattle.git_chamber.specs.declared.cell.Cell.{Cell}
use Rattle.git_chamber.specs.declared.cell.Side.{Side}
use Rattle.git_chamber.specs.declared.cell.Side.TheVariants.{Boundary, Inner}
use Rattle.git_chamber.proofs.Existence.{side_exists}
use Rattle.git_chamber.specs.declared.cell.Cell.TheVariants as cell
use Rattle.git_chamber.proofs.Graphs.{facets_of_length, legal_numbers, rays_of_length, reached_legal}
use Rattle.git_assemble.specs.Assembling.{AllGood}
use Rattle.git_assemble.specs.Making.{good_cells, nothing, payloads_of, signatures_in}
use Rattle.git_assemble.proofs.OneListing.{ray_lists_total}

-- ---- the order of rays
abbrev pub RaysBefore : FanChamber → FanChamber → Type 0
RaysBefore c d = slice_cmp (slice_cmp int_cmp) c.rays d.rays ≡ Less

pub same_rays : (a b : List Vector) → slice_cmp (slice_cmp int_cmp) a b ≡ Equal → a ≡ b
same_rays a b e = slice_cmp-IsAntisymmetric (slice_cmp-IsAntisymmetric int_cmp-IsAntisymmetric) a b e

-- not after: equal, or before
not_after : (a b : List Vector) (o p : Ordering) → slice_cmp (slice_cmp int_cmp) a b ≡ o → o ≡ ordering_reverse p → is_lt p ≡ false → (a ≡ b) ⊎ (slice_cmp (slice_cmp int_cmp) a b ≡ Less)
not_after a b Less p e r n = inr e
not_after a b Equal p e r n = inl (same_rays a b e)
not_after a b Greater Less e r n = absurd (let g : true ≡ false = n in cc)
not_after a b Greater Equal e r n = absurd (let g : Greater ≡ Equal = r in cc)
not_after a b Greater Greater e r n = absurd (let g : Greater ≡ Less = r in cc)

pub sig_here : (cs : List FanChamber) (i : ℕ) (d : FanChamber) → i < length cs → get_or (signatures_in cs) i [] ≡ (get_or cs i d).sig
sig_here cs i d low = get_or-map (λ (c : FanChamber). c.sig) cs i d [] low

module _ (fan : Fan) where
  -- a good chamber, told of its signature
  abbrev pub GoodAt : FanChamber → Type 0
  GoodAt c = IsCell fan c.sig (cell.Good c)

  -- its signature is legal
  abbrev pub LegalAt : FanChamber → Type 0
  LegalAt c = IsLegal fan c.sig

  told : (sig : Signature) (x : Cell) (c : FanChamber) → IsCell fan sig x → x ≡ cell.Good c → IsCell fan sig (cell.Good c)
  told sig x c is e = subst (IsCell fan sig) e is

  pub own_sig : (sig : Signature) (c : FanChamber) → IsCell fan sig (cell.Good c) → GoodAt c
  own_sig sig c is = subst (λ (s : Signature). IsCell fan s (cell.Good c)) (sym is.1.sig_is) is

  -- the chambers of what is found, where all is good
  pub found_good : (found : List (Found Cell)) (cs : List FanChamber) → All (λ f. IsCell fan f.sig f.payload) found → payloads_of found ≡ good_cells cs
      → (signatures_of found ≡ signatures_in cs) × All GoodAt cs
  found_good [] [] all e = (refl, All-nil GoodAt)
  found_good [] (c ∷ cs) all e = absurd (omega (arith, ap length e))
  found_good (f ∷ found) [] all e = absurd (omega (arith, ap length e))
  found_good (f ∷ found) (c ∷ cs) all e =
      let head : f.payload ≡ cell.Good c = cc in
      let tail : payloads_of found ≡ good_cells cs = cc in
      let here = told f.sig f.payload c (all 0 f (omega arith)) head in
      let rest = found_good found cs (λ i d h. all (suc i) d (omega arith)) tail in
      let same : f.sig ≡ c.sig = sym here.1.sig_is in
      (λ i. same i ∷ rest.0 i, All-cons GoodAt c cs (own_sig f.sig c here) rest.1)

  -- two good chambers with equal rays have one signature
  pub same_sig : IsFan fan.k fan.list → (c d : FanChamber) → IsLegal fan c.sig → IsLegal fan d.sig → GoodAt c → GoodAt d → c.rays ≡ d.rays → c.sig ≡ d.sig
  same_sig is c d l m p q e = rays_tell fan c.sig d.sig c.rays d.rays c.facets d.facets c.weight d.weight is l m p.1.chamber q.1.chamber e

  -- sorted by rays, with no signature twice: strictly sorted
  pub strict : IsFan fan.k fan.list → (cs : List FanChamber) → All LegalAt cs → All GoodAt cs → AllPairs (λ c d. is_lt (slice_cmp (slice_cmp int_cmp) d.rays c.rays) ≡ false) cs → IsOnce (signatures_in cs)
      → AllPairs RaysBefore cs
  strict is cs legal good sorted once i j d less low =
      let a = get_or cs i d in
      let b = get_or cs j d in
      let long = length-map cs (λ (c : FanChamber). c.sig) in
      elim (not_after a.rays b.rays (slice_cmp (slice_cmp int_cmp) a.rays b.rays) (slice_cmp (slice_cmp int_cmp) b.rays a.rays) refl (ray_lists_total.antisymm a.rays b.rays) (sorted i j d less low)) [
        | inl e ↦ absurd (once i j [] less (omega (arith, long, low)) (sig_here cs i d (omega (arith, less, low)) ∙ same_sig is a b (legal i d (omega (arith, less, low))) (legal j d low) (good i d (omega (arith, less, low))) (good j d low) e ∙ sym (sig_here cs j d low)))
        | inr e ↦ e
      ]

  -- ---- where walls lead
  abbrev pub LeadsAmong : List Signature → List Vector → Vector → Type 0
  LeadsAmong sigs rays n = (t : Signature) → IsInner fan rays n → IsSignature fan (crossing fan.k rays n) t → Contains sigs t

  -- a wall isn't inner, or it leads to a signature
  abbrev pub Leads : List Vector → Vector → Type 0
  Leads rays n = (IsInner fan rays n → ⊥) ⊎ (IsInner fan rays n × ((t : Signature) × IsSignature fan (crossing fan.k rays n) t))

  pub leads_or_not : (rays : List Vector) (n : Vector) → AllOfLength fan.k rays → length n ≡ fan.k → Leads rays n
  leads_or_not rays n long entries = (let s = side_exists fan rays n long entries in by s.0 s.1) where
    by : (s : Side) → IsBehind fan rays n s → Leads rays n
    by (Boundary m) p = inl p.0
    by (Inner t) p = inr (p.0, (t, p.1))

  crossings : (rays normals : List Vector) → AllOfLength fan.k rays → AllOfLength fan.k normals → (ns : List Signature) × AreCrossings fan rays normals ns
  crossings rays [] long all = ([], refl)
  crossings rays (n ∷ normals) long all =
      let rest = crossings rays normals long (λ i d h. all (suc i) d (omega arith)) in
      elim (leads_or_not rays n long (all 0 n (omega arith))) [
        | inl out ↦ (rest.0, inl (out, rest.1))
        | inr inside ↦ (inside.1.0 ∷ rest.0, inr (inside.0, inside.1.0, rest.0, refl, inside.1.1, rest.1))
      ]

  leads_list : (rays normals : List Vector) (ns : List Signature) → AreCrossings fan rays normals ns → (i : ℕ) (d : Vector) (t : Signature) → i < length normals
      → IsInner fan rays (get_or normals i d) → IsSignature fan (crossing fan.k rays (get_or normals i d)) t → Contains ns t
  leads_list rays [] ns p i d t low holds is = absurd (omega arith)
  leads_list rays (n ∷ normals) ns p zero d t low holds is = elim p [
    | inl q ↦ absurd (q.0 holds)
    | inr q ↦ (let e = one_signature fan (crossing fan.k rays n) t q.1 is q.4 in subst (λ (l : List Signature). Contains l t) (sym q.3) (0, omega arith, sym e))
  ]
  leads_list rays (n ∷ normals) ns p (suc i) d t low holds is = elim p [
    | inl q ↦ leads_list rays normals ns q.1 i d t (omega arith) holds is
    | inr q ↦ (let c = leads_list rays normals q.2 q.5 i d t (omega arith) holds is in subst (λ (l : List Signature). Contains l t) (sym q.3) (suc c.0, omega (arith, c.1), c.2))
  ]

  -- a reached good chamber: vectors of k entries, and each inner wall leads to a reached signature
  pub record Ready (sigs : List Signature) (c : FanChamber) : Type 0 where
    pub rays : AllOfLength fan.k c.rays
    pub facets : AllOfLength fan.k c.facets
    pub leads : All (LeadsAmong sigs c.rays) c.facets

  pub ready : (first : Signature) (sigs : List Signature) (c : FanChamber) → IsLegal fan first → ((s : Signature) → Reached (IsNext fan) first s → Contains sigs s) → Reached (IsNext fan) first c.sig → GoodAt c → Ready sigs c
  ready first sigs c l complete at is =
      let legal = reached_legal fan first c.sig l at in
      let long = rays_of_length fan c.sig c.rays (legal_numbers fan c.sig legal) is.1.chamber.rays_are in
      let entries = facets_of_length fan c.sig c.facets is.1.chamber.facets_are in
      let ns = crossings c.rays c.facets long entries in
      record {
        rays = long;
        facets = entries;
        leads = λ i d low t holds sig.
            let inside = leads_list c.rays c.facets ns.0 ns.1 i d t low holds sig in
            complete t (c.sig ∷ at.0, ((ns.0, (cell.Good c, is, ns.1), inside), at.1));
      }

  pub reached_at : (first : Signature) (cs : List FanChamber) (i : ℕ) (d : FanChamber) → i < length cs → All (Reached (IsNext fan) first) (signatures_in cs) → Reached (IsNext fan) first (get_or cs i d).sig
  reached_at first cs i d low sound = subst (Reached (IsNext fan) first) (sig_here cs i d low) (sound i [] (let long = length-map cs (λ (c : FanChamber). c.sig) in omega (arith, long, low)))

  -- the signatures of chambers that are reached are legal
  pub legal_all : (first : Signature) (cs : List FanChamber) → IsLegal fan first → All (Reached (IsNext fan) first) (signatures_in cs) → All LegalAt cs
  legal_all first cs l sound i d low = reached_legal fan first (get_or cs i d).sig l (reached_at first cs i d low sound)

  -- all that is reached is good
  pub good_of : (first : Signature) (cs : List FanChamber) → IsReach (IsNext fan) first (signatures_in cs) → All GoodAt cs → AllGood fan first
  good_of first cs reach good s at =
      let here = reach.complete s at in
      let long = length-map cs (λ (c : FanChamber). c.sig) in
      let low : here.0 < length cs = (let h = here.1 in omega (arith, long, h)) in
      let same : (get_or cs here.0 nothing).sig ≡ s = sym (get_or-map (λ (c : FanChamber). c.sig) cs here.0 nothing s low) ∙ here.2 in
      (get_or cs here.0 nothing, subst (λ (t : Signature). IsCell fan t (cell.Good (get_or cs here.0 nothing))) same (good here.0 nothing low))
