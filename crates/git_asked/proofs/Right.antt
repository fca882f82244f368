-- A listed chamber that shows what the cones around its rays have, and where its walls lead.
use Rattle.std.proofs.Common.{◌≡◌, ◌∷◌, [], Contains, List, arith, inl, inr, refl, subst, suc, sym, zero, ℕ}
use Rattle.std.specs.Prelude.{slice_get, Some}
use Rattle.git_lemmas.specs.Members.{Member}
use Rattle.git_lemmas.proofs.Members.{contains_member}
use Rattle.git_lemmas.proofs.Options.{some_is}
use Rattle.git_defs.specs.Vectors.{HasRank, Vector}
use Rattle.git_defs.specs.Cones.{Cut}
use Rattle.git_geometry.proofs.Facets.{rays_generate}
use Rattle.git_geometry.proofs.Independence.{rank_pointed}
use Rattle.git_geometry.proofs.Inside.{inside_rank}
use Rattle.git_geometry.proofs.Rays.{rays_along, same_back}
use Rattle.git_machine.specs.Signatures.{Has, Signature}
use Rattle.git_machine.specs.Reach.{LeadsTo}
use Rattle.git_orbit.specs.Orbits.{Fan, IsFan}
use Rattle.git_orbit.specs.Signatures.{InChamber, IsHolding, IsSignature}
use Rattle.git_orbit.proofs.Signatures.{one_signature}
use Rattle.git_listing.specs.Listings.{Chamber, normals_of}
use Rattle.git_chamber.specs.Chambers.{AreCrossings, IsCell, IsChamber, IsFullSet, IsInner, IsMark, IsNarrow, IsNext, LeadsOn, crossing}
use Rattle.git_chamber.specs.Views.{FanChamber}
use Rattle.git_chamber.specs.declared.cell.Cell.{Cell}
use Rattle.git_chamber.specs.declared.cell.Cell.TheVariants.{Good}
use Rattle.git_chamber.proofs.Existence.{next_exists}
use Rattle.git_chamber.proofs.Facets.{walls_cut, walls_have, walls_point, walls_rank}
use Rattle.git_chamber.proofs.Fulls.{rays_make_full}
use Rattle.git_chamber.proofs.Gatherings.{walls_exist}
use Rattle.git_chamber.proofs.Uniqueness.{one_cell}

-- the chamber shows what the cones that hold its rays have
pub record IsRight (fan : Fan) (s : Signature) (c : Chamber) : Type 0 where
  pub holding : IsHolding fan c.rays s
  pub member : ℕ
  pub has : Has s member
  pub narrow : IsNarrow fan s
  pub chamber : IsChamber fan s c.rays (normals_of c) c.weight
  pub rank : HasRank fan.k c.rays
  pub mark : IsMark fan s c.weight c.crossed

-- an inner wall among the normals leads to the signature
pub record IsThrough (fan : Fan) (rays normals : List Vector) (t : Signature) : Type 0 where
  pub place : ℕ
  pub normal : Vector
  pub stands : slice_get normals place ≡ Some normal
  pub inner : IsInner fan rays normal
  pub signature : IsSignature fan (crossing fan.k rays normal) t

module _ (fan : Fan) where
  -- ---- crossings, both ways
  to_crossing : (rays normals : List Vector) (ns : List Signature) → AreCrossings fan rays normals ns → (j : ℕ) (n : Vector) (t : Signature) → slice_get normals j ≡ Some n
      → IsInner fan rays n → IsSignature fan (crossing fan.k rays n) t → Contains ns t
  to_crossing rays [] ns p j n t e holds is = absurd (cc e)
  to_crossing rays (m ∷ normals) ns p zero n t e holds is =
      let same = some_is m n e in
      elim p [
        | inl q ↦ absurd (q.0 (subst (IsInner fan rays) (sym same) holds))
        | inr q ↦
            let one = one_signature fan (crossing fan.k rays n) q.1 t (subst (λ v. IsSignature fan (crossing fan.k rays v) q.1) same q.4) is in
            subst (λ l. Contains l t) (sym q.3) (0, omega arith, one)
      ]
  to_crossing rays (m ∷ normals) ns p (suc j) n t e holds is = elim p [
    | inl q ↦ to_crossing rays normals ns q.1 j n t e holds is
    | inr q ↦ (let c = to_crossing rays normals q.2 q.5 j n t e holds is in subst (λ l. Contains l t) (sym q.3) (suc c.0, omega (arith, c.1), c.2))
  ]

  one_more : (rays normals : List Vector) (m : Vector) (t : Signature) → IsThrough fan rays normals t → IsThrough fan rays (m ∷ normals) t
  one_more rays normals m t h = record { place = suc h.place; normal = h.normal; stands = h.stands; inner = h.inner; signature = h.signature }

  from_crossing : (rays normals : List Vector) (ns : List Signature) → AreCrossings fan rays normals ns → (t : Signature) → Member t ns → IsThrough fan rays normals t
  from_crossing rays [] ns p t m = absurd (subst (Member t) p m)
  from_crossing rays (n ∷ normals) ns p t m = elim p [
    | inl q ↦ one_more rays normals n t (from_crossing rays normals ns q.1 t m)
    | inr q ↦ elim (subst (Member t) q.3 m) [
      | inl e ↦ record { place = 0; normal = n; stands = refl; inner = q.0; signature = subst (IsSignature fan (crossing fan.k rays n)) e q.4 }
      | inr o ↦ one_more rays normals n t (from_crossing rays normals q.2 q.5 t o)
    ]
  ]

  -- ---- what is told of the signature of a right chamber
  abbrev as_told : Signature → Chamber → FanChamber
  as_told s c = record { sig = s; rays = c.rays; facets = normals_of c; weight = c.weight; crossed = c.crossed }

  good_cell : (s : Signature) (c : Chamber) → IsRight fan s c → IsCell fan s (Good (as_told s c))
  good_cell s c r = (r.narrow, record { sig_is = refl; chamber = r.chamber; mark = r.mark })

  next_crosses : (s : Signature) (c : Chamber) (ns : List Signature) → IsRight fan s c → IsNext fan s ns → AreCrossings fan c.rays (normals_of c) ns
  next_crosses s c ns r n = subst (λ (x : Cell). LeadsOn fan x ns) (one_cell fan s n.0 (Good (as_told s c)) n.1 (good_cell s c r)) n.2

  module _ (is : IsFan fan.k fan.list) (s : Signature) (c : Chamber) (r : IsRight fan s c) where
    full : IsFullSet fan s
    full = rays_make_full fan c.rays s r.member r.rank r.holding r.has

    -- an inner facet of it leads on
    pub leads_on : (j : ℕ) (n : Vector) (t : Signature) → slice_get (normals_of c) j ≡ Some n → IsInner fan c.rays n → IsSignature fan (crossing fan.k c.rays n) t → LeadsTo (IsNext fan) s t
    leads_on j n t e holds sig =
        let ns = next_exists fan s is full in
        (ns.0, ns.1, to_crossing c.rays (normals_of c) ns.0 (next_crosses s c ns.0 r ns.1) j n t e holds sig)

    -- and it leads on by inner facets alone
    pub leads_by : (t : Signature) → LeadsTo (IsNext fan) s t → IsThrough fan c.rays (normals_of c) t
    leads_by t l = from_crossing c.rays (normals_of c) l.0 (next_crosses s c l.0 r l.1) t (contains_member t l.0 l.2)

  -- ---- the rays of a set of full dimension have full rank
  pub rays_rank : (s : Signature) (rays facets : List Vector) (weight : Vector) → IsFan fan.k fan.list → IsFullSet fan s → IsChamber fan s rays facets weight → HasRank fan.k rays
  rays_rank s rays facets weight is whole c =
      let walls = (walls_exist fan s is whole.numbers).0 in
      let are = (walls_exist fan s is whole.numbers).1 in
      let line_free = rank_pointed fan.k walls (walls_have fan s is whole.numbers walls are) (walls_rank fan s is whole.numbers walls are) in
      inside_rank fan.k walls rays
      (rays_generate fan.k walls rays line_free (rays_along fan.k (InChamber fan s) (Cut fan.k walls) rays (same_back (Cut fan.k walls) (InChamber fan s) (walls_cut fan s is whole.numbers walls are)) c.rays_are))
      (walls_point fan s is whole walls are)
