-- The laws of the graph of signatures: each has one next, and what a legal one leads to is legal.
use Rattle.std.specs.Prelude.{◌≡◌, ℕ, ◌<◌, List, [], ◌∷◌, length, negsuc}
use Rattle.std.specs.List.{All}
use Rattle.std.proofs.Common.{◌∙◌, ap, arith, inl, inr, refl, subst, sym}
use Rattle.std.proofs.lemmas.List.Elements.{All-cons, All-nil}
use Rattle.git_lemmas.proofs.Members.{member_contains}
use Rattle.git_defs.specs.Vectors.{Vector, scale, vector_sum}
use Rattle.git_defs.specs.Cones.{AreRays, Dual}
use Rattle.git_defs.proofs.Linear.{length-scale}
use Rattle.git_defs.proofs.Lengths.{OfLength, first_of_length, more_of_length, none_of_length, of_length_all, rest_of_length}
use Rattle.git_geometry.specs.Germs.{EndsWithUnits}
use Rattle.git_geometry.proofs.Inside.{length-vector_sum}
use Rattle.git_geometry.proofs.Sorted.{rays_once}
use Rattle.git_cone_faces.specs.Faces.{on_wall}
use Rattle.git_cone_faces.proofs.Walls.{on_wall_of_length}
use Rattle.git_machine.specs.Signatures.{Has, Signature}
use Rattle.git_orbit.specs.Orbits.{Fan}
use Rattle.git_orbit.specs.Signatures.{InChamber, IsLegal, IsSignature}
use Rattle.git_orbit.proofs.Signatures.{one_signature}
use Rattle.git_chamber.specs.Views.{FanChamber}
use Rattle.git_chamber.specs.Chambers.{AreCrossings, IsCell, IsChamber, IsGood, IsNext, IsNumbers, LeadsOn, crossing}
use Rattle.git_chamber.specs.declared.cell.Cell.{Cell}
use Rattle.git_chamber.specs.declared.cell.Cell.TheVariants.{Good, Wide}

-- ---- lengths
-- the germ of a crossing has vectors of k entries, and ends with the unit vectors
pub crossing_ends : (k : ℕ) (rays : List Vector) (n : Vector) → OfLength k rays → length n ≡ k → EndsWithUnits k (crossing k rays n)
crossing_ends k rays n have entries = record {
  front = vector_sum k (on_wall n rays) ∷ scale (negsuc 0) n ∷ [];
  is = refl;
  entries = of_length_all k (vector_sum k (on_wall n rays) ∷ scale (negsuc 0) n ∷ []) (more_of_length k (vector_sum k (on_wall n rays)) (scale (negsuc 0) n ∷ [])
      (length-vector_sum k (on_wall n rays) (on_wall_of_length k n rays have)) (more_of_length k (scale (negsuc 0) n) [] (length-scale (negsuc 0) n ∙ entries) (none_of_length k)));
}

module _ (fan : Fan) where
  -- ---- one next
  pub same_weight : (sig : Signature) (r s f g : List Vector) (v w : Vector) → IsChamber fan sig r f v → IsChamber fan sig s g w → v ≡ w
  same_weight sig r s f g v w p q = p.weight_is ∙ ap (vector_sum fan.k) (rays_once fan.k (InChamber fan sig) r s p.rays_are q.rays_are) ∙ sym q.weight_is

  pub one_list : (rays normals : List Vector) (a b : List Signature) → AreCrossings fan rays normals a → AreCrossings fan rays normals b → a ≡ b
  one_list rays [] a b p q = p ∙ sym q
  one_list rays (n ∷ normals) a b p q = elim p [
    | inl f ↦ elim q [ inl g ↦ one_list rays normals a b f.1 g.1 | inr g ↦ absurd (f.0 g.0) ]
    | inr f ↦ elim q [
      | inl g ↦ absurd (g.0 f.0)
      | inr g ↦
          let head = one_signature fan (crossing fan.k rays n) f.1 g.1 f.4 g.4 in
          let tail = one_list rays normals f.2 g.2 f.5 g.5 in
          f.3 ∙ (λ i. head i ∷ tail i) ∙ sym g.3
    ]
  ]

  good_same : (sig : Signature) (c d : FanChamber) (a b : List Signature) → IsGood fan sig c → IsGood fan sig d
      → AreCrossings fan c.rays c.facets a → AreCrossings fan d.rays d.facets b → a ≡ b
  good_same sig c d a b p q f g =
      let rays = rays_once fan.k (InChamber fan sig) c.rays d.rays p.chamber.rays_are q.chamber.rays_are in
      let facets = rays_once fan.k (Dual fan.k (InChamber fan sig)) c.facets d.facets p.chamber.facets_are q.chamber.facets_are in
      one_list d.rays d.facets a b (subst (λ (r : List Vector). AreCrossings fan r d.facets a) rays (subst (λ (n : List Vector). AreCrossings fan c.rays n a) facets f)) g

  same_next : (sig : Signature) (c d : Cell) (a b : List Signature) → IsCell fan sig c → IsCell fan sig d → LeadsOn fan c a → LeadsOn fan d b → a ≡ b
  same_next sig (Good c) (Good d) a b p q f g = good_same sig c d a b p.1 q.1 f g
  same_next sig (Good c) (Wide at) a b p q f g = absurd (p.0 at q)
  same_next sig (Wide at) (Good d) a b p q f g = absurd (q.0 at p)
  same_next sig (Wide at) (Wide other) a b p q f g = f ∙ sym g

  pub one_next : (sig : Signature) (a b : List Signature) → IsNext fan sig a → IsNext fan sig b → a ≡ b
  one_next sig a b p q = same_next sig p.0 q.0 a b p.1 q.1 p.2 q.2

  -- ---- what a legal signature leads to is legal
  pub legal_numbers : (sig : Signature) → IsLegal fan sig → IsNumbers fan sig
  legal_numbers sig l = record { width = l.is.width; in_range = λ i has. ((l.is.each i).0 has).0; member = l.member; has_member = l.has_member }

  pub rays_have : (sig : Signature) (rays : List Vector) → IsNumbers fan sig → AreRays fan.k (InChamber fan sig) rays → OfLength fan.k rays
  rays_have sig rays l p = record { each = λ v m. (((p.each v).0 (member_contains v rays m)).edge.member l.member l.has_member).entries }

  pub facets_have : (sig : Signature) (facets : List Vector) → AreRays fan.k (Dual fan.k (InChamber fan sig)) facets → OfLength fan.k facets
  facets_have sig facets p = record { each = λ v m. ((p.each v).0 (member_contains v facets m)).edge.member.entries }

  legal_list : (rays normals : List Vector) (ns : List Signature) → 0 < length fan.list → OfLength fan.k rays → OfLength fan.k normals
      → AreCrossings fan rays normals ns → All (IsLegal fan) ns
  legal_list rays [] ns some long all p = subst (All (IsLegal fan)) (sym p) (All-nil (IsLegal fan))
  legal_list rays (n ∷ normals) ns some long all p =
      let rest = rest_of_length fan.k n normals all in
      elim p [
        | inl q ↦ legal_list rays normals ns some long rest q.1
        | inr q ↦
            let t : IsLegal fan q.1 = record {
              germ = crossing fan.k rays n;
              ends = crossing_ends fan.k rays n long (first_of_length fan.k n normals all);
              is = q.4;
              member = 0;
              has_member = (q.4.each 0).1 (some, q.0);
            } in
            subst (All (IsLegal fan)) (sym q.3) (All-cons (IsLegal fan) q.1 q.2 t (legal_list rays normals q.2 some long rest q.5))
      ]

  legal_on : (sig : Signature) (c : Cell) (ns : List Signature) → IsLegal fan sig → IsCell fan sig c → LeadsOn fan c ns → All (IsLegal fan) ns
  legal_on sig (Good c) ns l p f =
      legal_list c.rays c.facets ns (let low = ((l.is.each l.member).0 l.has_member).0 in omega (arith, low))
      (rays_have sig c.rays (legal_numbers sig l) p.1.chamber.rays_are) (facets_have sig c.facets p.1.chamber.facets_are) f
  legal_on sig (Wide at) ns l p f = subst (All (IsLegal fan)) (sym f) (All-nil (IsLegal fan))

  pub next_legal : (sig : Signature) (ns : List Signature) → IsLegal fan sig → IsNext fan sig ns → All (IsLegal fan) ns
  next_legal sig ns l p = legal_on sig p.0 ns l p.1 p.2
