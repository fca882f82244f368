-- Faces have one number, and what is stable beside a wall is stable on it.
use Rattle.std.proofs.Common.{◌≡◌, ◌∙◌, ◌<◌, ◌∷◌, [], List, arith, get_or, inl, inr, length, map, refl, subst, sym, ℕ}
use Rattle.std.proofs.Math.IntN.{ℤ, negsuc, pos}
use Rattle.std.proofs.lemmas.Bool.{cases_lt}
use Rattle.std.proofs.lemmas.Int.{ints}
use Rattle.std.proofs.lemmas.List.{length-map}
use Rattle.std.specs.Prelude.{AllPairs, Contains, ◌<ℤ◌, ◌≢◌}
use Rattle.git_defs.proofs.Closed.{sign_of}
use Rattle.git_defs.proofs.Lengths.{OfLength, all_of_length}
use Rattle.git_defs.specs.Cones.{Cut, SameSet}
use Rattle.git_defs.specs.Faces.{SameCone, face_cone}
use Rattle.git_defs.specs.Vectors.{AllOfLength, Vector, dot, scale, units, vector_sum}
use Rattle.git_cone_faces.proofs.Levels.{closed_sum}
use Rattle.git_cone_faces.proofs.Walls.{on_wall_of_length, wall_member}
use Rattle.git_cone_faces.specs.Faces.{on_wall}
use Rattle.git_geometry.proofs.Cuts.{cut_closed, cut_of}
use Rattle.git_geometry.proofs.Inside.{germ_of_length, length-vector_sum}
use Rattle.git_geometry.proofs.Signs.{signs_of_holds}
use Rattle.git_geometry.specs.Germs.{Holds, first_sign, sign_at}
use Rattle.git_lemmas.proofs.Members.{all_member}
use Rattle.git_machine.specs.Signatures.{Has, Signature}
use Rattle.git_orbit.proofs.Fans.{face_of_cone, read_cone}
use Rattle.git_orbit.proofs.Walls.{weight_in}
use Rattle.git_orbit.specs.Orbits.{greatest_of}
use Rattle.git_orbit.specs.Signatures.{IsHolding, IsSignature, cone_in, facets_at}
use Rattle.git_orbit.specs.declared.orbit.OrbitCone.{OrbitCone}
use Rattle.git_chamber.specs.Chambers.{crossing}
use Rattle.git_chamber.specs.Nexts.{crossing_ends}
use Rattle.git_bunch.specs.Stable.{Family, IsFamily, IsNumberOf, Stable}

-- ---- one number
apart : (xs : List ℕ) (i j : ℕ) → AllPairs (λ (m n : ℕ). n < m) xs → i < j → j < length xs → get_or xs i 0 ≡ get_or xs j 0 → ⊥
apart xs i j fall low room e = let f = fall i j 0 low room in omega (arith, e, f)

pub one_number : (F : Family) (mask i j : ℕ) → IsFamily F → IsNumberOf F.fan F.columns mask i → IsNumberOf F.fan F.columns mask j → i ≡ j
one_number F mask i j is a b =
    let k = F.fan.k in
    let list = F.fan.list in
    let masks = greatest_of list in
    let r = read_cone k list i a.in_range in
    let s = read_cone k list j b.in_range in
    let er = is.cones.each r.cone r.member in
    let es = is.cones.each s.cone s.member in
    let to_r = subst (λ (ns : List Vector). SameSet (Cut k ns) (face_cone k F.columns r.cone.greatest)) (sym r.facets) (face_of_cone k F.columns (Contains F.free) r.cone er) in
    let to_s = subst (λ (ns : List Vector). SameSet (Cut k ns) (face_cone k F.columns s.cone.greatest)) (sym s.facets) (face_of_cone k F.columns (Contains F.free) s.cone es) in
    let same : SameCone k F.columns r.cone.greatest s.cone.greatest = (λ x. (λ h. (to_s x).0 ((b.cone x).1 ((a.cone x).0 ((to_r x).1 h))), λ h. (to_r x).0 ((a.cone x).1 ((b.cone x).0 ((to_s x).1 h))))) in
    let low = es.greatest.greatest r.cone.greatest er.greatest.is_face same in
    let high = er.greatest.greatest s.cone.greatest es.greatest.is_face (λ x. ((same x).1, (same x).0)) in
    let g : r.cone.greatest ≡ s.cone.greatest = omega (arith, low, high) in
    let e : get_or masks i 0 ≡ get_or masks j 0 = r.greatest ∙ g ∙ sym s.greatest in
    let long = length-map list (λ (c : OrbitCone). c.greatest) in
    elim (cases_lt i j) [
      | inl l ↦ absurd (apart masks i j is.cones.cones.descending l (let h = b.in_range in omega (arith, long, h)) e)
      | inr h ↦ elim (cases_lt j i) [
        | inl l ↦ absurd (apart masks j i is.cones.cones.descending l (let h = a.in_range in omega (arith, long, h)) (sym e))
        | inr l ↦ omega (arith, h, l)
      ]
    ]

-- ---- beside a wall
negative_first : (z : ℤ) (zs : List ℤ) → z <ℤ pos 0 → first_sign (z ∷ zs) ≡ negsuc 0
negative_first (pos n) zs h = absurd (omega (arith, ints, h))
negative_first (negsuc n) zs h = refl

-- a cone that holds a germ holds its first vector
pub germ_begins_inside : (k : ℕ) (normals germ : List Vector) (v : Vector) → OfLength k (v ∷ germ) → Holds k (Cut k normals) (v ∷ germ) → Cut k normals v
germ_begins_inside k normals germ v have holds = cut_of (have.each v (inl refl)) (λ n m. elim (sign_of (dot n v)) [
  | inl side ↦ side
  | inr below ↦ absurd (all_member (λ (u : Vector). sign_at u (v ∷ germ) ≢ negsuc 0) n normals (signs_of_holds k normals (v ∷ germ) have holds) m (negative_first (dot n v) (map (dot n) germ) below))
])

module _ (F : Family) (rays : List Vector) (n : Vector) (middle : Signature) (long : AllOfLength F.fan.k rays) (entries : length n ≡ F.fan.k)
    (at_wall : IsSignature F.fan (vector_sum F.fan.k (on_wall n rays) ∷ []) middle) where
  have : OfLength F.fan.k rays
  have = all_of_length F.fan.k rays long

  middle_has : (i : ℕ) → i < length F.fan.list → cone_in F.fan i (vector_sum F.fan.k (on_wall n rays)) → Has middle i
  middle_has i low holds = (weight_in F.fan (vector_sum F.fan.k (on_wall n rays)) middle (length-vector_sum F.fan.k (on_wall n rays) (on_wall_of_length F.fan.k n rays have)) at_wall i).1 (low, holds)

  pub side_in_wall : (s : Signature) (mask : ℕ) → IsHolding F.fan rays s → Stable F s mask → Stable F middle mask
  side_in_wall s mask holding stable =
      let p = (holding.each stable.number).0 stable.has in
      record {
        free = stable.free;
        number = stable.number;
        is = stable.is;
        has = middle_has stable.number p.0 (closed_sum F.fan.k (cone_in F.fan stable.number) (on_wall n rays) (cut_closed F.fan.k (facets_at F.fan stable.number))
            (λ v m. all_member (cone_in F.fan stable.number) v rays p.1 (wall_member n rays v m).0));
      }

  pub far_side_in_wall : (other : Signature) (mask : ℕ) → IsSignature F.fan (crossing F.fan.k rays n) other → Stable F other mask → Stable F middle mask
  far_side_in_wall other mask leads stable =
      let p = (leads.each stable.number).0 stable.has in
      record {
        free = stable.free;
        number = stable.number;
        is = stable.is;
        has = middle_has stable.number p.0 (germ_begins_inside F.fan.k (facets_at F.fan stable.number) (scale (negsuc 0) n ∷ units F.fan.k) (vector_sum F.fan.k (on_wall n rays))
            (germ_of_length F.fan.k (crossing F.fan.k rays n) (crossing_ends F.fan.k rays n have entries)) p.1);
      }
