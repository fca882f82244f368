-- The normals of a fan's cones: germs at them, and points that are inside of all of them.
use Rattle.std.proofs.Common.{◌≡◌, ◌≢◌, ◌↔◌, ◌∙◌, ◌<◌, ◌≤◌, ◌^◌, ◌-◌, ◌∷◌, [], All, List, ap, arith, inl, inr, length, map, refl, subst, suc, sym, zero, ℕ}
use Rattle.std.proofs.Math.IntN.{ℤ, negsuc, pos}
use Rattle.std.proofs.Math.Nat.{pow-zero}
use Rattle.std.proofs.lemmas.Int.{ints}
use Rattle.std.specs.Prelude.{Contains, ◌<ℤ◌}
use Rattle.git_canon.specs.Canons.{IsCanonOf}
use Rattle.git_defs.proofs.Closed.{cone_has}
use Rattle.git_defs.proofs.Lengths.{OfLength, all_of_length}
use Rattle.git_defs.proofs.Sums.{plus-zero, scale-one}
use Rattle.git_defs.specs.Vectors.{Vector, dot, plus, scale, units, vector_sum, zero_vector}
use Rattle.git_geometry.proofs.Cuts.{side_at}
use Rattle.git_geometry.proofs.Inside.{germ_of_length, inside_of_germ, inside_of_sum, length-vector_sum}
use Rattle.git_geometry.proofs.Signs.{holds_of_signs, signs_of_holds}
use Rattle.git_geometry.specs.Germs.{EndsWithUnits, HasInside, Holds, first_sign, germ_at, sign_at}
use Rattle.git_grading.specs.Gradings.{IsGrading}
use Rattle.git_lemmas.proofs.Members.{all_member, contains_member, member_all, member_contains}
use Rattle.git_lemmas.specs.Members.{Member}
use Rattle.git_machine.specs.Signatures.{Signature, Has}
use Rattle.git_orbit.proofs.Fans.{first_is_whole, read_cone}
use Rattle.git_orbit.specs.Orbits.{AreOrbitCones, Fan, IsFan}
use Rattle.git_orbit.specs.Signatures.{IsSignature, IsWall, cone_in, facets_at}
use Rattle.git_orbit.specs.declared.orbit.OrbitCone.{OrbitCone}
use Rattle.git_stages.proofs.Shorts.{short_length}

-- k entries, and not 0
pub record IsNormal (k : ℕ) (n : Vector) : Type 0 where
  pub entries : length n ≡ k
  pub nonzero : n ≢ zero_vector k

pub canon_normal : (k : ℕ) (C : Vector → Type 0) (e : OrbitCone) (n : Vector) → IsCanonOf k C e.canon → Member n e.canon.facets → IsNormal k n
canon_normal k C e n is m = record {
  entries = (short_length k e.canon.facets is.canonical.facets_short).each n m;
  nonzero = ((is.canon.are_facets.each n).0 (member_contains n e.canon.facets m)).edge.nonzero;
}

pub normal_at : (k : ℕ) (columns : List Vector) (accepted : ℕ → Type 0) (list : List OrbitCone) → AreOrbitCones k columns accepted list
    → (i : ℕ) → i < length list → (n : Vector) → Member n (facets_at (record { k = k; list = list }) i) → IsNormal k n
normal_at k columns accepted list are i low n m =
    let r = read_cone k list i low in
    canon_normal k _ r.cone n (are.each r.cone r.member).canon (subst (Member n) r.facets m)

-- ---- the walls of a germ's signature
pub walls_inside : (fan : Fan) (germ : List Vector) (sig : Signature) (walls : List Vector) → IsFan fan.k fan.list → EndsWithUnits fan.k germ
    → IsSignature fan germ sig → All (IsWall fan sig) walls → HasInside fan.k walls
walls_inside fan germ sig walls is ends signature all =
    inside_of_germ fan.k walls germ (record { each = λ n m. (normal n m).entries }) (λ n m. (normal n m).nonzero) ends
    (holds_of_signs fan.k walls germ have (member_all (λ (n : Vector). sign_at n germ ≢ negsuc 0) walls (λ n m.
    let w = all_member (IsWall fan sig) n walls all m in
    let holds = ((signature.each w.0).0 w.1).1 in
    all_member (λ (v : Vector). sign_at v germ ≢ negsuc 0) n (facets_at fan w.0) (signs_of_holds fan.k (facets_at fan w.0) germ have holds) (contains_member n (facets_at fan w.0) w.2))))
  where
    have : OfLength fan.k germ
    have = germ_of_length fan.k germ ends

    normal : (n : Vector) → Member n walls → IsNormal fan.k n
    normal n m =
        let w = all_member (IsWall fan sig) n walls all m in
        normal_at fan.k is.columns (Contains is.masks) fan.list is.cones w.0 ((signature.each w.0).0 w.1).0 n (contains_member n (facets_at fan w.0) w.2)

-- ---- the first germ
pub positive_first : (z : ℤ) (zs : List ℤ) → pos 0 <ℤ z → first_sign (z ∷ zs) ≢ negsuc 0
positive_first (pos zero) zs h e = absurd (omega (arith, ints, h))
positive_first (pos (suc n)) zs h e = absurd (omega (arith, ints, e))
positive_first (negsuc n) zs h e = absurd (omega (arith, ints, h))

pub first_germ_held : (k : ℕ) (columns : List Vector) (masks : List ℕ) (list : List OrbitCone) → IsGrading k columns → AreOrbitCones k columns (Contains masks) list
    → Contains masks (2 ^ length columns - 1) → Holds k (cone_in (record { k = k; list = list }) 0) (vector_sum k columns ∷ units k)
first_germ_held k columns masks list grading are given =
    let whole = first_is_whole k columns masks list grading.rank are given in
    let have = all_of_length k columns grading.matrix.lengths in
    let normal = normal_at k columns (Contains masks) list are 0 whole.0 in
    let facets = facets_at (record { k = k; list = list }) 0 in
    let inside = inside_of_sum k columns (facets_at (record { k = k; list = list }) 0) have grading.rank (record { each = λ n m. (normal n m).entries }) (λ n m. (normal n m).nonzero)
    (λ n v m o. side_at ((whole.1 v).1 (cone_has k columns v have o)) n m)
    in
    holds_of_signs k (facets_at (record { k = k; list = list }) 0) (vector_sum k columns ∷ units k)
    (germ_of_length k (vector_sum k columns ∷ units k) (record {
      front = vector_sum k columns ∷ [];
      is = refl;
      entries = member_all (λ (v : Vector). length v ≡ k) (vector_sum k columns ∷ []) (λ v m. elim m [
        | inl e ↦ subst (λ (u : Vector). length u ≡ k) e (length-vector_sum k columns have)
        | inr o ↦ absurd o
      ]);
    }))
    (member_all (λ (n : Vector). sign_at n (vector_sum k columns ∷ units k) ≢ negsuc 0) (facets_at (record { k = k; list = list }) 0) (λ n m. positive_first (dot n (vector_sum k columns)) (map (dot n) (units k)) (inside n m)))

-- ---- a vector alone
alone_at : (k n : ℕ) (w : Vector) → length w ≡ k → germ_at k n (w ∷ []) ≡ w
alone_at k n w long =
    let e : n ^ 0 ≡ 1 = pow-zero n in
    ap (λ (m : ℕ). plus (scale (pos m) w) (zero_vector k)) e ∙ ap (λ (v : Vector). plus v (zero_vector k)) (scale-one w) ∙ plus-zero w k long

pub weight_in : (fan : Fan) (w : Vector) (sig : Signature) → length w ≡ fan.k → IsSignature fan (w ∷ []) sig
    → (i : ℕ) → Has sig i ↔ ((i < length fan.list) × cone_in fan i w)
weight_in fan w sig long is i = (
  λ has. let p = (is.each i).0 has in (p.0, subst (cone_in fan i) (alone_at fan.k p.1.start w long) (p.1.on p.1.start (let r : p.1.start ≤ p.1.start = omega arith in r))),
  λ p. (is.each i).1 (p.0, record { start = 0; on = λ n large. subst (cone_in fan i) (sym (alone_at fan.k n w long)) p.1 }),
)
