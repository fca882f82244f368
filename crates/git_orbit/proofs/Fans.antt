-- The cones of a fan: what each is, how many there are, and which is first.
use Rattle.std.proofs.Common.{◌≡◌, ◌∙◌, ◌+◌, ◌-◌, ◌*◌, ◌^◌, ◌<◌, ◌≤◌, ◌∷◌, [], List, ap, arith, get_or, inl, inr, length, refl, subst, suc, sym, zero, ℕ}
use Rattle.std.proofs.Math.Nat.{pow-le-pow_right, pow-suc}
use Rattle.std.proofs.lemmas.List.{get_or-map, length-map}
use Rattle.std.proofs.lemmas.Nat.{pow_pos}
use Rattle.std.specs.Prelude.{AllPairs, Contains, slice_index}
use Rattle.git_defs.specs.Cones.{Cut, InCone, SameSet}
use Rattle.git_defs.specs.Faces.{cone_at, face, face_cone, IsGreatestMask}
use Rattle.git_defs.specs.Vectors.{HasRank, Vector}
use Rattle.git_lemmas.proofs.Members.{contains_member, member_contains}
use Rattle.git_lemmas.specs.Members.{Member}
use Rattle.git_minors.proofs.Parts.{face_even, face_with}
use Rattle.git_machine.specs.Signatures.{Signature}
use Rattle.git_orbit.specs.Index.{IsIndexed}
use Rattle.git_orbit.specs.Orbits.{AreOrbitCones, Fan, IsFan, IsOrbitCone, greatest_of}
use Rattle.git_orbit.specs.Signatures.{cone_in, facets_at}
use Rattle.git_orbit.specs.declared.orbit.OrbitCone.{OrbitCone}

-- ---- the cone with a number
-- e is the cone with number i
pub record IsConeAt (fan : Fan) (i : ℕ) (e : OrbitCone) : Type 0 where
  pub member : Contains fan.list e
  pub entries : e.canon.k ≡ fan.k
  pub facets : facets_at fan i ≡ e.canon.facets

pub cone_here : (fan : Fan) → IsFan fan.k fan.list → (i : ℕ) (e : OrbitCone) → i < length fan.list → e ≡ get_or fan.list i e → IsConeAt fan i e
cone_here fan is i e low at =
    let m : Contains fan.list e = (i, low, sym at) in
    record {
      member = m;
      entries = (is.cones.each e m).canon.entries;
      facets = get_or-map (λ (c : OrbitCone). c.canon.facets) fan.list i e [] low ∙ ap (λ (c : OrbitCone). c.canon.facets) (sym at);
    }

-- the same where what is inside of the fan is known
pub cone_seen : (fan : Fan) {k : ℕ} {list : List OrbitCone} → record { k = k; list = list } ≡ fan → IsFan k list → (i : ℕ) (e : OrbitCone) → i < length fan.list → e ≡ get_or list i e → IsConeAt fan i e
cone_seen fan view is i e low at = cone_here fan (subst (λ (f : Fan). IsFan f.k f.list) view is) i e low (at ∙ ap (λ (f : Fan). get_or f.list i e) view)

read : (list : List OrbitCone) (i : ℕ) → i < length list → (e : OrbitCone) × (e ≡ get_or list i e)
read [] i low = absurd (omega arith)
read (e ∷ es) zero low = (e, refl)
read (e ∷ es) (suc i) low = read es i (omega arith)

-- ---- it is the cone of its face
pub face_of_cone : (k : ℕ) (columns : List Vector) (accepted : ℕ → Type 0) (e : OrbitCone) → IsOrbitCone k columns accepted e → SameSet (Cut k e.canon.facets) (face_cone k columns e.greatest)
face_of_cone k columns accepted e is = λ x. (λ c. (is.same x).1 ((is.canon.canon.cut_out x).1 c), λ f. (is.canon.canon.cut_out x).0 ((is.same x).0 f))

-- a cone with its number, of any list
pub record ReadCone (k : ℕ) (list : List OrbitCone) (i : ℕ) : Type 0 where
  pub cone : OrbitCone
  pub member : Contains list cone
  pub facets : facets_at (record { k = k; list = list }) i ≡ cone.canon.facets
  pub greatest : slice_index (greatest_of list) i ≡ cone.greatest

pub read_cone : (k : ℕ) (list : List OrbitCone) (i : ℕ) → i < length list → ReadCone k list i
read_cone k list i low =
    let r = read list i low in
    record {
      cone = r.0;
      member = (i, low, sym r.1);
      facets = get_or-map (λ (c : OrbitCone). c.canon.facets) list i r.0 [] low ∙ ap (λ (c : OrbitCone). c.canon.facets) (sym r.1);
      greatest = get_or-map (λ (c : OrbitCone). c.greatest) list i r.0 0 low ∙ ap (λ (c : OrbitCone). c.greatest) (sym r.1);
    }

pub cone_of_face : (k : ℕ) (columns : List Vector) (accepted : ℕ → Type 0) (list : List OrbitCone) → AreOrbitCones k columns accepted list
    → (i : ℕ) → i < length list → SameSet (cone_in (record { k = k; list = list }) i) (cone_at k columns (greatest_of list) i)
cone_of_face k columns accepted list are i low =
    let r = read_cone k list i low in
    let same = face_of_cone k columns accepted r.cone (are.each r.cone r.member) in
    subst (λ (n : ℕ). SameSet (Cut k (facets_at (record { k = k; list = list }) i)) (face_cone k columns n)) (sym r.greatest)
    (subst (λ (ns : List Vector). SameSet (Cut k ns) (face_cone k columns r.cone.greatest)) (sym r.facets) same)

-- ---- how many there are
pub face_none : (qs : List Vector) → face qs 0 ≡ []
face_none [] = refl
face_none (q ∷ qs) = face_even q qs 0 refl ∙ face_none qs

none_full : (k : ℕ) (columns : List Vector) → 1 ≤ k → HasRank k (face columns 0) → ⊥
none_full k columns some rank = by rank.chosen rank.count rank.from where
  by : (chosen : List Vector) → length chosen ≡ k → ((i : ℕ) (d : Vector) → i < length chosen → Contains (face columns 0) (get_or chosen i d)) → ⊥
  by [] count from = omega (arith, count, some)
  by (v ∷ vs) count from = absurd (subst (Member v) (face_none columns) (contains_member v (face columns 0) (from 0 v (omega arith))))

few_falling : (xs : List ℕ) (n : ℕ) → AllPairs (λ (i j : ℕ). j < i) xs → ((m : ℕ) → Member m xs → (0 < m) × (m ≤ n)) → length xs ≤ n
few_falling [] n falling bound = omega arith
few_falling (x ∷ xs) n falling bound =
    let here = bound x (inl refl) in
    let rest = few_falling xs (x - 1) (λ i j d low in_range. falling (suc i) (suc j) d (omega arith) (omega arith)) (λ m o.
    let c = member_contains m xs o in
    let below = falling 0 (suc c.0) m (omega arith) (let l = c.1 in omega arith) in
    let is = c.2 in
    ((bound m (inr o)).0, omega (arith, below, is)))
    in omega (arith, here.0, here.1, rest)

pub few_cones : (k : ℕ) (list : List OrbitCone) → IsFan k list → length list < 65536
few_cones k list is =
    let few = few_falling (greatest_of list) (2 ^ length is.columns - 1) is.cones.cones.descending (λ m o.
    let f = ((is.cones.cones.each m).0 (member_contains m (greatest_of list) o)).is_face in
    (positive m f.full, let r = f.in_range in omega (arith, r)))
    in
    let c = length-map list (λ (e : OrbitCone). e.greatest) in
    let two : 0 < 2 = omega arith in
    let p : 2 ^ length is.columns ≤ 2 ^ 16 = pow-le-pow_right two is.grading.matrix.few_columns in
    let one : 0 < 2 ^ length is.columns = pow_pos (length is.columns) in
    omega (arith, few, c, p, one)
  where
    positive : (m : ℕ) → HasRank k (face is.columns m) → 0 < m
    positive zero full = absurd (none_full k is.columns is.grading.matrix.some_rows full)
    positive (suc m) full = omega arith

-- the same of cones with their index
pub fan_few : (k : ℕ) (list : List OrbitCone) {normals : List Vector} {sets : List Signature} {all : Signature} → IsIndexed k list normals sets all → length list < 65536
fan_few k list is = few_cones k list is.fan

-- ---- the widest is first
pub face_whole : (qs : List Vector) → face qs (2 ^ length qs - 1) ≡ qs
face_whole [] = refl
face_whole (q ∷ qs) =
    let e : 2 ^ suc (length qs) ≡ 2 ^ length qs * 2 = pow-suc 2 (length qs) in
    let one : 0 < 2 ^ length qs = pow_pos (length qs) in
    let f : 2 ^ suc (length qs) - 1 ≡ 2 * (2 ^ length qs - 1) + 1 = omega (arith, e, one) in
    ap (face (q ∷ qs)) f ∙ face_with q qs (2 ^ length qs - 1) ∙ ap (λ (us : List Vector). q ∷ us) (face_whole qs)

module _ (k : ℕ) (columns : List Vector) (masks : List ℕ) (list : List OrbitCone) (rank : HasRank k columns) (are : AreOrbitCones k columns (Contains masks) list)
    (given : Contains masks (2 ^ length columns - 1)) where
  whole : IsGreatestMask k columns (Contains masks) (2 ^ length columns - 1)
  whole = record {
    is_face = record { in_range = let one : 0 < 2 ^ length columns = pow_pos (length columns) in omega (arith, one); full = subst (HasRank k) (sym (face_whole columns)) rank; is_accepted = given };
    greatest = λ m f same. let r = f.in_range in omega (arith, r);
  }

  first_mask : (xs : List ℕ) → AllPairs (λ (i j : ℕ). j < i) xs → ((m : ℕ) → Member m xs → m ≤ 2 ^ length columns - 1) → Member (2 ^ length columns - 1) xs → (0 < length xs) × (slice_index xs 0 ≡ 2 ^ length columns - 1)
  first_mask [] falling bound m = absurd m
  first_mask (x ∷ xs) falling bound (inl e) = (omega arith, e)
  first_mask (x ∷ xs) falling bound (inr m) =
      let c = member_contains (2 ^ length columns - 1) xs m in
      let below = falling 0 (suc c.0) (2 ^ length columns - 1) (omega arith) (let l = c.1 in omega arith) in
      let is = c.2 in let top = bound x (inl refl) in absurd (omega (arith, below, is, top))

  pub first_is_whole : (0 < length list) × SameSet (cone_in (record { k = k; list = list }) 0) (InCone k columns)
  first_is_whole =
      let f = first_mask (greatest_of list) are.cones.descending (λ m o. let r = ((are.cones.each m).0 (member_contains m (greatest_of list) o)).is_face.in_range in omega (arith, r))
      (contains_member (2 ^ length columns - 1) (greatest_of list) ((are.cones.each (2 ^ length columns - 1)).1 whole))
      in
      let low : 0 < length list = let c = length-map list (λ (e : OrbitCone). e.greatest) in omega (arith, c, f.0) in (
        low,
        subst (λ (qs : List Vector). SameSet (cone_in (record { k = k; list = list }) 0) (InCone k qs)) (face_whole columns)
            (subst (λ (m : ℕ). SameSet (cone_in (record { k = k; list = list }) 0) (face_cone k columns m)) f.1 (cone_of_face k columns (Contains masks) list are 0 low)),
      )
