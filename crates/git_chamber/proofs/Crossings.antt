-- Crossings of walls.
use Rattle.std.proofs.Common.{◌≡◌, ◌≢◌, inl, inr, ℕ, suc, ◌+◌, ◌^◌, ◌<◌, List, [], ◌∷◌, ◌++◌, length, map, take, drop, get_or, append_assoc, refl, sym, ◌∙◌, ap, subst, arith}
use Rattle.std.proofs.Math.IntN.{pos, negsuc}
use Rattle.std.proofs.Math.Seq.{drop-cons}
use Rattle.std.proofs.lemmas.Int.{ints}
use Rattle.std.proofs.lemmas.List.{take-append-drop}
use Rattle.std.specs.Prelude.{All, ◌<ℤ◌}
use Rattle.git_defs.specs.Vectors.{Vector, AllOfLength, dot}
use Rattle.git_defs.proofs.Lengths.{all_of_length}
use Rattle.git_lemmas.specs.Members.{Member}
use Rattle.git_lemmas.proofs.Members.{all_member, member_all}
use Rattle.git_geometry.specs.Germs.{HasNoNegative, sign_at}
use Rattle.git_geometry.proofs.Lists.{member_right}
use Rattle.git_geometry.proofs.Polynomials.{sign_cases}
use Rattle.git_geometry.proofs.Signs.{holds_of_signs, signs_of_holds}
use Rattle.git_ints.specs.Padded.{AreWithin}
use Rattle.git_machine.specs.Signatures.{Signature}
use Rattle.git_orbit.specs.Orbits.{Fan, IsFan}
use Rattle.git_orbit.specs.Signatures.{facets_at, IsSignature}
use Rattle.git_stages.specs.Short.{IsShort}
use Rattle.git_chamber.specs.Chambers.{AreCrossings, IsBehind, IsFirstNegative, crossing}
use Rattle.git_chamber.specs.declared.cell.Side.TheVariants.{Boundary, Inner}
use Rattle.git_chamber.proofs.Facets.{cone_facets}

-- ---- the first negative one
pub negative_is : (n : Vector) (germ : List Vector) → sign_at n germ <ℤ pos 0 → sign_at n germ ≡ negsuc 0
negative_is n germ h = elim (sign_cases (map (dot n) germ)) [
  | inl e ↦ e
  | inr r ↦ elim r [ inl e ↦ absurd (omega (arith, ints, e, h)) | inr e ↦ absurd (omega (arith, ints, e, h)) ]
]

pub first_negative : (normals germ : List Vector) (i : ℕ) (n : Vector) → i < length normals → n ≡ get_or normals i n → HasNoNegative (take i normals) germ → sign_at n germ <ℤ pos 0 → IsFirstNegative normals germ n
first_negative normals germ i n low at before h = record {
  before = take i normals;
  after = drop (suc i) normals;
  is = sym (take-append-drop i normals) ∙ ap (λ (vs : List Vector). take i normals ++ vs) (drop-cons normals i n low ∙ ap (λ (v : Vector). v ∷ drop (suc i) normals) (sym at));
  none = before;
  negative = negative_is n germ h;
}

-- ---- what lies behind a wall
module _ (fan : Fan) (rays : List Vector) (n : Vector) (germ_have : AllOfLength fan.k (crossing fan.k rays n)) where
  pub boundary_behind : (m : Vector) → IsFirstNegative (facets_at fan 0) (crossing fan.k rays n) m → IsBehind fan rays n (Boundary m)
  boundary_behind m f = (
    λ holds. all_member (λ (v : Vector). sign_at v (crossing fan.k rays n) ≢ negsuc 0) m (facets_at fan 0)
        (signs_of_holds fan.k (facets_at fan 0) (crossing fan.k rays n) (all_of_length fan.k (crossing fan.k rays n) germ_have) holds)
        (subst (Member m) (sym f.is) (member_right m f.before (m ∷ f.after) (inl refl))) f.negative,
    f,
  )

  pub inner_behind : (t : Signature) → HasNoNegative (facets_at fan 0) (crossing fan.k rays n) → IsSignature fan (crossing fan.k rays n) t → IsBehind fan rays n (Inner t)
  inner_behind t none is = (holds_of_signs fan.k (facets_at fan 0) (crossing fan.k rays n) (all_of_length fan.k (crossing fan.k rays n) germ_have) none, is)

-- ---- a list of walls
pub wall_at : (normals : List Vector) (i : ℕ) (n : Vector) → i < length normals → n ≡ get_or normals i n → drop i normals ≡ n ∷ drop (i + 1) normals
wall_at normals i n low at =
    let e : suc i ≡ i + 1 = omega arith in
    drop-cons normals i n low ∙ (λ j. sym at j ∷ drop (e j) normals)

pub one_more_crossing : (fan : Fan) (rays normals : List Vector) (i : ℕ) (n : Vector) (t : Signature) (sigs rest : List Signature) → i < length normals → n ≡ get_or normals i n
    → IsBehind fan rays n (Inner t) → AreCrossings fan rays (drop (i + 1) normals) rest
    → ((more : List Signature) → AreCrossings fan rays (drop i normals) more → AreCrossings fan rays normals (sigs ++ more)) → AreCrossings fan rays normals ((sigs ++ t ∷ []) ++ rest)
one_more_crossing fan rays normals i n t sigs rest low at b later so_far =
    let here : AreCrossings fan rays (n ∷ drop (i + 1) normals) (t ∷ rest) = inr (b.0, t, rest, refl, b.1, later) in
    subst (AreCrossings fan rays normals) (sym (append_assoc sigs (t ∷ []) rest)) (so_far (t ∷ rest) (subst (λ (ns : List Vector). AreCrossings fan rays ns (t ∷ rest)) (sym (wall_at normals i n low at)) here))

pub no_crossing : (fan : Fan) (rays normals : List Vector) (i : ℕ) (n m : Vector) (sigs rest : List Signature) → i < length normals → n ≡ get_or normals i n
    → IsBehind fan rays n (Boundary m) → AreCrossings fan rays (drop (i + 1) normals) rest
    → ((more : List Signature) → AreCrossings fan rays (drop i normals) more → AreCrossings fan rays normals (sigs ++ more)) → AreCrossings fan rays normals (sigs ++ rest)
no_crossing fan rays normals i n m sigs rest low at b later so_far =
    let here : AreCrossings fan rays (n ∷ drop (i + 1) normals) rest = inl (b.0, later) in
    so_far rest (subst (λ (ns : List Vector). AreCrossings fan rays ns rest) (sym (wall_at normals i n low at)) here)

pub short_of : (k : ℕ) (vs : List Vector) → AllOfLength k vs → All (AreWithin (2 ^ 40)) vs → All (IsShort k) vs
short_of k vs long small i d h = record { entries = long i d h; within = small i d h }

pub first_facets_short : (fan : Fan) → IsFan fan.k fan.list → 0 < length fan.list → All (IsShort fan.k) (facets_at fan 0)
first_facets_short fan is some = member_all (IsShort fan.k) (facets_at fan 0) (cone_facets fan is 0 some).short
