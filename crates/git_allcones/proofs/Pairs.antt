-- The cones of listings by their places, and pairs of them.
use Rattle.std.proofs.Common.{◌≡◌, ◌∙◌, ◌++◌, ◌+◌, ◌<◌, ◌≤◌, ◌∷◌, [], All, List, ap, arith, get_or, inl, inr, length, map, refl, subst, suc, sym, take, ℕ}
use Rattle.std.proofs.Math.IntN.{pos}
use Rattle.std.proofs.lemmas.Bool.{cases_lt}
use Rattle.std.proofs.lemmas.Int.{ints}
use Rattle.std.proofs.lemmas.List.{get_or-map, length-map, map-append, take_more}
use Rattle.std.proofs.lemmas.List.Elements.{All-get_or}
use Rattle.git_defs.specs.Cones.{InCone}
use Rattle.git_defs.specs.Vectors.{Vector, dot, zero_vector}
use Rattle.git_defs.proofs.Linear.{dot-comm, dot-zero, length-zero}
use Rattle.git_lemmas.specs.Members.{Member}
use Rattle.git_lemmas.proofs.Members.{contains_member}
use Rattle.git_cone_faces.specs.Faces.{InBoth, IsFace, MeetInFaces}
use Rattle.git_cone_faces.specs.Families.{Cone, FormFan}
use Rattle.git_cone_faces.proofs.Meetings.{both_turned, face_along}
use Rattle.git_listing.specs.Listings.{Facet}
use Rattle.git_listing.specs.Views.{chamber_of, facet_of}
use Rattle.git_listing.specs.declared.listing.ListedChamber.{ListedChamber}
use Rattle.git_listing.specs.declared.listing.ListedFacet.{ListedFacet}
use Rattle.git_allcones.specs.Cones.{IsShortCone, cone_at, cone_of, cone_of_chamber, normal_of}
use Rattle.git_allcones.specs.Verdicts.{AreFineBefore, IsRowAnswer, IsVerdict, IsVerdictFault, PairIsFine, PairMeets}
use Rattle.git_allcones.specs.declared.verdict.FanVerdict.TheVariants.{Yes}
use Rattle.git_allcones.specs.declared.verdict.VerdictFault.{VerdictFault}
use Rattle.git_allcones.specs.declared.verdict.VerdictFault.TheVariants.{Wide, NoMemory}
use Rattle.git_allcones.specs.declared.cones.ListedCone.{ListedCone}

-- ---- the cones of a listing
pub normals_same : (fs : List ListedFacet) → map normal_of fs ≡ map (λ (f : Facet). f.normal) (map facet_of fs)
normals_same [] = refl
normals_same (f ∷ fs) = ap (λ (ns : List Vector). f.normal ∷ ns) (normals_same fs)

abbrev pub view : ListedChamber → Cone
view c = cone_of_chamber (chamber_of c)

pub views_same : (cs : List ListedChamber) → map view cs ≡ map cone_of_chamber (map chamber_of cs)
views_same [] = refl
views_same (c ∷ cs) = ap (λ (vs : List Cone). view c ∷ vs) (views_same cs)

pub cones_more : (out more : List ListedCone) (cs : List ListedChamber) (i : ℕ) (c : ListedChamber) (v : ListedCone) → i < length cs → map cone_of out ≡ map view (take i cs)
    → cone_of v ≡ view c → c ≡ get_or cs i c → more ≡ out ++ v ∷ [] → map cone_of more ≡ map view (take (i + 1) cs)
cones_more out more cs i c v h e f at m = ap (map cone_of) m ∙ map-append cone_of out (v ∷ []) ∙ (λ j. e j ++ (f ∙ ap view at) j ∷ [])
    ∙ sym (ap (map view) (take_more cs i c h) ∙ map-append view (take i cs) (get_or cs i c ∷ []))

-- ---- by places
abbrev nothing : Cone
nothing = record { rays = []; facets = [] }

pub cone_is : (cones : List ListedCone) (i : ℕ) (c : ListedCone) → i < length cones → c ≡ get_or cones i c → cone_at (map cone_of cones) i ≡ cone_of c
cone_is cones i c h e = get_or-map cone_of cones i c nothing h ∙ ap cone_of (sym e)

pub short_is : (k : ℕ) (cones : List ListedCone) (i : ℕ) (c : ListedCone) → All (IsShortCone k) (map cone_of cones) → i < length cones → c ≡ get_or cones i c
    → IsShortCone k (cone_of c)
short_is k cones i c all h e = subst (IsShortCone k) (cone_is cones i c h e)
    (All-get_or (IsShortCone k) (map cone_of cones) i nothing (omega (arith, h, length-map cones cone_of)) all)

record IsPlace (cones : List Cone) (C : Cone) : Type 0 where
  place : ℕ
  within : place < length cones
  is : cone_at cones place ≡ C

place_of : (cones : List Cone) (C : Cone) → Member C cones → IsPlace cones C
place_of [] C m = absurd m
place_of (D ∷ cones) C (inl e) = record { place = 0; within = omega arith; is = e }
place_of (D ∷ cones) C (inr m) = let p = place_of cones C m in record { place = suc p.place; within = let h = p.within in omega (arith, h); is = p.is }

-- ---- meetings
pub meets_turned : (k : ℕ) (C D : Vector → Type 0) → MeetInFaces k C D → MeetInFaces k D C
meets_turned k C D m = record {
  of_one = face_along k D (InBoth C D) (InBoth D C) (both_turned C D) m.of_other;
  of_other = face_along k C (InBoth C D) (InBoth D C) (both_turned C D) m.of_one;
}

whole_face : (k : ℕ) (C : Vector → Type 0) → IsFace k C (InBoth C C)
whole_face k C = record {
  normal = zero_vector k;
  side = record { entries = length-zero k; sides = λ x h. let e = level x in omega (arith, ints, e) };
  is = λ x. (λ h. record { member = h.one; level = level x }, λ f. record { one = f.member; other = f.member });
} where
  level : (x : Vector) → dot (zero_vector k) x ≡ pos 0
  level x = dot-comm (zero_vector k) x ∙ dot-zero x k

pub meets_itself : (k : ℕ) (C : Vector → Type 0) → MeetInFaces k C C
meets_itself k C = record { of_one = whole_face k C; of_other = whole_face k C }

pub forms_fan : (k : ℕ) (cones : List Cone) → ((a b : ℕ) → a < b → b < length cones → PairIsFine k (cone_at cones a) (cone_at cones b)) → FormFan k cones
forms_fan k cones fine C D c d =
    let p = place_of cones C (contains_member C cones c) in
    let q = place_of cones D (contains_member D cones d) in
    let at = λ (a b : Cone). PairMeets k a b in
    let there : PairMeets k (cone_at cones p.place) (cone_at cones q.place) = elim (cases_lt p.place q.place) [
      | inl less ↦ (fine p.place q.place less q.within).meets
      | inr more ↦ elim (cases_lt q.place p.place) [
        | inl less ↦ meets_turned k (InCone k (cone_at cones q.place).rays) (InCone k (cone_at cones p.place).rays) (fine q.place p.place less p.within).meets
        | inr other ↦
            let same : p.place ≡ q.place = omega (arith, more, other) in
            subst (λ (n : ℕ). PairMeets k (cone_at cones p.place) (cone_at cones n)) same (meets_itself k (InCone k (cone_at cones p.place).rays))
      ]
    ] in
    subst (λ (E : Cone). PairMeets k C E) q.is (subst (λ (E : Cone). PairMeets k E (cone_at cones q.place)) p.is there)

-- ---- one place more
-- the pairs before one, by rows
pub before_in_row : (k : ℕ) (cones : List Cone) (i j : ℕ) → AreFineBefore k cones i 0
    → ((b : ℕ) → i < b → b < j → PairIsFine k (cone_at cones i) (cone_at cones b)) → AreFineBefore k cones i j
before_in_row k cones i j before here a b p q e = elim e [
  | inl earlier ↦ before a b p q (inl earlier)
  | inr same ↦
      let f = same.0 in
      subst (λ (n : ℕ). PairIsFine k (cone_at cones n) (cone_at cones b)) (sym f) (here b (omega (arith, p, f)) same.1)
]

pub all_rows : (k : ℕ) (cones : List Cone) (i : ℕ) → length cones ≤ i → AreFineBefore k cones i 0
    → (a b : ℕ) → a < b → b < length cones → PairIsFine k (cone_at cones a) (cone_at cones b)
all_rows k cones i long before a b p q = before a b p q (inl (omega (arith, long, p, q)))

-- ---- the answers
pub fault_of_row : (k : ℕ) (cones : List Cone) (i : ℕ) (f : VerdictFault) → AreFineBefore k cones i 0 → IsRowAnswer k cones i f → IsVerdictFault k cones f
fault_of_row k cones i (Wide first second at) before r = record {
  one = i;
  other = r.other;
  one_is = r.first_is;
  other_is = r.second_is;
  ordered = r.ordered;
  listed = r.listed;
  before = before_in_row k cones i r.other before r.before;
  holds = r.wide;
}
fault_of_row k cones i NoMemory before r = tt

pub verdict_yes : (k : ℕ) (cones : List ListedCone) (i : ℕ) → length cones ≤ i → AreFineBefore k (map cone_of cones) i 0 → IsVerdict k (map cone_of cones) Yes
verdict_yes k cones i long before =
    let all = all_rows k (map cone_of cones) i (omega (arith, long, length-map cones cone_of)) before in
    (forms_fan k (map cone_of cones) all, λ a b p q. (all a b p q).narrow)
