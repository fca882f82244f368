-- The full faces of an input: the whole one, and the others after it.
use Rattle.std.proofs.Common.{◌≡◌, ◌≢◌, ◌⊎◌, ◌∙◌, ℕ, ◌^◌, ◌<◌, ◌≤◌, List, [], ◌∷◌, ◌++◌, length, map, inl, inr, refl, sym, ap, subst, arith}
use Rattle.std.specs.Prelude.{◌↔◌, AllPairs, Contains, Bool, IsTrue}
use Rattle.std.specs.List.{AllZip}
use Rattle.git_lemmas.specs.Members.{Member}
use Rattle.git_lemmas.proofs.Members.{contains_member, member_contains, all_member, member_all}
use Rattle.git_lemmas.proofs.Sorting.{Ascends, ascends_of_pairs, pairs_of_ascends}
use Rattle.git_base.specs.declared.status.Status.{Status}
use Rattle.git_defs.specs.Faces.{face}
use Rattle.git_grading.specs.Gradings.{IsGrading}
use Rattle.git_input.specs.Inputs.{InputValue}
use Rattle.git_ideals.specs.Faces.{IsAFace}
use Rattle.git_basis.specs.Stops.{Ends}
use Rattle.git_basis.specs.declared.step.Step.{Step}
use Rattle.git_basis.proofs.One.{ends_not_by_steps, ends_not_by_degree}
use Rattle.git_saturate.specs.Verdicts.{IsCertificate, IsFree}
use Rattle.git_facecert.specs.declared.certificate.FaceCert.{FaceCert}
use Rattle.git_facecert.specs.declared.certificate.FaceVerdict.{FaceVerdict}
use Rattle.git_faces.specs.FullFaces.{AreFullFaces}
use Rattle.git_faces.specs.FaceVerdicts.{RunEnds, IsFaceVerdict, EndBefore}
use Rattle.git_replies.specs.Cases.{Passes, IsFirst}
use Rattle.git_answers.proofs.OneFan.{whole_full}
use Rattle.git_answers.specs.Verdicts.{whole_face, start_at, StopsWith, StopsAt, IsFullFace, IsVerdict, AreVerdicts}

-- a run that ends does not stop
pub runs_on : (v : InputValue) (limit mask : ℕ) (made : List Step) → Ends (start_at v mask) limit made → Passes (StopsWith v limit mask)
runs_on v limit mask made e s (inl a) = ends_not_by_steps (start_at v mask) limit made a.1.0 e a.1.1
runs_on v limit mask made e s (inr a) = ends_not_by_degree (start_at v mask) limit made a.1.0 a.1.1 e a.1.2

full_face : (v : InputValue) (masks : List ℕ) → AreFullFaces v.degrees.k v.degrees.columns masks → (m : ℕ) → Contains masks m → IsFullFace v m
full_face v masks are m c = (are.each m).0 c

face_full : (v : InputValue) (masks : List ℕ) → AreFullFaces v.degrees.k v.degrees.columns masks → (m : ℕ) → IsFullFace v m → Contains masks m
face_full v masks are m f = (are.each m).1 f

-- the other full faces, descending
pub record AreOthers (v : InputValue) (rest : List ℕ) : Type 0 where
  pub falls : Ascends (λ (m n : ℕ). n < m) rest
  pub others : (m : ℕ) → Member m rest → IsFullFace v m × (m ≢ whole_face v)
  pub each : (m : ℕ) → IsFullFace v m → m ≢ whole_face v → Member m rest

-- the whole one, then the others
pub record StartsWhole (v : InputValue) (masks : List ℕ) : Type 0 where
  pub rest : List ℕ
  pub are : masks ≡ whole_face v ∷ rest
  pub others : AreOthers v rest

pub starts_whole : (v : InputValue) (masks : List ℕ) → IsGrading v.degrees.k v.degrees.columns → AreFullFaces v.degrees.k v.degrees.columns masks → StartsWhole v masks
starts_whole v masks g are = by masks refl where
  by : (ms : List ℕ) → masks ≡ ms → StartsWhole v masks
  by [] e = absurd (subst (Member (whole_face v)) e (contains_member (whole_face v) masks (face_full v masks are (whole_face v) (whole_full v g))))
  by (m ∷ ms) e =
      let falls : Ascends (λ (i j : ℕ). j < i) (m ∷ ms) = subst (Ascends (λ (i j : ℕ). j < i)) e (ascends_of_pairs (λ (i j : ℕ). j < i) masks are.descending) in
      let full : (n : ℕ) → Member n (m ∷ ms) → IsFullFace v n = λ n o. full_face v masks are n (member_contains n masks (subst (Member n) (sym e) o)) in
      let here : (n : ℕ) → IsFullFace v n → Member n (m ∷ ms) = λ n f. subst (Member n) e (contains_member n masks (face_full v masks are n f)) in
      let low : m < 2 ^ length v.degrees.columns = (full m (inl refl)).in_range in
      let first : m ≡ whole_face v = elim (here (whole_face v) (whole_full v g)) [
        | inl same ↦ same
        | inr later ↦ (let l = falls.0 (whole_face v) later in absurd (omega (arith, low, l)))
      ] in
      record {
        rest = ms;
        are = e ∙ ap (λ (n : ℕ). n ∷ ms) first;
        others = record {
          falls = falls.1;
          others = λ n o. (full n (inr o), λ same. (let l = falls.0 n o in omega (arith, l, first, same)));
          each = λ n f other. elim (here n f) [ inl same ↦ absurd (other (sym same ∙ first)) | inr later ↦ later ];
        };
      }

-- ---- the first of the others that stops
in_front : (front back : List ℕ) (m j : ℕ) → Member j (front ++ m ∷ back) → Member j front ⊎ ((m ≡ j) ⊎ Member j back)
in_front [] back m j o = inr o
in_front (f ∷ front) back m j (inl e) = inl (inl e)
in_front (f ∷ front) back m j (inr o) = elim (in_front front back m j o) [ inl a ↦ inl (inr a) | inr b ↦ inr b ]

falls_after : (front back : List ℕ) (m : ℕ) → Ascends (λ (i j : ℕ). j < i) (front ++ m ∷ back) → (j : ℕ) → Member j back → j < m
falls_after [] back m a j o = a.0 j o
falls_after (f ∷ front) back m a j o = falls_after front back m a.1 j o

seam : (front back : List ℕ) (m : ℕ) → Member m (front ++ m ∷ back)
seam [] back m = inl refl
seam (f ∷ front) back m = inr (seam front back m)

-- of descending masks the first whose run stops is the greatest
greatest_stop : (v : InputValue) (limit : ℕ) (masks : List ℕ) (mask j : ℕ) → Ascends (λ (m n : ℕ). n < m) masks → EndBefore v.generators limit masks mask → Member j masks → (s : Status) → StopsWith v limit j s → j ≤ mask
greatest_stop v limit masks mask j falls before here s stops = elim (in_front before.front before.back mask j (subst (Member j) before.whole here)) [
  | inl front ↦ (let e = all_member (RunEnds v.generators limit) j before.front before.before front in absurd (runs_on v limit j e.steps e.ends s stops))
  | inr c ↦ elim c [
    | inl same ↦ omega (arith, same)
    | inr back ↦ (let l = falls_after before.front before.back mask (subst (Ascends (λ (i k : ℕ). k < i)) before.whole falls) j back in omega (arith, l))
  ]
]

pub first_other : (v : InputValue) (limit : ℕ) (rest : List ℕ) (mask : ℕ) (s : Status) → AreOthers v rest → EndBefore v.generators limit rest mask → StopsWith v limit mask s
    → IsFirst (λ a b. b ≤ a) (λ m. (m ≢ whole_face v) × StopsAt v limit m) mask
first_other v limit rest mask s are before stops =
    let at : Member mask rest = subst (Member mask) (sym before.whole) (seam before.front before.back mask) in
    let here = are.others mask at in
    record {
      holds = (here.1, (here.0, (s, stops)));
      first = λ j p. greatest_stop v limit rest mask j are.falls before (are.each j p.1.0 p.0) p.1.1.0 p.1.1.1;
    }

pub first_full : (v : InputValue) (limit : ℕ) (masks : List ℕ) (mask : ℕ) (s : Status) → AreFullFaces v.degrees.k v.degrees.columns masks → EndBefore v.generators limit masks mask → StopsWith v limit mask s
    → IsFirst (λ a b. b ≤ a) (StopsAt v limit) mask
first_full v limit masks mask s are before stops = record {
  holds = (full_face v masks are mask (member_contains mask masks (subst (Member mask) (sym before.whole) (seam before.front before.back mask))), (s, stops));
  first = λ j p. greatest_stop v limit masks mask j (ascends_of_pairs (λ (m n : ℕ). n < m) masks are.descending) before (contains_member j masks (face_full v masks are j p.0)) p.1.0 p.1.1;
}

-- ---- the verdicts of all
ends_all : (v : InputValue) (limit : ℕ) (masks : List ℕ) (vs : List FaceVerdict) → AllZip (IsFaceVerdict v.generators limit) masks vs → (m : ℕ) → Member m masks → RunEnds v.generators limit m
ends_all v limit [] vs h m o = absurd o
ends_all v limit (n ∷ ms) [] h m o = absurd h
ends_all v limit (n ∷ ms) (f ∷ fs) h m (inl e) = subst (RunEnds v.generators limit) e h.0.run_ends
ends_all v limit (n ∷ ms) (f ∷ fs) h m (inr o) = ends_all v limit ms fs h.1 m o

pub others_end : (v : InputValue) (limit : ℕ) (rest : List ℕ) (vs : List FaceVerdict) → AreOthers v rest → AllZip (IsFaceVerdict v.generators limit) rest vs
    → (m : ℕ) → (m ≢ whole_face v) → StopsAt v limit m → ⊥
others_end v limit rest vs are h m other stops =
    let e = ends_all v limit rest vs h m (are.each m stops.0 other) in
    runs_on v limit m e.steps e.ends stops.1.0 stops.1.1

pub all_end : (v : InputValue) (limit : ℕ) (masks : List ℕ) (vs : List FaceVerdict) → AreFullFaces v.degrees.k v.degrees.columns masks → AllZip (IsFaceVerdict v.generators limit) masks vs
    → (m : ℕ) → StopsAt v limit m → ⊥
all_end v limit masks vs are h m stops =
    let e = ends_all v limit masks vs h m (contains_member m masks (face_full v masks are m stops.0)) in
    runs_on v limit m e.steps e.ends stops.1.0 stops.1.1

verdict_of : (v : InputValue) (limit m : ℕ) (f : FaceVerdict) → IsFaceVerdict v.generators limit m f → IsVerdict v f
verdict_of v limit m f h = record {
  accepted = subst (λ (n : ℕ). IsCertificate v.generators n f.cert) (sym h.of_mask) h.certificate;
  free = subst (λ (n : ℕ). IsFree f.cert ↔ IsAFace v.generators n) (sym h.of_mask) h.free;
}

masks_are : (v : InputValue) (limit : ℕ) (masks : List ℕ) (vs : List FaceVerdict) → AllZip (IsFaceVerdict v.generators limit) masks vs → map (λ (f : FaceVerdict). f.mask) vs ≡ masks
masks_are v limit [] [] h = refl
masks_are v limit [] (f ∷ fs) h = absurd h
masks_are v limit (m ∷ ms) [] h = absurd h
masks_are v limit (m ∷ ms) (f ∷ fs) h = λ i. h.0.of_mask i ∷ masks_are v limit ms fs h.1 i

verdicts_are : (v : InputValue) (limit : ℕ) (masks : List ℕ) (vs : List FaceVerdict) → AllZip (IsFaceVerdict v.generators limit) masks vs → (f : FaceVerdict) → Member f vs → IsVerdict v f
verdicts_are v limit [] [] h f o = absurd o
verdicts_are v limit [] (g ∷ gs) h f o = absurd h
verdicts_are v limit (m ∷ ms) [] h f o = absurd o
verdicts_are v limit (m ∷ ms) (g ∷ gs) h f (inl e) = subst (IsVerdict v) e (verdict_of v limit m g h.0)
verdicts_are v limit (m ∷ ms) (g ∷ gs) h f (inr o) = verdicts_are v limit ms gs h.1 f o

-- one for each of the masks, which are all full faces
pub all_verdicts : (v : InputValue) (limit : ℕ) (masks : List ℕ) (vs : List FaceVerdict) → AreFullFaces v.degrees.k v.degrees.columns masks
    → AllZip (IsFaceVerdict v.generators limit) masks vs → AreVerdicts v vs
all_verdicts v limit masks vs are h =
    let same = masks_are v limit masks vs h in
    record {
      descending = subst (AllPairs (λ (m n : ℕ). n < m)) (sym same) are.descending;
      full = λ m. (λ c. full_face v masks are m (subst (λ (l : List ℕ). Contains l m) same c), λ f. subst (λ (l : List ℕ). Contains l m) (sym same) (face_full v masks are m f));
      each = member_all (IsVerdict v) vs (verdicts_are v limit masks vs h);
    }

-- the whole face's, and those of the others
pub whole_and_others : (v : InputValue) (limit : ℕ) (rest : List ℕ) (whole : FaceVerdict) (vs : List FaceVerdict) → IsGrading v.degrees.k v.degrees.columns → AreOthers v rest
    → whole.mask ≡ whole_face v → IsVerdict v whole → AllZip (IsFaceVerdict v.generators limit) rest vs → AreVerdicts v (whole ∷ vs)
whole_and_others v limit rest whole vs g are at is h =
    let same : map (λ (f : FaceVerdict). f.mask) (whole ∷ vs) ≡ whole_face v ∷ rest = λ i. at i ∷ masks_are v limit rest vs h i in
    let falls : Ascends (λ (m n : ℕ). n < m) (whole_face v ∷ rest) = (λ n o. (let o2 = are.others n o in let l : n < 2 ^ length v.degrees.columns = o2.0.in_range in below n l o2.1), are.falls) in
    record {
      descending = subst (AllPairs (λ (m n : ℕ). n < m)) (sym same) (pairs_of_ascends (λ (m n : ℕ). n < m) (whole_face v ∷ rest) falls);
      full = λ m. (
        (λ c. from m (subst (Member m) same (contains_member m (map (λ (f : FaceVerdict). f.mask) (whole ∷ vs)) c))),
        (λ f. member_contains m (map (λ (f : FaceVerdict). f.mask) (whole ∷ vs)) (subst (Member m) (sym same) (to m f))),
      );
      each = member_all (IsVerdict v) (whole ∷ vs) all;
    }
  where
    below : (n : ℕ) → n < 2 ^ length v.degrees.columns → n ≢ whole_face v → n < whole_face v
    below n l other = elim (Rattle.std.proofs.lemmas.Bool.cases_lt n (whole_face v)) [ inl lt ↦ lt | inr ge ↦ absurd (other (omega (arith, l, ge))) ]

    from : (m : ℕ) → Member m (whole_face v ∷ rest) → IsFullFace v m
    from m (inl e) = subst (IsFullFace v) e (whole_full v g)
    from m (inr o) = (are.others m o).0

    to : (m : ℕ) → IsFullFace v m → Member m (whole_face v ∷ rest)
    to m f = elim (Rattle.std.proofs.lemmas.Bool.cases_lt m (whole_face v)) [
      | inl lt ↦ inr (are.each m f (λ e. omega (arith, lt, e)))
      | inr ge ↦ inl (let l : m < 2 ^ length v.degrees.columns = f.in_range in omega (arith, ge, l))
    ]

    all : (f : FaceVerdict) → Member f (whole ∷ vs) → IsVerdict v f
    all f (inl e) = subst (IsVerdict v) e is
    all f (inr o) = verdicts_are v limit rest vs h f o

-- what is found of one face is a verdict
pub verdict_from : (v : InputValue) (mask : ℕ) (cert : FaceCert) (b : Bool) → (IsTrue b ↔ IsAFace v.generators mask) → (IsTrue b ↔ IsFree cert) → IsCertificate v.generators mask cert
    → IsVerdict v (record { mask = mask; cert = cert })
verdict_from v mask cert b face kind certificate = record { accepted = certificate; free = (λ f. face.0 (kind.1 f), λ a. kind.0 (face.1 a)) }
