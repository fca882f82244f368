-- Some cones have a verdict or a first wide pair.
use Rattle.std.proofs.Common.{◌≡◌, ◌++◌, ◌+◌, ◌<◌, ◌⊎◌, ◌∷◌, [], List, arith, inl, inr, length, refl, subst, suc, zero, ℕ}
use Rattle.std.proofs.Math.IntN.{pos, ℤ}
use Rattle.std.proofs.lemmas.Bool.{cases_lt}
use Rattle.std.proofs.lemmas.Int.{ints}
use Rattle.std.specs.Prelude.{◌≤ℤ◌}
use Rattle.git_defs.specs.Cones.{AreRays, Cut, InCone}
use Rattle.git_defs.specs.Vectors.{AllOfLength, Vector, dot, vector_sum}
use Rattle.git_defs.proofs.Lengths.{OfLength, of_length_all}
use Rattle.git_lemmas.specs.Members.{Member}
use Rattle.git_lemmas.proofs.Members.{all_member, contained, contains_member}
use Rattle.git_defs.proofs.Closed.{sign_of}
use Rattle.git_geometry.proofs.Cuts.{cut_of, side_at}
use Rattle.git_geometry.proofs.Edges.{zero_or_not}
use Rattle.git_geometry.proofs.Lists.{member_either}
use Rattle.git_stages.proofs.Decided.{wide_decided}
use Rattle.git_stages.proofs.Exist.{rays_exist}
use Rattle.git_stages.specs.declared.wide.WideAt.{WideAt}
use Rattle.git_cone_faces.specs.Faces.{InBoth, IsFace, IsFullCone}
use Rattle.git_cone_faces.specs.Families.{Cone}
use Rattle.git_cone_faces.specs.Laws.{IsAround}
use Rattle.git_cone_faces.proofs.Full.{full_facets_have, full_have, full_same}
use Rattle.git_cone_faces.proofs.Meetings.{common_face}
use Rattle.git_allcones.specs.Cones.{AreShortCones, IsShortCone, cone_at}
use Rattle.git_allcones.specs.Verdicts.{AreFineBefore, IsVerdict, PairFails, PairIsFine, PairIsWide, PairMeets}
use Rattle.git_allcones.specs.declared.verdict.FanVerdict.{FanVerdict}
use Rattle.git_allcones.specs.declared.verdict.FanVerdict.TheVariants.{Yes, No}
use Rattle.git_allcones.proofs.Meets.{common_rays, joined_rank, meet_faces, turned_rays}
use Rattle.git_allcones.proofs.Pairs.{all_rows, before_in_row, forms_fan}
use Rattle.git_cone_text.specs.Laws.{IsFirstWidePair}

abbrev Decided : Type 0 → Type 0
Decided A = A ⊎ (A → ⊥)

each_decided : (P : Vector → Type 0) (vs : List Vector) → ((v : Vector) → Member v vs → Decided (P v)) → Decided ((v : Vector) → Member v vs → P v)
each_decided P [] decide = inl (λ v m. absurd m)
each_decided P (v ∷ vs) decide = elim (decide v (inl refl)) [
  | inr out ↦ inr (λ all. out (all v (inl refl)))
  | inl here ↦ elim (each_decided P vs (λ u m. decide u (inr m))) [
    | inr out ↦ inr (λ all. out (λ u m. all u (inr m)))
    | inl rest ↦ inl (λ u m. elim m [ inl e ↦ subst P e here | inr n ↦ rest u n ])
  ]
]

beside_decided : (z : ℤ) → Decided (pos 0 ≤ℤ z)
beside_decided z = elim (sign_of z) [ inl side ↦ inl side | inr below ↦ inr (λ side. omega (arith, ints, side, below)) ]

cut_decided : (k : ℕ) (normals : List Vector) (v : Vector) → length v ≡ k → Decided (Cut k normals v)
cut_decided k normals v long = elim (each_decided (λ n. pos 0 ≤ℤ dot n v) normals (λ n m. beside_decided (dot n v))) [
  | inl all ↦ inl (cut_of long all)
  | inr out ↦ inr (λ c. out (λ n m. side_at c n m))
]

implied : {A B : Type 0} → Decided A → Decided B → Decided (A → B)
implied a (inl b) = inl (λ x. b)
implied (inl a) (inr out) = inr (λ f. out (f a))
implied (inr none) (inr out) = inl (λ a. absurd (none a))

both_decided : {A B : Type 0} → Decided A → Decided B → Decided (A × B)
both_decided (inl a) (inl b) = inl (a, b)
both_decided (inl a) (inr out) = inr (λ p. out p.1)
both_decided (inr out) b = inr (λ p. out p.0)

turned_decided : {A B : Type 0} → (A → B) → (B → A) → Decided A → Decided B
turned_decided to back (inl a) = inl (to a)
turned_decided to back (inr out) = inr (λ b. out (back b))

-- ---- one pair
face_decided : (k : ℕ) (R A S B E : List Vector) → IsFullCone k R A → IsFullCone k S B → AreRays k (InBoth (InCone k R) (InCone k S)) E
    → Decided (IsFace k (InCone k R) (InBoth (InCone k R) (InCone k S)))
face_decided k R A S B E one other common =
    let law = common_face k R A S B E one other common in
    let around = λ (r : Vector). turned_decided {A = (m : Vector) → Member m A → dot m (vector_sum k E) ≡ pos 0 → dot m r ≡ pos 0} {B = IsAround k A E r}
    (λ f m c. f m (contains_member m A c)) (λ f m o. f m (contained A o))
    (each_decided (λ m. dot m (vector_sum k E) ≡ pos 0 → dot m r ≡ pos 0) A (λ m o. implied (zero_or_not (dot m (vector_sum k E))) (zero_or_not (dot m r)))) in
    let held = λ (r : Vector) (m : Member r R). turned_decided {A = Cut k B r} {B = InCone k S r} (λ c. (full_same other r).1 c) (λ h. (full_same other r).0 h)
    (cut_decided k B r ((full_have one).each r m)) in
    turned_decided {A = (r : Vector) → Member r R → IsAround k A E r → InCone k S r} {B = IsFace k (InCone k R) (InBoth (InCone k R) (InCone k S))}
    (λ f. law.1 (λ r c. f r (contains_member r R c))) (λ f r m. law.0 f r (contained R m))
    (each_decided (λ r. IsAround k A E r → InCone k S r) R (λ r m. implied (around r) (held r m)))

meet_decided : (k : ℕ) (C D : Cone) → IsFullCone k C.rays C.facets → IsFullCone k D.rays D.facets → Decided (PairMeets k C D)
meet_decided k C D one other =
    let rays = rays_exist k (C.facets ++ D.facets) in
    let common = common_rays k C.rays C.facets D.rays D.facets rays.list one other rays.rays in
    let law = meet_faces k (InCone k C.rays) (InCone k D.rays) in
    turned_decided law.0 law.1 (both_decided (face_decided k C.rays C.facets D.rays D.facets rays.list one other common)
    (face_decided k D.rays D.facets C.rays C.facets rays.list other one (turned_rays k (InCone k C.rays) (InCone k D.rays) rays.list common)))

-- a pair is fine, or it fails, or it is wide
data Judged (k : ℕ) (C D : Cone) : Type 0 where
  fine : PairIsFine k C D → Judged k C D
  failing : PairFails k C D → Judged k C D
  wide : (at : WideAt) → PairIsWide k C D at → Judged k C D

joined_long : (k : ℕ) (A B : List Vector) → OfLength k A → OfLength k B → AllOfLength k (A ++ B)
joined_long k A B a b = of_length_all k (A ++ B) (record { each = λ v m. elim (member_either v A B m) [ inl l ↦ a.each v l | inr r ↦ b.each v r ] })

judged : (k : ℕ) (C D : Cone) → IsFullCone k C.rays C.facets → IsFullCone k D.rays D.facets → Judged k C D
judged k C D one other = elim (wide_decided k (C.facets ++ D.facets) (joined_long k C.facets D.facets (full_facets_have one) (full_facets_have other)) (joined_rank k C.facets D.facets one.facets_rank)) [
  | inr w ↦ wide (record { stage = w.0; what = w.1 }) w.2
  | inl never ↦ elim (meet_decided k C D one other) [
    | inl meets ↦ fine (record { narrow = never; meets = meets })
    | inr apart ↦ failing (record { narrow = never; apart = apart })
  ]
]

-- ---- all pairs
module _ (k : ℕ) (cones : List Cone) (short : AreShortCones k cones) where
  abbrev Answered : Type 0
  Answered = ((v : FanVerdict) × IsVerdict k cones v) ⊎ ((first second : ℕ) × (at : WideAt) × IsFirstWidePair k cones first second at)

  short_at : (all : List Cone) (i : ℕ) → ((C : Cone) → Member C all → IsShortCone k C) → i < length all → IsShortCone k (cone_at all i)
  short_at [] i each h = absurd (omega arith)
  short_at (C ∷ all) zero each h = each C (inl refl)
  short_at (C ∷ all) (suc i) each h = short_at all i (λ D m. each D (inr m)) (omega arith)

  full_at : (i : ℕ) → i < length cones → IsFullCone k (cone_at cones i).rays (cone_at cones i).facets
  full_at i h = (short_at cones i (λ C m. all_member (IsShortCone k) C cones short.each m) h).full

  -- the later places of a row
  abbrev AreFineUpTo : ℕ → ℕ → Type 0
  AreFineUpTo i j = (b : ℕ) → i < b → b < j → PairIsFine k (cone_at cones i) (cone_at cones b)

  fine_more : (i j : ℕ) → AreFineUpTo i j → PairIsFine k (cone_at cones i) (cone_at cones j) → AreFineUpTo i (suc j)
  fine_more i j before here b above below = elim (cases_lt b j) [
    | inl less ↦ before b above less
    | inr more ↦ (let e : j ≡ b = omega (arith, more, below) in subst (λ (n : ℕ). PairIsFine k (cone_at cones i) (cone_at cones n)) e here)
  ]

  row : (i j n : ℕ) → i < j → j + n ≡ length cones → AreFineBefore k cones i 0 → AreFineUpTo i j → AreFineUpTo i (length cones) ⊎ Answered
  row i j zero below e before here = inl (λ b above under. here b above (omega (arith, under, e)))
  row i j (suc n) below e before here =
      let within : j < length cones = omega (arith, e) in
      elim (judged k (cone_at cones i) (cone_at cones j) (full_at i (omega (arith, below, within))) (full_at j within)) [
        | fine f ↦ row i (suc j) n (omega (arith, below)) (omega (arith, e)) before (fine_more i j here f)
        | failing f ↦ inr (inl (
          No (i + 1) (j + 1),
          record {
            one = i;
            other = j;
            one_is = refl;
            other_is = refl;
            ordered = below;
            listed = within;
            before = before_in_row k cones i j before here;
            holds = f;
          },
        ))
        | wide at w ↦ inr (inr (
          i + 1,
          j + 1,
          at,
          record {
            one = i;
            other = j;
            one_is = refl;
            other_is = refl;
            ordered = below;
            listed = within;
            before = before_in_row k cones i j before here;
            holds = w;
          },
        ))
      ]

  next_row : (i : ℕ) → AreFineBefore k cones i 0 → AreFineUpTo i (length cones) → AreFineBefore k cones (suc i) 0
  next_row i before here a b above within earlier = before_in_row k cones i (length cones) before here a b above within (elim earlier [
    | inl less ↦ elim (cases_lt a i) [
      | inl lower ↦ inl lower
      | inr same ↦ inr (omega (arith, less, same), within)
    ]
    | inr none ↦ absurd (let h = none.1 in omega (arith, h))
  ])

  rows : (i n : ℕ) → i + n ≡ length cones → AreFineBefore k cones i 0 → Answered
  rows i zero e before =
      let all = all_rows k cones i (omega (arith, e)) before in
      inl (Yes, (forms_fan k cones all, λ a b p q. (all a b p q).narrow))
  rows i (suc n) e before = elim (row i (suc i) n (omega arith) (omega (arith, e)) before (λ b above below. absurd (omega (arith, above, below)))) [
    | inl here ↦ rows (suc i) n (omega (arith, e)) (next_row i before here)
    | inr answer ↦ answer
  ]

  pub answered : Answered
  answered = rows 0 (length cones) (omega arith) (λ a b above within earlier. absurd (elim earlier [ inl less ↦ omega (arith, less) | inr none ↦ (let h = none.1 in omega (arith, h)) ]))
