-- For given faces there are cones, or a least wide mask; never both, and each is one.
use Rattle.std.proofs.Common.{◌≡◌, ◌⊎◌, ◌∙◌, ◌+◌, ◌<◌, ◌≤◌, ◌∷◌, ◌++◌, [], All, ◌^◌, Bool, List, ap, arith, drop, false, get_or, inl, inr, length, refl, replicate, set, subst, suc, sym, true, zero, ℕ}
use Rattle.std.proofs.Math.IntN.{pos, ℤ}
use Rattle.std.proofs.lemmas.Int.{ints}
use Rattle.std.proofs.lemmas.List.{length-replicate}
use Rattle.std.proofs.lemmas.List.Kept.{AllPairs-cons}
use Rattle.std.proofs.lemmas.List.Sorted.{Contains-permutation, IsPermutation-cons, IsPermutation-middle, IsPermutation-refl, IsPermutation-sym, IsPermutation-trans}
use Rattle.std.specs.Prelude.{AllPairs, Contains, IsPermutation, ◌<ℤ◌, ◌≤ℤ◌}
use Rattle.git_canon.proofs.Cones.{matrix_short}
use Rattle.git_canon.specs.Canons.{Described, IsCanonOf}
use Rattle.git_defs.proofs.Closed.{closed_cone, cone_closed, cone_has}
use Rattle.git_defs.proofs.Lengths.{OfLength, of_length_all}
use Rattle.git_defs.proofs.Linear.{dot-comm}
use Rattle.git_defs.specs.Cones.{Dual, InCone}
use Rattle.git_defs.specs.Faces.{IsConeFace, IsFullDimensional, IsGreatestMask, SameCone, face, face_cone}
use Rattle.git_defs.specs.Vectors.{Vector, dot}
use Rattle.git_geometry.proofs.Cuts.{cut_of}
use Rattle.git_geometry.proofs.Farkas.{farkas}
use Rattle.git_geometry.proofs.Rays.{dual_cut}
use Rattle.git_geometry.proofs.Sorted.{rays_once}
use Rattle.git_grading.specs.Gradings.{IsGrading}
use Rattle.git_lemmas.proofs.Members.{all_member, contains_member, member_all, member_contains, contained}
use Rattle.git_lemmas.specs.Members.{Member}
use Rattle.git_minors.proofs.Parts.{face_of_length}
use Rattle.git_orbit.proofs.Descriptions.{narrow_described}
use Rattle.git_orbit.proofs.Sames.{face_pointed, face_short}
use Rattle.git_orbit.proofs.Sieves.{sieve_end, sieve_fault, sieve_new, sieve_none, sieve_skip}
use Rattle.git_orbit.proofs.Sweeps.{Sweeping, sweep_end, sweep_no, sweep_none, sweep_yes}
use Rattle.git_orbit.specs.Keys.{IsSwept}
use Rattle.git_orbit.specs.Orbits.{AreFaces, AreOrbitCones, IsNewFault, IsOrbitCone, Sieved, greatest_of}
use Rattle.git_orbit.specs.declared.orbit.ConesFault.TheVariants.{Wide}
use Rattle.git_orbit.specs.declared.orbit.OrbitCone.{OrbitCone}
use Rattle.git_stages.proofs.Decided.{wide_decided}
use Rattle.git_stages.proofs.Once.{same_number}
use Rattle.git_stages.proofs.Uniqueness.{wide_not_never, wide_once}
use Rattle.git_stages.proofs.Shorts.{short_length, within_or_not}
use Rattle.git_stages.specs.Short.{IsShort}
use Rattle.git_stages.specs.Wide.{IsWideAt, NeverWide}
use Rattle.git_stages.specs.declared.wide.WideAt.{WideAt}

-- P holds or not
abbrev pub Decided : Type 0 → Type 0
Decided P = P ⊎ (P → ⊥)

-- ---- whether two faces have one cone
not_separated : (k : ℕ) (vs : List Vector) (x n : Vector) → OfLength k vs → length n ≡ k → ((v : Vector) → Contains vs v → pos 0 ≤ℤ dot n v) → dot n x <ℤ pos 0 → InCone k vs x → ⊥
not_separated k vs x n have long sides below inside =
    let d = (dual_cut k vs have n).1 (cut_of long (λ v m. subst (λ (z : ℤ). pos 0 ≤ℤ z) (dot-comm n v) (sides v (member_contains v vs m)))) in
    let s = d.sides x inside in
    omega (arith, ints, s, below)

within_decided : (k : ℕ) (us vs : List Vector) → OfLength k us → OfLength k vs → Decided ((x : Vector) → Member x us → InCone k vs x)
within_decided k [] vs us_have have = inl (λ x m. absurd m)
within_decided k (u ∷ us) vs us_have have = elim (farkas k vs u have (us_have.each u (inl refl))) [
  | inr s ↦ inr (λ all. not_separated k vs u s.normal have s.entries s.sides s.below (all u (inl refl)))
  | inl first ↦ elim (within_decided k us vs (record { each = λ v m. us_have.each v (inr m) }) have) [
    | inl rest ↦ inl (λ x m. elim m [ inl e ↦ subst (InCone k vs) e first | inr o ↦ rest x o ])
    | inr out ↦ inr (λ all. out (λ x m. all x (inr m)))
  ]
]

same_decided : (k : ℕ) (columns : List Vector) (m n : ℕ) → OfLength k columns → Decided (SameCone k columns m n)
same_decided k columns m n have =
    let a = face_of_length k columns m have in
    let b = face_of_length k columns n have in
    elim (within_decided k (face columns m) (face columns n) a b) [
      | inr out ↦ inr (λ same. out (λ x o. (same x).0 (cone_has k (face columns m) x a o)))
      | inl to ↦ elim (within_decided k (face columns n) (face columns m) b a) [
        | inr out ↦ inr (λ same. out (λ x o. (same x).1 (cone_has k (face columns n) x b o)))
        | inl back ↦ inl (λ x. (
          closed_cone k (InCone k (face columns n)) (face columns m) x (cone_closed k (face columns n) b) to,
          closed_cone k (InCone k (face columns m)) (face columns n) x (cone_closed k (face columns m) a) back,
        ))
      ]
    ]

same_sym : (k : ℕ) (columns : List Vector) (m n : ℕ) → SameCone k columns m n → SameCone k columns n m
same_sym k columns m n s x = ((s x).1, (s x).0)

same_trans : (k : ℕ) (columns : List Vector) (m n o : ℕ) → SameCone k columns m n → SameCone k columns n o → SameCone k columns m o
same_trans k columns m n o s t x = (λ h. (t x).0 ((s x).0 h), λ h. (s x).1 ((t x).1 h))

-- ---- lists of numbers that fall
falling_once : (xs ys : List ℕ) → AllPairs (λ (i j : ℕ). j < i) xs → AllPairs (λ (i j : ℕ). j < i) ys → ((m : ℕ) → Member m xs → Member m ys) → ((m : ℕ) → Member m ys → Member m xs) → xs ≡ ys
falling_once [] [] p q to from = refl
falling_once [] (y ∷ ys) p q to from = absurd (from y (inl refl))
falling_once (x ∷ xs) [] p q to from = absurd (to x (inl refl))
falling_once (x ∷ xs) (y ∷ ys) p q to from =
    let low = at_most y ys x q (to x (inl refl)) in
    let high = at_most x xs y p (from y (inl refl)) in
    let first : x ≡ y = omega (arith, low, high) in
    let rest = falling_once xs ys (tail x xs p) (tail y ys q)
    (λ m o. elim (to m (inr o)) [ inl e ↦ (let b = below x xs m p o in absurd (omega (arith, b, e, first))) | inr l ↦ l ])
    (λ m o. elim (from m (inr o)) [ inl e ↦ (let b = below y ys m q o in absurd (omega (arith, b, e, first))) | inr l ↦ l ])
    in
    λ i. first i ∷ rest i
  where
    below : (z : ℕ) (zs : List ℕ) (m : ℕ) → AllPairs (λ (i j : ℕ). j < i) (z ∷ zs) → Member m zs → m < z
    below z zs m p o = let c = member_contains m zs o in let b = p 0 (suc c.0) m (omega arith) (let l = c.1 in omega (arith, l)) in let i = c.2 in omega (arith, b, i)

    at_most : (z : ℕ) (zs : List ℕ) (m : ℕ) → AllPairs (λ (i j : ℕ). j < i) (z ∷ zs) → Member m (z ∷ zs) → m ≤ z
    at_most z zs m p (inl e) = omega (arith, e)
    at_most z zs m p (inr o) = let b = below z zs m p o in omega (arith, b)

    tail : (z : ℕ) (zs : List ℕ) → AllPairs (λ (i j : ℕ). j < i) (z ∷ zs) → AllPairs (λ (i j : ℕ). j < i) zs
    tail z zs p i j d l h = p (suc i) (suc j) d (omega (arith, l)) (omega (arith, h))

record WithGreatest (list : List OrbitCone) (m : ℕ) : Type 0 where
  cone : OrbitCone
  member : Member cone list
  is : cone.greatest ≡ m

with_greatest : (list : List OrbitCone) (m : ℕ) → Member m (greatest_of list) → WithGreatest list m
with_greatest [] m n = absurd n
with_greatest (e ∷ es) m (inl q) = record { cone = e; member = inl refl; is = q }
with_greatest (e ∷ es) m (inr q) = let f = with_greatest es m q in record { cone = f.cone; member = inr f.member; is = f.is }

-- ---- a sweep
module _ (Same : ℕ → Type 0) (decide : (p : ℕ) → Decided (Same p)) (from : ℕ) (old : List Bool) (room : from ≤ length old) where
  swept_to : (c : ℕ) → c ≤ from → (n : ℕ) → n + c ≡ from → (new : List Bool) × (best : ℕ) × Sweeping Same from c old new best
  swept_to c low zero e = (old, from, subst (λ (d : ℕ). Sweeping Same from d old old from) (let f : from ≡ c = omega (arith, e) in f) (sweep_none Same from old))
  swept_to c low (suc n) e =
      let before = swept_to (c + 1) (omega (arith, e)) n (omega (arith, e)) in
      let long = before.2.long in
      elim (decide c) [
        | inl is ↦ (set before.0 c true, c, sweep_yes Same from (c + 1) c refl old before.0 before.1 before.2 (omega (arith, e)) (omega (arith, e, long, room)) is)
        | inr out ↦ (before.0, before.1, sweep_no Same from (c + 1) c refl old before.0 before.1 before.2 (omega (arith, e)) out)
      ]

  swept : (new : List Bool) × (best : ℕ) × IsSwept Same from old new best
  swept = let all = swept_to 0 (omega arith) from (omega arith) in (all.0, all.1, sweep_end Same from 0 old all.0 all.1 all.2 (λ p low. absurd (omega (arith, low))))

-- ---- sorted by greatest masks
abbrev Falls : List OrbitCone → Type 0
Falls [] = Unit {0}
Falls (e ∷ es) = ((d : OrbitCone) → Member d es → d.greatest ≤ e.greatest) × Falls es

record Sorted (es : List OrbitCone) : Type 0 where
  out : List OrbitCone
  same : IsPermutation es out
  falls : Falls out

back : (es : List OrbitCone) (s : Sorted es) (d : OrbitCone) → Member d s.out → Member d es
back es s d m = contains_member d es (Contains-permutation s.out es d (IsPermutation-sym es s.out s.same) (member_contains d s.out m))

place : (e : OrbitCone) (es : List OrbitCone) → Falls es → Sorted (e ∷ es)
place e [] f = record { out = e ∷ []; same = IsPermutation-refl (e ∷ []); falls = (λ d m. absurd m, tt) }
place e (x ∷ xs) f = elim (within_or_not x.greatest e.greatest) [
  | inl up ↦ record {
    out = e ∷ x ∷ xs;
    same = IsPermutation-refl (e ∷ x ∷ xs);
    falls = (λ d m. elim m [ inl i ↦ subst (λ (c : OrbitCone). c.greatest ≤ e.greatest) i up | inr o ↦ (let h = f.0 d o in omega (arith, h, up)) ], f);
  }
  | inr down ↦ (
      let r = place e xs f.1 in
      let less : e.greatest ≤ x.greatest = less e.greatest x.greatest down in
      record {
        out = x ∷ r.out;
        same = IsPermutation-trans (e ∷ x ∷ xs) (x ∷ e ∷ xs) (x ∷ r.out) (IsPermutation-sym (x ∷ e ∷ xs) (e ∷ x ∷ xs) (IsPermutation-middle (x ∷ []) e xs)) (IsPermutation-cons x (e ∷ xs) r.out r.same);
        falls = (λ d m. elim (back (e ∷ xs) r d m) [ inl i ↦ subst (λ (c : OrbitCone). c.greatest ≤ x.greatest) i less | inr o ↦ f.0 d o ], r.falls);
      })
]
  where
    less : (m n : ℕ) → (n ≤ m → ⊥) → m ≤ n
    less zero n h = omega arith
    less (suc m) zero h = absurd (h (omega arith))
    less (suc m) (suc n) h = let l = less m n (λ g. h (omega (arith, g))) in omega (arith, l)

sorted_of : (es : List OrbitCone) → Sorted es
sorted_of [] = record { out = []; same = IsPermutation-refl []; falls = tt }
sorted_of (e ∷ es) =
    let r = sorted_of es in
    let p = place e r.out r.falls in
    record { out = p.out; same = IsPermutation-trans (e ∷ es) (e ∷ r.out) p.out (IsPermutation-cons e es r.out r.same) p.same; falls = p.falls }

falling : (es : List OrbitCone) → Falls es → AllPairs (λ (c d : OrbitCone). d.greatest ≤ c.greatest) es
falling [] f = λ i j d l h. absurd (omega (arith, h))
falling (e ∷ es) f = AllPairs-cons (λ (c d : OrbitCone). d.greatest ≤ c.greatest) e es (member_all (λ (d : OrbitCone). d.greatest ≤ e.greatest) es f.0) (falling es f.1)

-- ---- there are cones, or a wide mask
blank_read : (n p : ℕ) → p < n → get_or (replicate n false) p true ≡ false
blank_read zero p low = absurd (omega arith)
blank_read (suc n) zero low = refl
blank_read (suc n) (suc p) low = blank_read n p (omega arith)

module _ (k : ℕ) (columns : List Vector) (masks : List ℕ) (grading : IsGrading k columns) (faces : AreFaces k columns masks) where
  columns_short : All (IsShort k) columns
  columns_short = matrix_short k columns grading.matrix

  have : OfLength k columns
  have = short_length k columns columns_short

  abbrev Faulty : Type 0
  Faulty = (mask : ℕ) × (at : WideAt) × IsNewFault k columns (Contains masks) (Wide mask at)

  record Seen (c : ℕ) : Type 0 where
    marks : List Bool
    list : List OrbitCone
    sieved : Sieved k columns masks c marks list

  abbrev Running : ℕ → Type 0
  Running c = Faulty ⊎ Seen c

  found : (c : ℕ) → c < length masks → (s : Seen (c + 1)) → (get_or s.marks c true ≡ true → ⊥) → NeverWide k (face columns (get_or masks c 0)) → Running c
  found c low s unseen narrow =
      let m = get_or masks c 0 in
      let described = narrow_described k (face columns m) grading.matrix.some_rows (face_short k columns m columns_short) (faces.full c 0 low) narrow grading.matrix.few_rows
      (face_pointed k columns m have grading)
      in
      let sweep = swept (λ p. SameCone k columns (get_or masks p 0) m) (λ p. same_decided k columns (get_or masks p 0) m have) c s.marks
      (let l = s.sieved.long in omega (arith, l, low))
      in
      let e : OrbitCone = record { greatest = get_or masks sweep.1 0; least = m; canon = described.0 } in
      inr (record {
        marks = sweep.0;
        list = s.list ++ e ∷ [];
        sieved = sieve_new k columns masks faces c s.marks s.list s.sieved low unseen sweep.0 e
            (record { best = sweep.1; swept = sweep.2; greatest = refl; least = refl; canon = described.1; narrow = narrow });
      })

  step : (c : ℕ) → c < length masks → Running (c + 1) → Running c
  step c low (inl fault) = inl fault
  step c low (inr s) = by (get_or s.marks c true) refl where
    by : (b : Bool) → get_or s.marks c true ≡ b → Running c
    by true seen = inr (record { marks = s.marks; list = s.list; sieved = sieve_skip k columns masks faces c s.marks s.list s.sieved seen })
    by false fresh =
        let m = get_or masks c 0 in
        let unseen : get_or s.marks c true ≡ true → ⊥ = (λ t. let f : true ≡ false = sym t ∙ fresh in cc f) in
        elim (wide_decided k (face columns m) (of_length_all k (face columns m) (face_of_length k columns m have)) (faces.full c 0 low)) [
          | inl narrow ↦ found c low s unseen narrow
          | inr wide ↦ inl (m, record { stage = wide.0; what = wide.1 }, sieve_fault k columns masks faces c s.marks s.list s.sieved low unseen (Wide m (record { stage = wide.0; what = wide.1 })) (refl, wide.2))
        ]

  run : (n c : ℕ) → n + c ≡ length masks → Running c
  run zero c e = let at : c ≡ length masks = omega (arith, e) in inr (record {
    marks = replicate (length masks) false;
    list = [];
    sieved = subst (λ (d : ℕ). Sieved k columns masks d (replicate (length masks) false) []) (sym at)
        (sieve_none k columns masks faces (replicate (length masks) false) (length-replicate (length masks) false) (blank_read (length masks)));
  })
  run (suc n) c e = step c (omega (arith, e)) (run n (c + 1) (omega (arith, e)))

  pub cones_or_wide : ((list : List OrbitCone) × AreOrbitCones k columns (Contains masks) list) ⊎ Faulty
  cones_or_wide = elim (run (length masks) 0 (omega arith)) [
    | inl fault ↦ inr fault
    | inr s ↦ (let sorted = sorted_of s.list in inl (sorted.out, sieve_end k columns masks faces s.marks s.list sorted.out s.sieved sorted.same (falling sorted.out sorted.falls)))
  ]

  -- ---- never both
  record Greatest (xs : List ℕ) (m : ℕ) : Type 0 where
    mask : ℕ
    member : Member mask xs
    same : SameCone k columns mask m
    greatest : (n : ℕ) → Member n xs → SameCone k columns n m → n ≤ mask

  greatest_in : (xs : List ℕ) (m : ℕ) → AllPairs (λ (i j : ℕ). j < i) xs → Member m xs → Greatest xs m
  greatest_in [] m falls member = absurd member
  greatest_in (x ∷ xs) m falls member = elim (same_decided k columns x m have) [
    | inl same ↦ record {
      mask = x;
      member = inl refl;
      same = same;
      greatest = λ n o _. elim o [
        | inl e ↦ omega (arith, e)
        | inr later ↦ (let c = member_contains n xs later in let b = falls 0 (suc c.0) n (omega arith) (let l = c.1 in omega (arith, l)) in let i = c.2 in omega (arith, b, i))
      ];
    }
    | inr other ↦ (
        let r = greatest_in xs m (λ i j d l h. falls (suc i) (suc j) d (omega (arith, l)) (omega (arith, h)))
        (elim member [ inl e ↦ absurd (other (subst (λ (n : ℕ). SameCone k columns n m) (sym e) (λ x. (λ h. h, λ h. h)))) | inr o ↦ o ])
        in
        record {
          mask = r.mask;
          member = inr r.member;
          same = r.same;
          greatest = λ n o same. elim o [
            | inl e ↦ absurd (other (subst (λ (j : ℕ). SameCone k columns j m) (sym e) same))
            | inr later ↦ r.greatest n later same
          ];
        })
  ]

  pub not_both : (mask : ℕ) (at : WideAt) (list : List OrbitCone) → IsNewFault k columns (Contains masks) (Wide mask at) → AreOrbitCones k columns (Contains masks) list → ⊥
  not_both mask at list fault are =
      let least = fault.0.is_least in
      let g = greatest_in masks mask faces.descending (contains_member mask masks least.is_face.is_accepted) in
      let face_of : IsConeFace k columns (Contains masks) g.mask = record {
        in_range = all_member (λ (n : ℕ). n < 2 ^ length columns) g.mask masks faces.in_range g.member;
        full = all_member (IsFullDimensional k columns) g.mask masks faces.full g.member;
        is_accepted = member_contains g.mask masks g.member;
      } in
      let is : IsGreatestMask k columns (Contains masks) g.mask = record {
        is_face = face_of;
        greatest = λ n f same. g.greatest n (contains_member n masks f.is_accepted) (same_trans k columns n g.mask mask same g.same);
      } in
      let c = with_greatest list g.mask (contains_member g.mask (greatest_of list) ((are.cones.each g.mask).1 is)) in
      let o = are.each c.cone (contained list c.member) in
      let same : SameCone k columns mask c.cone.least = same_trans k columns mask g.mask c.cone.least (same_sym k columns g.mask mask g.same)
      (subst (λ (n : ℕ). SameCone k columns n c.cone.least) c.is o.same)
      in
      let low = least.least c.cone.least o.least.is_face (same_sym k columns mask c.cone.least same) in
      let high = o.least.least mask least.is_face same in
      let equal : c.cone.least ≡ mask = omega (arith, low, high) in
      wide_not_never k (face columns mask) at.stage at.what fault.1 (subst (λ (n : ℕ). NeverWide k (face columns n)) equal (are.narrow c.cone (contained list c.member)))

-- ---- each is one
canon_once : (k : ℕ) (C : Vector → Type 0) (c d : Described) → IsCanonOf k C c → IsCanonOf k C d → c ≡ d
canon_once k C c d p q =
    let entries : c.k ≡ d.k = p.entries ∙ sym q.entries in
    let rays = rays_once k C c.rays d.rays p.canon.are_rays q.canon.are_rays in
    let facets = rays_once k (Dual k C) c.facets d.facets p.canon.are_facets q.canon.are_facets in
    λ i. record { k = entries i; rays = rays i; facets = facets i }

module _ (k : ℕ) (columns : List Vector) (accepted : ℕ → Type 0) where
  cone_once : (e f : OrbitCone) → IsOrbitCone k columns accepted e → IsOrbitCone k columns accepted f → e.greatest ≡ f.greatest → e ≡ f
  cone_once e f p q greatest =
      let same : SameCone k columns e.least f.least = same_trans k columns e.least e.greatest f.least (same_sym k columns e.greatest e.least p.same)
      (subst (λ (n : ℕ). SameCone k columns n f.least) (sym greatest) q.same)
      in
      let low = p.least.least f.least q.least.is_face (same_sym k columns e.least f.least same) in
      let high = q.least.least e.least p.least.is_face same in
      let least : e.least ≡ f.least = omega (arith, low, high) in
      let canon = canon_once k (face_cone k columns f.least) e.canon f.canon (subst (λ (n : ℕ). IsCanonOf k (face_cone k columns n) e.canon) least p.canon) q.canon in
      λ i. record { greatest = greatest i; least = least i; canon = canon i }

  lists_once : (a b : List OrbitCone) → ((e : OrbitCone) → Member e a → IsOrbitCone k columns accepted e) → ((e : OrbitCone) → Member e b → IsOrbitCone k columns accepted e)
      → greatest_of a ≡ greatest_of b → a ≡ b
  lists_once [] [] p q same = refl
  lists_once [] (f ∷ b) p q same = absurd (omega (arith, ap length same))
  lists_once (e ∷ a) [] p q same = absurd (omega (arith, ap length same))
  lists_once (e ∷ a) (f ∷ b) p q same =
      let first = cone_once e f (p e (inl refl)) (q f (inl refl)) (ap (λ (l : List ℕ). get_or l 0 0) same) in
      let rest = lists_once a b (λ d m. p d (inr m)) (λ d m. q d (inr m)) (ap (drop 1) same) in
      λ i. first i ∷ rest i

  pub cones_once : (a b : List OrbitCone) → AreOrbitCones k columns accepted a → AreOrbitCones k columns accepted b → a ≡ b
  cones_once a b p q = lists_once a b (λ e m. p.each e (contained a m)) (λ e m. q.each e (contained b m)) (falling_once (greatest_of a) (greatest_of b) p.cones.descending q.cones.descending
      (λ m o. contains_member m (greatest_of b) ((q.cones.each m).1 ((p.cones.each m).0 (member_contains m (greatest_of a) o))))
      (λ m o. contains_member m (greatest_of a) ((p.cones.each m).1 ((q.cones.each m).0 (member_contains m (greatest_of b) o)))))

  pub fault_once : (m n : ℕ) (a b : WideAt) → IsNewFault k columns accepted (Wide m a) → IsNewFault k columns accepted (Wide n b) → (m ≡ n) × (a ≡ b)
  fault_once m n a b p q =
      let mask : m ≡ n = same_number m n (λ l. wide_not_never k (face columns m) a.stage a.what p.1 (q.0.first m p.0.is_least l))
      (λ l. wide_not_never k (face columns n) b.stage b.what q.1 (p.0.first n q.0.is_least l))
      in
      let at = wide_once k (face columns n) a.stage b.stage a.what b.what (subst (λ (j : ℕ). IsWideAt k (face columns j) a.stage a.what) mask p.1) q.1 in
      (mask, λ i. record { stage = at.0 i; what = at.1 i })
