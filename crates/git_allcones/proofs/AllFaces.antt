-- The faces of some cones, one cone after another, and their dimensions.
use Rattle.std.proofs.Common.{All, AllPairs, Contains, List, [], ◌+◌, ◌++◌, ◌<◌, suc, zero, ◌≤◌, ◌∷◌, ◌≡◌, ◌≢◌, ◌↔◌, ◌⊎◌, ◌∙◌, ◌&&◌, ap, arith, Bool, true, false, get_or, nat_eq, rules, inl, inr, length, map, refl, subst, sym, take, ℕ}
use Rattle.std.proofs.lemmas.List.{map-append, take_more}
use Rattle.std.proofs.lemmas.List.Elements.{Contains-push_cases}
use Rattle.std.proofs.lemmas.Cmp.{and_equiv, int_eq_equiv, lists_equiv, nat_cmp_total, nat_eq_equiv, on_equiv, ranked}
use Rattle.std.proofs.lemmas.Slice.Eq.{slice_eq-Decides}
use Rattle.std.specs.Cmp.Rules.{comparing, signed_items}
use Rattle.std.specs.Cmp.{IsEquivalence, IsTotalOrder, int_cmp_total, on_total, then_total, unsigned_Decides}
use Rattle.std.specs.Cmp.Lexicographic.{lists_ties, lists_total, pointwise, slice_cmp}
use Rattle.std.specs.Ordering.{eq_by_cmp, eq_of_both, int_cmp, int_eq, is_eq, nat_cmp, on, ordering_then}
use Rattle.std.specs.declared.cmp.Ordering.{Ordering}
use Rattle.std.specs.declared.cmp.Ordering.TheVariants.{Less, Equal, Greater}
use Rattle.git_defs.specs.Cones.{InCone}
use Rattle.git_defs.specs.Vectors.{Vector}
use Rattle.git_defs.proofs.Lengths.{OfLength}
use Rattle.git_lemmas.specs.Members.{Member}
use Rattle.git_lemmas.proofs.Order.{vectors_ties}
use Rattle.git_lemmas.proofs.Members.{all_member, as_member, contained}
use Rattle.git_lemmas.proofs.Sorting.{Ascends, ascends_of_pairs, not_self}
use Rattle.git_geometry.proofs.Independence.{elimination_of_independent}
use Rattle.git_stages.proofs.Ranks.{rank_bound}
use Rattle.git_stages.specs.Ranks.{IsRank}
use Rattle.git_cone_faces.specs.Faces.{AreRaysOfFace}
use Rattle.git_cone_faces.specs.Families.{AreRaysOfSomeFace, Cone}
use Rattle.git_cone_faces.proofs.Faces.{face_lists}
use Rattle.git_allcones.specs.declared.cones.ListedCone.{ListedCone}
use Rattle.git_allcones.specs.Cones.{AreShortCones, IsShortCone, cone_of}
use Rattle.git_allcones.specs.declared.faces.FaceOf.{FaceOf}
use Rattle.git_stages.specs.Short.{IsShort}
use Rattle.git_allcones.specs.Faces.{face_of, AreAllFaces, ComesBefore, Face, HaveMany, IsFaceOfSome, StandsBefore, faces_size, lists_size, rays_of_face}
use Rattle.git_allcones.specs.Sets.{IsListSet, SameLists}
use Rattle.git_allcones.specs.declared.sets.TheConstants.{FACES}
use Rattle.git_allcones.proofs.Passings.{among, on_left, on_right, wall_short}
use Rattle.git_allcones.proofs.Sizes.{differ, size_within}
use Rattle.git_allcones.proofs.Sorts.{from_seen, seen}

-- ---- the dimension
pub rank_within : (k : ℕ) (given : List Vector) (n : ℕ) → OfLength k given → IsRank k given n → n ≤ k
rank_within k given n have r =
    let c = r.reached.chosen in
    let run = elimination_of_independent k c (record { each = λ v m. have.each v (as_member given (all_member (Contains given) v c r.reached.from m)) }) r.reached.independent in
    let s = run.size in let e = r.reached.count in omega (arith, s, e)

one_rank : (k : ℕ) (given : List Vector) (m n : ℕ) → OfLength k given → IsRank k given m → IsRank k given n → m ≡ n
one_rank k given m n have p q =
    let a = rank_bound k given m n have p q.reached in
    let b = rank_bound k given n m have q p.reached in
    omega (arith, a, b)

pub face_of_length : (k : ℕ) (cones : List Cone) (vs : List Vector) → AreRaysOfSomeFace k cones vs → OfLength k vs
face_of_length k cones vs f = record { each = λ v m. ((f.face.are.each v).0 (contained vs m)).edge.member.member.entries }

-- ---- one cone after another
abbrev pub AreFacesOf : ℕ → List Cone → List (List Vector) → Type 0
AreFacesOf k cones lists = (vs : List Vector) → Contains lists vs ↔ AreRaysOfSomeFace k cones vs

abbrev pub AreFacesOfOne : ℕ → Cone → List (List Vector) → Type 0
AreFacesOfOne k C lists = (vs : List Vector) → Contains lists vs ↔ AreRaysOfFace k (InCone k C.rays) vs

cone_among : (c : Cone) (us vs : List Cone) → Member c (us ++ vs) → Member c us ⊎ Member c vs
cone_among c [] vs m = inr m
cone_among c (u ∷ us) vs (inl e) = inl (inl e)
cone_among c (u ∷ us) vs (inr m) = elim (cone_among c us vs m) [ inl o ↦ inl (inr o) | inr o ↦ inr o ]

cone_left : (c : Cone) (us vs : List Cone) → Member c us → Member c (us ++ vs)
cone_left c [] vs m = absurd m
cone_left c (u ∷ us) vs (inl e) = inl e
cone_left c (u ∷ us) vs (inr m) = inr (cone_left c us vs m)

cone_last : (c : Cone) (us : List Cone) → Member c (us ++ c ∷ [])
cone_last c [] = inl refl
cone_last c (u ∷ us) = inr (cone_last c us)

pub some_of_more : (k : ℕ) (cones : List Cone) (C : Cone) (lists faces : List (List Vector)) → AreFacesOf k cones lists → AreFacesOfOne k C faces
    → AreFacesOf k (cones ++ C ∷ []) (lists ++ faces)
some_of_more k cones C lists faces before here vs = (
  λ c. elim (among vs lists faces (as_member (lists ++ faces) c)) [
    | inl m ↦ (
        let f = (before vs).0 (contained lists m) in
        record { cone = f.cone; listed = contained (cones ++ C ∷ []) (cone_left f.cone cones (C ∷ []) (as_member cones f.listed)); face = f.face })
    | inr m ↦ record { cone = C; listed = contained (cones ++ C ∷ []) (cone_last C cones); face = (here vs).0 (contained faces m) }
  ],
  λ f. contained (lists ++ faces) (elim (cone_among f.cone cones (C ∷ []) (as_member (cones ++ C ∷ []) f.listed)) [
    | inl m ↦ on_left vs lists faces (as_member lists ((before vs).1 (record { cone = f.cone; listed = contained cones m; face = f.face })))
    | inr (inl e) ↦ on_right vs lists faces (as_member faces ((here vs).1 (subst (λ (D : Cone). AreRaysOfFace k (InCone k D.rays) vs) (sym e) f.face)))
    | inr (inr m) ↦ absurd m
  ]),
)

pub faces_more : (k : ℕ) (cones : List Cone) (C : Cone) (lists faces all : List (List Vector)) → AreFacesOf k cones lists → AreFacesOfOne k C faces
    → SameLists all (lists ++ faces) → AreFacesOf k (cones ++ C ∷ []) all
faces_more k cones C lists faces all before here same vs = (
  λ c. (some_of_more k cones C lists faces before here vs).0 ((same vs).0 c),
  λ f. (same vs).1 ((some_of_more k cones C lists faces before here vs).1 f),
)

pub face_of_listed : (k : ℕ) (cones : List Cone) (C : Cone) (vs : List Vector) → Member C cones → AreRaysOfFace k (InCone k C.rays) vs → AreRaysOfSomeFace k cones vs
face_of_listed k cones C vs m f = record { cone = C; listed = contained cones m; face = f }

pub face_of_fewer : (k : ℕ) (some cones : List Cone) (vs : List Vector) → ((C : Cone) → Member C some → Member C cones) → AreRaysOfSomeFace k some vs
    → AreRaysOfSomeFace k cones vs
face_of_fewer k some cones vs within f = record { cone = f.cone; listed = contained cones (within f.cone (as_member some f.listed)); face = f.face }

-- the first cones, and one more
pub front_cones : (cones : List ListedCone) (i : ℕ) (C : ListedCone) → i < length cones → C ≡ get_or cones i C
    → map cone_of (take (i + 1) cones) ≡ map cone_of (take i cones) ++ cone_of C ∷ []
front_cones cones i C h at = ap (map cone_of) (take_more cones i C h) ∙ map-append cone_of (take i cones) (get_or cones i C ∷ [])
    ∙ (λ j. map cone_of (take i cones) ++ cone_of (sym at j) ∷ [])

pub within_front : (cones : List ListedCone) (i : ℕ) (D : Cone) → Member D (map cone_of (take i cones)) → Member D (map cone_of cones)
within_front [] zero D m = m
within_front [] (suc i) D m = m
within_front (C ∷ cones) zero D m = absurd m
within_front (C ∷ cones) (suc i) D (inl e) = inl e
within_front (C ∷ cones) (suc i) D (inr m) = inr (within_front cones i D m)

-- the extreme vectors of a face are some of its cone's
pub face_short : (k : ℕ) (cones : List Cone) (vs : List Vector) → AreShortCones k cones → AreRaysOfSomeFace k cones vs → All (IsShort k) vs
face_short k cones vs short f =
    let one = all_member (IsShortCone k) f.cone cones short.each (as_member cones f.listed) in
    let list = (face_lists k (InCone k f.cone.rays) f.cone.rays vs (λ x h. h.entries) one.full.are_rays).0 f.face in
    subst (All (IsShort k)) (sym list.is) (wall_short k list.normal f.cone.rays one.rays_short)

-- one face more
pub ranks_more : (k : ℕ) (out more : List FaceOf) (g : FaceOf) → ((f : Face) → Contains (map face_of out) f → IsRank k f.rays f.dimension)
    → IsRank k g.rays.items g.dimension → more ≡ out ++ g ∷ [] → (f : Face) → Contains (map face_of more) f → IsRank k f.rays f.dimension
ranks_more k out more g before here m f c =
    let e : map face_of more ≡ map face_of out ++ face_of g ∷ [] = ap (map face_of) m ∙ map-append face_of out (g ∷ []) in
    elim (Contains-push_cases (map face_of out) (face_of g) f (subst (λ (u : List Face). Contains u f) e c)) [
      | inl l ↦ before f l
      | inr q ↦ subst (λ (h : Face). IsRank k h.rays h.dimension) q here
    ]

-- ---- the order
pub vector_lists_total : IsTotalOrder (slice_cmp (slice_cmp int_cmp))
vector_lists_total = lists_total (lists_total int_cmp_total)

abbrev pub face_cmp : Face → Face → Ordering
face_cmp f g = ordering_then (nat_cmp f.dimension g.dimension) (slice_cmp (slice_cmp int_cmp) f.rays g.rays)

abbrev pub face_equal : FaceOf → FaceOf → Bool
face_equal = eq_of_both (on (λ (f : FaceOf). f.dimension) nat_eq) (on (λ (f : FaceOf). f.rays.items) (pointwise (pointwise int_eq)))

pub face_total : IsTotalOrder face_cmp
face_total = then_total (on_total (λ (f : Face). f.dimension) nat_cmp_total) (on_total rays_of_face vector_lists_total)

pub face_equal_equiv : IsEquivalence face_equal
face_equal_equiv = and_equiv (on_equiv (λ (f : FaceOf). f.dimension) nat_eq_equiv) (on_equiv (λ (f : FaceOf). f.rays.items) (lists_equiv (lists_equiv int_eq_equiv)))

nat_ties : (x y : ℕ) → nat_eq x y ≡ eq_by_cmp nat_cmp x y
nat_ties x y = search (comparing, rules)

eq_of_then : (o p : Ordering) → is_eq (ordering_then o p) ≡ (is_eq o && is_eq p)
eq_of_then Less p = refl
eq_of_then Equal p = refl
eq_of_then Greater p = refl

pub face_equal_ties : (f g : FaceOf) → face_equal f g ≡ eq_by_cmp (on face_of face_cmp) f g
face_equal_ties f g =
    (λ i. nat_ties f.dimension g.dimension i && lists_ties (slice_cmp int_cmp) vectors_ties f.rays.items g.rays.items i)
    ∙ sym (eq_of_then (nat_cmp f.dimension g.dimension) (slice_cmp (slice_cmp int_cmp) f.rays.items g.rays.items))

both_true : (a b : Bool) → (a && b) ≡ true → (a ≡ true) × (b ≡ true)
both_true true b e = (refl, e)
both_true false b e = absurd (let t : false ≡ true = e in cc t)

pub face_exact : (f g : FaceOf) → face_equal f g ≡ true → face_of f ≡ face_of g
face_exact f g e =
    let t = both_true (nat_eq f.dimension g.dimension) (pointwise (pointwise int_eq) f.rays.items g.rays.items) e in
    let d : f.dimension ≡ g.dimension = (unsigned_Decides f.dimension g.dimension).0 t.0 in
    let r : f.rays.items ≡ g.rays.items =
    (slice_eq-Decides signed_items f.rays.items g.rays.items (pointwise (pointwise int_eq) f.rays.items g.rays.items) refl).0 t.1 in
    λ i. record { dimension = d i; rays = r i }

comes : (f g : Face) → face_cmp f g ≡ Less → ComesBefore f g
comes f g e = by (nat_cmp f.dimension g.dimension) refl where
  then_rays : Ordering → Ordering
  then_rays o = ordering_then o (slice_cmp (slice_cmp int_cmp) f.rays g.rays)

  by : (o : Ordering) → nat_cmp f.dimension g.dimension ≡ o → ComesBefore f g
  by Less q = inl (ranked f.dimension g.dimension Less (sym q))
  by Equal q = inr (ranked f.dimension g.dimension Equal (sym q), sym (ap then_rays q) ∙ e)
  by Greater q = absurd (let t : Greater ≡ Less = sym (ap then_rays q) ∙ e in cc t)

pub sorted_faces : (faces : List Face) → AllPairs (λ f g. face_cmp f g ≡ Less) faces → AllPairs ComesBefore faces
sorted_faces faces a i j d h l = comes (get_or faces i d) (get_or faces j d) (a i j d h l)

pub list_apart : (us vs : List Vector) → StandsBefore us vs → us ≢ vs
list_apart us vs s e = not_self (slice_cmp (slice_cmp int_cmp) us us) (vector_lists_total.antisymm us us)
    (subst (λ (u : List Vector). StandsBefore us u) (sym e) s)

-- a set that is too large holds many
pub many_of_set : (old new : List (List Vector)) → IsListSet old new → FACES < lists_size new → HaveMany (Contains old)
many_of_set old new s many = record {
  lists = new;
  distinct = λ i j d h l. list_apart (get_or new i d) (get_or new j d) (s.sorted i j d h l);
  each = λ vs c. (s.same vs).0 c;
  many = many;
}

-- ---- all faces
-- in order no two have the same rays
pub faces_apart : (k : ℕ) (cones : List Cone) (faces : List Face) → AreAllFaces k cones faces → Ascends differ (map rays_of_face faces)
faces_apart k cones faces all = apart faces (λ f m. (all.each f).0 (contained faces m)) (ascends_of_pairs ComesBefore faces all.ordered) where
  later : (f : Face) (faces : List Face) → IsFaceOfSome k cones f → ((g : Face) → Member g faces → IsFaceOfSome k cones g)
      → ((g : Face) → Member g faces → ComesBefore f g) → (vs : List Vector) → Member vs (map rays_of_face faces) → differ f.rays vs
  later f faces is are before vs m e =
      let from = from_seen rays_of_face vs faces m in
      let g = from.0 in
      let same : f.rays ≡ g.rays = e ∙ sym from.2 in
      elim (before g from.1) [
        | inl less ↦
            let one = one_rank k g.rays f.dimension g.dimension (face_of_length k cones g.rays (are g from.1).rays)
            (subst (λ (u : List Vector). IsRank k u f.dimension) same is.dimension) (are g from.1).dimension in
            absurd (omega (arith, less, one))
        | inr level ↦ list_apart f.rays g.rays level.1 same
      ]

  apart : (faces : List Face) → ((f : Face) → Member f faces → IsFaceOfSome k cones f) → Ascends ComesBefore faces → Ascends differ (map rays_of_face faces)
  apart [] are a = tt
  apart (f ∷ faces) are a = (
    later f faces (are f (inl refl)) (λ g m. are g (inr m)) a.0,
    apart faces (λ g m. are g (inr m)) a.1,
  )

-- what the ordered list of the faces of these lists of rays is
pub all_of_lists : (k : ℕ) (cones : List Cone) (lists : List (List Vector)) (faces ordered : List Face) → AreFacesOf k cones lists
    → map rays_of_face faces ≡ lists → ((f : Face) → Contains faces f → IsRank k f.rays f.dimension)
    → AllPairs ComesBefore ordered → ((f : Face) → Contains ordered f ↔ Contains faces f) → AreAllFaces k cones ordered
all_of_lists k cones lists faces ordered are is ranks sorted same = record {
  ordered = sorted;
  each = λ f. (
    λ c. (
        let inside = (same f).0 c in
        record {
          rays = (are f.rays).0 (contained lists (subst (λ (u : List (List Vector)). Member f.rays u) is (seen rays_of_face f faces (as_member faces inside))));
          dimension = ranks f inside;
        }),
    λ p. (
        let from = from_seen rays_of_face f.rays faces (subst (λ (u : List (List Vector)). Member f.rays u) (sym is) (as_member lists ((are f.rays).1 p.rays))) in
        let g = from.0 in
        let rank : IsRank k f.rays g.dimension = subst (λ (u : List Vector). IsRank k u g.dimension) from.2 (ranks g (contained faces from.1)) in
        let one = one_rank k f.rays g.dimension f.dimension (face_of_length k cones f.rays p.rays) rank p.dimension in
        let e : g ≡ f = λ i. record { dimension = one i; rays = from.2 i } in
        (same f).1 (contained faces (subst (λ (h : Face). Member h faces) e from.1))),
  );
}

-- they are no larger than the lists
pub size_of_lists : (k : ℕ) (cones : List Cone) (lists : List (List Vector)) (ordered : List Face) → AreFacesOf k cones lists → AreAllFaces k cones ordered
    → faces_size ordered ≤ lists_size lists
size_of_lists k cones lists ordered are all = size_within (map rays_of_face ordered) lists (faces_apart k cones ordered all)
    (λ vs m. (
    let from = from_seen rays_of_face vs ordered m in
    subst (λ (u : List Vector). Member u lists) from.2
    (as_member lists ((are from.0.rays).1 ((all.each from.0).0 (contained ordered from.1)).rays))))
