-- Some cones have a list of all their faces, and each face stands under its dimension.
use Rattle.std.proofs.Common.{◌≡◌, ◌∙◌, ◌++◌, ◌+◌, ◌<◌, ◌≤◌, ◌⊎◌, ◌∷◌, [], Contains, List, ap, arith, eq-eqb, eqb-true, inl, inr, map, refl, subst, suc, sym, zero, ℕ}
use Rattle.std.specs.Prelude.{Bool, true, false, ◌==◌}
use mathlib.Core.Bool.{cond}
use Rattle.std.specs.Cmp.Lexicographic.{slice_cmp}
use Rattle.std.specs.List.{flat_map, range_with_len}
use Rattle.std.specs.Cmp.Lexicographic.{lists_ties, pointwise}
use Rattle.std.specs.Cmp.Rules.{signed_items}
use Rattle.std.proofs.lemmas.Bool.{cases_lt}
use Rattle.std.proofs.lemmas.Cmp.{ranked}
use Rattle.std.proofs.lemmas.Slice.Eq.{slice_eq-Decides}
use Rattle.std.specs.Ordering.{int_cmp, int_eq, is_eq, nat_cmp, ordering_then}
use Rattle.std.specs.declared.cmp.Ordering.{Ordering}
use Rattle.std.specs.declared.cmp.Ordering.TheVariants.{Less, Equal, Greater}
use Rattle.git_defs.specs.Cones.{InCone}
use Rattle.git_defs.specs.Vectors.{Vector}
use Rattle.git_defs.proofs.Lengths.{OfLength, of_length_all}
use Rattle.git_lemmas.specs.Members.{Member}
use Rattle.git_lemmas.proofs.Order.{vectors_ties}
use Rattle.git_lemmas.proofs.Members.{all_member, as_member, contained}
use Rattle.git_lemmas.proofs.Sorting.{Ascends, ascends_of_pairs, pairs_of_ascends}
use Rattle.git_geometry.proofs.Independence.{elimination_of_independent}
use Rattle.git_stages.proofs.Decided.{rank_exists}
use Rattle.git_stages.proofs.Listed.{data_of, turned}
use Rattle.git_stages.specs.Ranks.{IsRank}
use Rattle.git_cone_faces.specs.Faces.{AreRaysOfFace}
use Rattle.git_cone_faces.specs.Families.{Cone}
use Rattle.git_cone_faces.specs.Filters.{one_pass}
use Rattle.git_cone_faces.proofs.Full.{full_pass}
use Rattle.git_allcones.specs.Cones.{AreShortCones, IsShortCone}
use Rattle.git_allcones.specs.Faces.{AreAllFaces, ComesBefore, Face, rays_of_face}
use Rattle.git_allcones.proofs.AllFaces.{AreFacesOf, all_of_lists, face_cmp, face_of_length, face_total, sorted_faces}
use Rattle.git_allcones.proofs.Passings.{among, on_left, on_right}
use Rattle.git_cone_text.specs.ConesText.{faces_of}

-- ---- a list in order with the members of another
record Put (x : Face) (vs : List Face) : Type 0 where
  list : List Face
  ascends : Ascends (λ f g. face_cmp f g ≡ Less) list
  to : (y : Face) → Member y list → (x ≡ y) ⊎ Member y vs
  back : (y : Face) → (x ≡ y) ⊎ Member y vs → Member y list

both_equal : (o p : Ordering) → ordering_then o p ≡ Equal → (o ≡ Equal) × (p ≡ Equal)
both_equal Less p e = absurd (cc e)
both_equal Equal p e = (refl, e)
both_equal Greater p e = absurd (cc e)

equal_face : (f g : Face) → face_cmp f g ≡ Equal → f ≡ g
equal_face f g e =
    let t = both_equal (nat_cmp f.dimension g.dimension) (slice_cmp (slice_cmp int_cmp) f.rays g.rays) e in
    let d : f.dimension ≡ g.dimension = ranked f.dimension g.dimension Equal (sym t.0) in
    let r : f.rays ≡ g.rays = (slice_eq-Decides signed_items f.rays g.rays (pointwise (pointwise int_eq) f.rays g.rays) refl).0
    (lists_ties (slice_cmp int_cmp) vectors_ties f.rays g.rays ∙ ap is_eq t.1) in
    λ i. record { dimension = d i; rays = r i }

put : (x : Face) (vs : List Face) → Ascends (λ f g. face_cmp f g ≡ Less) vs → Put x vs
put x [] a = record { list = x ∷ []; ascends = (λ y m. absurd m, tt); to = λ y m. m; back = λ y m. m }
put x (v ∷ vs) a = elim (data_of (face_cmp x v)) [
  | inl less ↦ record {
    list = x ∷ v ∷ vs;
    ascends = (λ y m. elim m [ inl e ↦ subst (λ (g : Face). face_cmp x g ≡ Less) e less | inr n ↦ face_total.trans x v y less (a.0 y n) ], a);
    to = λ y m. m;
    back = λ y m. m;
  }
  | inr (inl same) ↦ (let e = equal_face x v same in record {
    list = v ∷ vs;
    ascends = a;
    to = λ y m. inr m;
    back = λ y m. elim m [ inl f ↦ inl (sym e ∙ f) | inr n ↦ n ];
  })
  | inr (inr more) ↦ (
      let p = put x vs a.1 in
      let before : face_cmp v x ≡ Less = turned (face_cmp v x) (face_cmp x v) (face_total.antisymm v x) more in
      record {
        list = v ∷ p.list;
        ascends = (λ y m. elim (p.to y m) [ inl e ↦ subst (λ (g : Face). face_cmp v g ≡ Less) e before | inr n ↦ a.0 y n ], p.ascends);
        to = λ y m. elim m [ inl e ↦ inr (inl e) | inr n ↦ elim (p.to y n) [ inl e ↦ inl e | inr q ↦ inr (inr q) ] ];
        back = λ y m. elim m [ inl e ↦ inr (p.back y (inl e)) | inr (inl e) ↦ inl e | inr (inr q) ↦ inr (p.back y (inr q)) ];
      })
]

record Ordered (faces : List Face) : Type 0 where
  list : List Face
  ascends : Ascends (λ f g. face_cmp f g ≡ Less) list
  to : (y : Face) → Member y list → Member y faces
  back : (y : Face) → Member y faces → Member y list

order : (faces : List Face) → Ordered faces
order [] = record { list = []; ascends = tt; to = λ y m. m; back = λ y m. m }
order (f ∷ faces) =
    let rest = order faces in
    let p = put f rest.list rest.ascends in
    record {
      list = p.list;
      ascends = p.ascends;
      to = λ y m. elim (p.to y m) [ inl e ↦ inl e | inr n ↦ inr (rest.to y n) ];
      back = λ y m. elim m [ inl e ↦ p.back y (inl e) | inr n ↦ p.back y (inr (rest.back y n)) ];
    }

-- ---- the lists of rays of faces
lists_of : (k : ℕ) (cones : List Cone) → ((C : Cone) → Member C cones → IsShortCone k C) → (lists : List (List Vector)) × AreFacesOf k cones lists
lists_of k [] short = ([], λ vs. (λ c. absurd (as_member [] c), λ f. absurd (as_member [] f.listed)))
lists_of k (C ∷ cones) short =
    let full = (short C (inl refl)).full in
    let here = one_pass C.facets (C.rays ∷ []) in
    let rest = lists_of k cones (λ D m. short D (inr m)) in (
      here ++ rest.0,
      λ vs. (
        λ c. elim (among vs here rest.0 (as_member (here ++ rest.0) c)) [
          | inl m ↦ record { cone = C; listed = contained (C ∷ cones) (inl refl); face = (full_pass full vs).0 (contained here m) }
          | inr m ↦ (let f = (rest.1 vs).0 (contained rest.0 m) in record { cone = f.cone; listed = contained (C ∷ cones) (inr (as_member cones f.listed)); face = f.face })
        ],
        λ f. contained (here ++ rest.0) (elim (as_member (C ∷ cones) f.listed) [
          | inl e ↦ on_left vs here rest.0 (as_member here ((full_pass full vs).1 (subst (λ (D : Cone). AreRaysOfFace k (InCone k D.rays) vs) (sym e) f.face)))
          | inr m ↦ on_right vs here rest.0 (as_member rest.0 ((rest.1 vs).1 (record { cone = f.cone; listed = contained cones m; face = f.face })))
        ]),
      ),
    )

-- faces with these lists of rays
record Ranked (k : ℕ) (lists : List (List Vector)) : Type 0 where
  faces : List Face
  are : map rays_of_face faces ≡ lists
  ranks : (f : Face) → Member f faces → IsRank k f.rays f.dimension

ranked_lists : (k : ℕ) (lists : List (List Vector)) → ((vs : List Vector) → Member vs lists → OfLength k vs) → Ranked k lists
ranked_lists k [] have = record { faces = []; are = refl; ranks = λ f m. absurd m }
ranked_lists k (vs ∷ lists) have =
    let rank = rank_exists k vs (of_length_all k vs (have vs (inl refl))) in
    let rest = ranked_lists k lists (λ us m. have us (inr m)) in
    let face : Face = record { dimension = rank.0; rays = vs } in
    record {
      faces = face ∷ rest.faces;
      are = ap (λ (us : List (List Vector)). vs ∷ us) rest.are;
      ranks = λ f m. elim m [ inl e ↦ subst (λ (g : Face). IsRank k g.rays g.dimension) e rank.1 | inr n ↦ rest.ranks f n ];
    }

pub all_exist : (k : ℕ) (cones : List Cone) → AreShortCones k cones → (faces : List Face) × AreAllFaces k cones faces
all_exist k cones short =
    let lists = lists_of k cones (λ C m. all_member (IsShortCone k) C cones short.each m) in
    let ranked = ranked_lists k lists.0 (λ vs m. face_of_length k cones vs ((lists.1 vs).0 (contained lists.0 m))) in
    let ordered = order ranked.faces in (
      ordered.list,
      all_of_lists k cones lists.0 ranked.faces ordered.list lists.1 ranked.are (λ f c. ranked.ranks f (as_member ranked.faces c))
          (sorted_faces ordered.list (pairs_of_ascends (λ f g. face_cmp f g ≡ Less) ordered.list ordered.ascends))
          (λ f. (λ c. contained ranked.faces (ordered.to f (as_member ordered.list c)), λ c. contained ordered.list (ordered.back f (as_member ranked.faces c)))),
    )

-- ---- by dimensions
rank_within : (k : ℕ) (vs : List Vector) (n : ℕ) → OfLength k vs → IsRank k vs n → n ≤ k
rank_within k vs n have r =
    let c = r.reached.chosen in
    let run = elimination_of_independent k c (record { each = λ v m. have.each v (as_member vs (all_member (Contains vs) v c r.reached.from m)) }) r.reached.independent in
    let s = run.size in let e = r.reached.count in omega (arith, s, e)

abbrev groups : List Face → ℕ → ℕ → List Face
groups faces a n = flat_map (λ d. faces_of d faces) (range_with_len a n)

kept : (b : Bool) (f : Face) (faces : List Face) → b ≡ true → cond b (f ∷ faces) faces ≡ f ∷ faces
kept true f faces e = refl
kept false f faces e = absurd (let t : false ≡ true = e in cc t)

left_out : (b : Bool) (f : Face) (faces : List Face) → (b ≡ true → ⊥) → cond b (f ∷ faces) faces ≡ faces
left_out true f faces out = absurd (out refl)
left_out false f faces out = refl

here : (f : Face) (faces : List Face) (d : ℕ) → f.dimension ≡ d → faces_of d (f ∷ faces) ≡ f ∷ faces_of d faces
here f faces d e = kept (f.dimension == d) f (faces_of d faces) (eq-eqb f.dimension d e)

elsewhere : (f : Face) (faces : List Face) (d : ℕ) → (f.dimension ≡ d → ⊥) → faces_of d (f ∷ faces) ≡ faces_of d faces
elsewhere f faces d out = left_out (f.dimension == d) f (faces_of d faces) (λ t. out (eqb-true f.dimension d t))

none : (faces : List Face) (d : ℕ) → ((f : Face) → Member f faces → d < f.dimension) → faces_of d faces ≡ []
none [] d above = refl
none (f ∷ faces) d above = elsewhere f faces d (λ e. let h = above f (inl refl) in omega (arith, h, e)) ∙ none faces d (λ g m. above g (inr m))

after : (f : Face) (faces : List Face) (a n : ℕ) → f.dimension < a → groups (f ∷ faces) a n ≡ groups faces a n
after f faces a zero below = refl
after f faces a (suc n) below = λ i. elsewhere f faces a (λ e. omega (arith, below, e)) i ++ after f faces (a + 1) n (omega (arith, below)) i

first : (f : Face) (faces : List Face) (a n : ℕ) → a ≤ f.dimension → f.dimension < a + n → ((g : Face) → Member g faces → f.dimension ≤ g.dimension)
    → groups (f ∷ faces) a n ≡ f ∷ groups faces a n
first f faces a zero above below least = absurd (omega (arith, above, below))
first f faces a (suc n) above below least = elim (cases_lt a f.dimension) [
  | inl less ↦
      let empty : faces_of a faces ≡ [] = none faces a (λ g m. let h = least g m in omega (arith, less, h)) in
      (λ i. (elsewhere f faces a (λ e. omega (arith, less, e)) ∙ empty) i ++ first f faces (a + 1) n (omega (arith, less)) (omega (arith, below)) least i)
      ∙ (λ i. f ∷ (sym empty i ++ groups faces (a + 1) n))
  | inr more ↦
      let e : f.dimension ≡ a = omega (arith, above, more) in
      λ i. here f faces a e i ++ after f faces (a + 1) n (omega (arith, e)) i
]

all_shown : (n : ℕ) (faces : List Face) → ((f : Face) → Member f faces → f.dimension < n) → Ascends ComesBefore faces → groups faces 0 n ≡ faces
all_shown n [] within a = nothing 0 n where
  nothing : (a n : ℕ) → groups [] a n ≡ []
  nothing a zero = refl
  nothing a (suc n) = nothing (a + 1) n
all_shown n (f ∷ faces) within a = first f faces 0 n (omega arith) (let h = within f (inl refl) in omega (arith, h)) (λ g m. elim (a.0 g m) [ inl less ↦ omega (arith, less) | inr level ↦ (let e = level.0 in omega (arith, e)) ])
    ∙ ap (λ (l : List Face). f ∷ l) (all_shown n faces (λ g m. within g (inr m)) a.1)

pub shown : (k : ℕ) (cones : List Cone) (faces : List Face) → AreAllFaces k cones faces → flat_map (λ d. faces_of d faces) (range_with_len 0 (k + 1)) ≡ faces
shown k cones faces all = all_shown (k + 1) faces
    (λ f m. let is = (all.each f).0 (contained faces m) in let h = rank_within k f.rays f.dimension (face_of_length k cones f.rays is.rays) is.dimension in omega (arith, h))
    (ascends_of_pairs ComesBefore faces all.ordered)
