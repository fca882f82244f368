-- The list of all faces is one, and passes the limit where there are many.
use Rattle.std.proofs.Common.{◌≡◌, ◌↔◌, ◌<◌, ◌∙◌, List, arith, inl, inr, map, subst, ℕ}
use Rattle.std.specs.Cmp.Lexicographic.{slice_cmp}
use Rattle.std.specs.Ordering.{int_cmp}
use Rattle.git_defs.specs.Vectors.{Vector}
use Rattle.git_defs.proofs.Lengths.{of_length_all}
use Rattle.git_lemmas.specs.Members.{Member}
use Rattle.git_lemmas.proofs.Members.{as_member, contained}
use Rattle.git_lemmas.proofs.Sorting.{ascends_of_pairs, not_self, once, pairs_of_ascends}
use Rattle.git_stages.proofs.Decided.{rank_exists}
use Rattle.git_cone_faces.specs.Families.{AreRaysOfSomeFace, Cone}
use Rattle.git_allcones.specs.Faces.{AreAllFaces, ComesBefore, Face, HaveMany, faces_size, rays_of_face}
use Rattle.git_allcones.specs.declared.sets.TheConstants.{FACES}
use Rattle.git_allcones.proofs.AllFaces.{face_of_length, faces_apart, vector_lists_total}
use Rattle.git_allcones.proofs.Sizes.{differ, size_within}
use Rattle.git_allcones.proofs.Sorts.{from_seen, seen}

-- ---- the order is strict
before_itself : (f : Face) → ComesBefore f f → ⊥
before_itself f (inl less) = absurd (omega (arith, less))
before_itself f (inr level) = not_self (slice_cmp (slice_cmp int_cmp) f.rays f.rays) (vector_lists_total.antisymm f.rays f.rays) level.1

before_through : (f g h : Face) → ComesBefore f g → ComesBefore g h → ComesBefore f h
before_through f g h (inl a) (inl b) = inl (omega (arith, a, b))
before_through f g h (inl a) (inr b) = let e = b.0 in inl (omega (arith, a, e))
before_through f g h (inr a) (inl b) = let e = a.0 in inl (omega (arith, b, e))
before_through f g h (inr a) (inr b) = inr (a.0 ∙ b.0, vector_lists_total.trans f.rays g.rays h.rays a.1 b.1)

pub one_list : (k : ℕ) (cones : List Cone) (faces others : List Face) → AreAllFaces k cones faces → AreAllFaces k cones others → faces ≡ others
one_list k cones faces others a b = once ComesBefore before_itself before_through faces others
    (ascends_of_pairs ComesBefore faces a.ordered) (ascends_of_pairs ComesBefore others b.ordered)
    (λ f m. as_member others ((b.each f).1 ((a.each f).0 (contained faces m))))
    (λ f m. as_member faces ((a.each f).1 ((b.each f).0 (contained others m))))

-- ---- the limit
-- the rays of each face are listed
listed : (k : ℕ) (cones : List Cone) (faces : List Face) (vs : List Vector) → AreAllFaces k cones faces → AreRaysOfSomeFace k cones vs
    → Member vs (map rays_of_face faces)
listed k cones faces vs all f =
    let rank = rank_exists k vs (of_length_all k vs (face_of_length k cones vs f)) in
    let face : Face = record { dimension = rank.0; rays = vs } in
    seen rays_of_face face faces (as_member faces ((all.each face).1 (record { rays = f; dimension = rank.1 })))

pub many_exactly : (k : ℕ) (cones : List Cone) (faces : List Face) → AreAllFaces k cones faces
    → HaveMany (AreRaysOfSomeFace k cones) ↔ FACES < faces_size faces
many_exactly k cones faces all = (
  λ many. (
      let least = size_within many.lists (map rays_of_face faces) (ascends_of_pairs differ many.lists many.distinct)
      (λ vs m. listed k cones faces vs all (many.each vs (contained many.lists m))) in
      let h = many.many in omega (arith, least, h)),
  λ h. record {
    lists = map rays_of_face faces;
    distinct = pairs_of_ascends differ (map rays_of_face faces) (faces_apart k cones faces all);
    each = λ vs c. (
        let from = from_seen rays_of_face vs faces (as_member (map rays_of_face faces) c) in
        subst (λ (u : List Vector). AreRaysOfSomeFace k cones u) from.2 ((all.each from.0).0 (contained faces from.1)).rays);
    many = h;
  },
)
