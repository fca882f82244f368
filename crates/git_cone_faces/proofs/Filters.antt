-- The rays of faces, by filters of facets.
use Rattle.std.proofs.Common.{◌≡◌, ◌∙◌, ◌∷◌, ◌↔◌, [], Contains, List, ap, arith, inl, inr, length, map, refl, subst, suc, sym, zero, ℕ}
use Rattle.std.proofs.Math.IntN.{pos, ℤ}
use Rattle.std.proofs.lemmas.Int.{ints}
use Rattle.std.specs.Prelude.{◌≤ℤ◌}
use Rattle.git_defs.specs.Cones.{Cut, InCone}
use Rattle.git_defs.specs.Vectors.{HasRank, Vector, combination, dot, plus, scale, vector_sum, zero_vector}
use Rattle.git_defs.proofs.Lengths.{OfLength, first_of_length, rest_of_length}
use Rattle.git_defs.proofs.Linear.{combination_beside, dot-comm, dot-zero, length-combination, length-scale}
use Rattle.git_defs.proofs.Sums.{scale_none, zero-plus}
use Rattle.git_lemmas.specs.Members.{Member}
use Rattle.git_lemmas.proofs.Integers.{mul_nonneg}
use Rattle.git_lemmas.proofs.Members.{all_member, as_member, contained, member_all}
use Rattle.git_geometry.proofs.Contained.{inside_at}
use Rattle.git_geometry.proofs.Cuts.{cut_closed, side_at}
use Rattle.git_geometry.proofs.Independence.{chosen_member, chosen_of_length, no_common_zero}
use Rattle.git_geometry.proofs.Minkowski.{generators_of_length}
use Rattle.git_geometry.proofs.Rays.{dual_cut}
use Rattle.git_geometry.specs.Generators.{Generates}
use Rattle.git_cone_faces.specs.Faces.{on_wall}
use Rattle.git_cone_faces.specs.Filters.{AreOnFacets, on_walls}
use Rattle.git_cone_faces.proofs.Faces.{IsFaceList}
use Rattle.git_cone_faces.proofs.Levels.{closed_sum}
use Rattle.git_cone_faces.proofs.Walls.{scale-dot, wall_all, wall_member, wall_plus, wall_scale}

-- the vectors whose number is not 0
abbrev pub support : List ℕ → List Vector → List Vector
support [] vs = []
support (w ∷ ws) [] = []
support (zero ∷ ws) (v ∷ vs) = support ws vs
support (suc w ∷ ws) (v ∷ vs) = v ∷ support ws vs

support_member : (ws : List ℕ) (vs : List Vector) (x : Vector) → Member x (support ws vs) → Member x vs
support_member [] vs x m = absurd m
support_member (w ∷ ws) [] x m = absurd m
support_member (zero ∷ ws) (v ∷ vs) x m = inr (support_member ws vs x m)
support_member (suc w ∷ ws) (v ∷ vs) x (inl e) = inl e
support_member (suc w ∷ ws) (v ∷ vs) x (inr m) = inr (support_member ws vs x m)

zero_wall : (k : ℕ) (rays : List Vector) → on_wall (zero_vector k) rays ≡ rays
zero_wall k rays = wall_all (zero_vector k) rays (λ v m. dot-comm (zero_vector k) v ∙ dot-zero v k)

beside : (k : ℕ) (rays : List Vector) (n v : Vector) → Cut k rays n → Member v rays → pos 0 ≤ℤ dot n v
beside k rays n v c m = subst (λ (z : ℤ). pos 0 ≤ℤ z) (dot-comm v n) (side_at c v m)

scaled_beside : (w : ℕ) (n v : Vector) → pos 0 ≤ℤ dot n v → pos 0 ≤ℤ dot (scale (pos w) n) v
scaled_beside w n v p = subst (λ (z : ℤ). pos 0 ≤ℤ z) (sym (scale-dot (pos w) n v)) (mul_nonneg (pos w) (dot n v) (omega (arith, ints)) p)

-- a sum of normals filters as those of them do whose number is not 0
combination_filters : (k : ℕ) (rays : List Vector) (ws : List ℕ) (ns : List Vector) → OfLength k ns → ((n : Vector) → Member n ns → Cut k rays n)
    → on_wall (combination k (map pos ws) ns) rays ≡ on_walls (support ws ns) rays
combination_filters k rays [] ns have inside = zero_wall k rays
combination_filters k rays (w ∷ ws) [] have inside = zero_wall k rays
combination_filters k rays (zero ∷ ws) (n ∷ ns) have inside =
    let rest = combination k (map pos ws) ns in
    let have_rest = rest_of_length k n ns have in
    let e : plus (scale (pos 0) n) rest ≡ rest = ap (λ (u : Vector). plus u rest) (scale_none n k (first_of_length k n ns have))
    ∙ zero-plus rest k (length-combination k (map pos ws) ns have_rest) in
    ap (λ (u : Vector). on_wall u rays) e ∙ combination_filters k rays ws ns have_rest (λ m o. inside m (inr o))
combination_filters k rays (suc w ∷ ws) (n ∷ ns) have inside =
    let rest = combination k (map pos ws) ns in
    let have_rest = rest_of_length k n ns have in
    let later = combination_filters k rays ws ns have_rest (λ m o. inside m (inr o)) in
    let sizes : length (scale (pos (suc w)) n) ≡ length rest =
    length-scale (pos (suc w)) n ∙ first_of_length k n ns have ∙ sym (length-combination k (map pos ws) ns have_rest) in
    wall_plus (scale (pos (suc w)) n) rest rays sizes (λ v m. scaled_beside (suc w) n v (beside k rays n v (inside n (inl refl)) m))
    (λ v m. subst (λ (z : ℤ). pos 0 ≤ℤ z) (dot-comm v rest)
    (combination_beside k v ws ns have_rest (λ u o. side_at (inside u (inr o)) v m)))
    ∙ wall_scale (suc w) n (on_wall rest rays) (omega arith) ∙ ap (on_wall n) later

-- filters one after another are the filter of the sum
filters_sum : (k : ℕ) (rays ns : List Vector) → ((n : Vector) → Member n ns → Cut k rays n) → on_walls ns rays ≡ on_wall (vector_sum k ns) rays
filters_sum k rays [] inside = sym (zero_wall k rays)
filters_sum k rays (n ∷ ns) inside =
    let rest = closed_sum k (Cut k rays) ns (cut_closed k rays) (λ m o. inside m (inr o)) in
    let here = inside n (inl refl) in
    ap (on_wall n) (filters_sum k rays ns (λ m o. inside m (inr o)))
    ∙ sym (wall_plus n (vector_sum k ns) rays (here.entries ∙ sym rest.entries) (λ v m. beside k rays n v here m)
    (λ v m. beside k rays (vector_sum k ns) v rest m))

pub lists_filters : (k : ℕ) (rays facets list : List Vector) → OfLength k rays → Generates k rays facets
    → IsFaceList k (InCone k rays) rays list ↔ AreOnFacets facets rays list
lists_filters k rays facets list have g = (to, back) where
  to : IsFaceList k (InCone k rays) rays list → AreOnFacets facets rays list
  to f =
      let n = f.normal in
      let c : InCone k facets n = g.all n ((dual_cut k rays have n).0 f.side) in
      let used = support c.weights facets in
      record {
        used = used;
        from = member_all (Contains facets) used (λ x m. contained facets (support_member c.weights facets x m));
        is = f.is ∙ sym (wall_scale c.multiple n rays c.positive) ∙ ap (λ (u : Vector). on_wall u rays) c.sum
            ∙ combination_filters k rays c.weights facets (generators_of_length k rays facets g) (inside_at g);
      }

  back : AreOnFacets facets rays list → IsFaceList k (InCone k rays) rays list
  back f =
      let inside : (m : Vector) → Member m f.used → Cut k rays m =
      λ m o. inside_at g m (as_member facets (all_member (Contains facets) m f.used f.from o)) in
      record {
        normal = vector_sum k f.used;
        side = (dual_cut k rays have (vector_sum k f.used)).1 (closed_sum k (Cut k rays) f.used (cut_closed k rays) inside);
        is = f.is ∙ filters_sum k rays f.used inside;
      }

-- ---- all filters
on_walls_member : (ns vs : List Vector) (x : Vector) → Member x (on_walls ns vs) → Member x vs × ((n : Vector) → Member n ns → dot n x ≡ pos 0)
on_walls_member [] vs x m = (m, λ n o. absurd o)
on_walls_member (n ∷ ns) vs x m =
    let here = wall_member n (on_walls ns vs) x m in
    let rest = on_walls_member ns vs x here.0 in
    (rest.0, λ a o. elim o [ inl e ↦ subst (λ (w : Vector). dot w x ≡ pos 0) e here.1 | inr p ↦ rest.1 a p ])

no_members : (vs : List Vector) → ((x : Vector) → Member x vs → ⊥) → vs ≡ []
no_members [] none = refl
no_members (v ∷ vs) none = absurd (none v (inl refl))

pub all_filters : (k : ℕ) (rays facets : List Vector) → OfLength k rays → ((x : Vector) → Member x rays → x ≡ zero_vector k → ⊥) → OfLength k facets
    → HasRank k facets → on_walls facets rays ≡ []
all_filters k rays facets have some facets_have rank = no_members (on_walls facets rays) (λ x m.
    let f = on_walls_member facets rays x m in
    some x f.0 (no_common_zero k rank.chosen x (chosen_of_length k facets facets_have rank) rank.independent rank.count (have.each x f.0)
    (λ b o. f.1 b (chosen_member k facets rank b o))))
