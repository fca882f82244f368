-- One pass through the facets of a cone.
use Rattle.std.proofs.Common.{◌≡◌, ◌∙◌, ◌⊎◌, ◌∷◌, ◌++◌, ◌↔◌, [], Contains, List, ap, inl, inr, map, refl, subst, sym}
use Rattle.git_defs.specs.Vectors.{Vector, dot}
use Rattle.git_lemmas.specs.Members.{Member}
use Rattle.git_lemmas.proofs.Members.{all_member, as_member, contained, contains_member, member_all, member_contains}
use Rattle.git_geometry.proofs.Edges.{zero_or_not}
use Rattle.git_cone_faces.specs.Faces.{on_wall}
use Rattle.git_cone_faces.specs.Filters.{AreOnFacets, on_walls, one_pass, with_wall}
use Rattle.git_cone_faces.proofs.Walls.{wall_all, wall_member, on_wall_no, on_wall_yes}

-- ---- filters change places, and twice the same is once
pub wall_comm : (m n : Vector) (vs : List Vector) → on_wall m (on_wall n vs) ≡ on_wall n (on_wall m vs)
wall_comm m n [] = refl
wall_comm m n (v ∷ vs) =
    let rest = wall_comm m n vs in
    elim (zero_or_not (dot m v)) [
      | inl em ↦ elim (zero_or_not (dot n v)) [
        | inl en ↦ ap (on_wall m) (on_wall_yes n v vs en) ∙ on_wall_yes m v (on_wall n vs) em ∙ ap (λ (ws : List Vector). v ∷ ws) rest
            ∙ sym (on_wall_yes n v (on_wall m vs) en) ∙ ap (on_wall n) (sym (on_wall_yes m v vs em))
        | inr on ↦ ap (on_wall m) (on_wall_no n v vs on) ∙ rest ∙ sym (on_wall_no n v (on_wall m vs) on) ∙ ap (on_wall n) (sym (on_wall_yes m v vs em))
      ]
      | inr om ↦ elim (zero_or_not (dot n v)) [
        | inl en ↦ ap (on_wall m) (on_wall_yes n v vs en) ∙ on_wall_no m v (on_wall n vs) om ∙ rest ∙ ap (on_wall n) (sym (on_wall_no m v vs om))
        | inr on ↦ ap (on_wall m) (on_wall_no n v vs on) ∙ rest ∙ ap (on_wall n) (sym (on_wall_no m v vs om))
      ]
    ]

pub wall_once : (n : Vector) (vs : List Vector) → on_wall n (on_wall n vs) ≡ on_wall n vs
wall_once n vs = wall_all n (on_wall n vs) (λ v o. (wall_member n vs v o).1)

pub on_walls_comm : (m : Vector) (ns vs : List Vector) → on_wall m (on_walls ns vs) ≡ on_walls ns (on_wall m vs)
on_walls_comm m [] vs = refl
on_walls_comm m (n ∷ ns) vs = wall_comm m n (on_walls ns vs) ∙ ap (on_wall n) (on_walls_comm m ns vs)

-- ---- the first filter first, if it is used, and the others after it
record Parted (m : Vector) (ms used vs : List Vector) : Type 0 where
  rest : List Vector
  within : (u : Vector) → Member u rest → Member u ms
  is : (on_walls used vs ≡ on_walls rest vs) ⊎ (on_walls used vs ≡ on_walls rest (on_wall m vs))

parted : (m : Vector) (ms used vs : List Vector) → ((u : Vector) → Member u used → Member u (m ∷ ms)) → Parted m ms used vs
parted m ms [] vs within = record { rest = []; within = λ u o. absurd o; is = inl refl }
parted m ms (u ∷ us) vs within =
    let p = parted m ms us vs (λ a o. within a (inr o)) in
    elim (within u (inl refl)) [
      | inl e ↦ record {
        rest = p.rest;
        within = p.within;
        is = elim p.is [
          | inl f ↦ inr (ap (λ (w : Vector). on_wall w (on_walls us vs)) (sym e) ∙ ap (on_wall m) f ∙ on_walls_comm m p.rest vs)
          | inr f ↦ inr (ap (λ (w : Vector). on_wall w (on_walls us vs)) (sym e) ∙ ap (on_wall m) f ∙ on_walls_comm m p.rest (on_wall m vs)
              ∙ ap (on_walls p.rest) (wall_once m vs))
        ];
      }
      | inr o ↦ record {
        rest = u ∷ p.rest;
        within = λ a n. elim n [ inl f ↦ subst (λ (w : Vector). Member w ms) f o | inr q ↦ p.within a q ];
        is = elim p.is [ inl f ↦ inl (ap (on_wall u) f) | inr f ↦ inr (ap (on_wall u) f) ];
      }
    ]

-- ---- members of lists of lists
list_left : (x : List Vector) (us vs : List (List Vector)) → Member x us → Member x (us ++ vs)
list_left x [] vs m = absurd m
list_left x (u ∷ us) vs (inl e) = inl e
list_left x (u ∷ us) vs (inr m) = inr (list_left x us vs m)

list_right : (x : List Vector) (us vs : List (List Vector)) → Member x vs → Member x (us ++ vs)
list_right x [] vs m = m
list_right x (u ∷ us) vs m = inr (list_right x us vs m)

filter_member : (n : Vector) (lists : List (List Vector)) (x : List Vector) → Member x lists → Member (on_wall n x) (map (on_wall n) lists)
filter_member n [] x m = absurd m
filter_member n (l ∷ lists) x (inl e) = inl (ap (on_wall n) e)
filter_member n (l ∷ lists) x (inr m) = inr (filter_member n lists x m)

pass_has : (ms : List Vector) (lists : List (List Vector)) (vs used : List Vector) → Member vs lists → ((u : Vector) → Member u used → Member u ms)
    → Member (on_walls used vs) (one_pass ms lists)
pass_has [] lists vs [] m within = m
pass_has [] lists vs (u ∷ us) m within = absurd (within u (inl refl))
pass_has (n ∷ ms) lists vs used m within =
    let p = parted n ms used vs within in
    elim p.is [
      | inl e ↦ subst (λ (w : List Vector). Member w (one_pass ms (with_wall n lists))) (sym e)
          (pass_has ms (with_wall n lists) vs p.rest (list_left vs lists (map (on_wall n) lists) m) p.within)
      | inr e ↦ subst (λ (w : List Vector). Member w (one_pass ms (with_wall n lists))) (sym e)
          (pass_has ms (with_wall n lists) (on_wall n vs) p.rest
          (list_right (on_wall n vs) lists (map (on_wall n) lists) (filter_member n lists vs m)) p.within)
    ]

-- what holds of the first lists, and stays under the filters, holds of all
lists_all : (P : List Vector → Type 0) (n : Vector) (lists : List (List Vector)) → ((x : List Vector) → P x → P (on_wall n x))
    → ((x : List Vector) → Member x lists → P x) → (x : List Vector) → Member x (map (on_wall n) lists) → P x
lists_all P n [] stays first x m = absurd m
lists_all P n (l ∷ lists) stays first x (inl e) = subst P e (stays l (first l (inl refl)))
lists_all P n (l ∷ lists) stays first x (inr m) = lists_all P n lists stays (λ y o. first y (inr o)) x m

both_all : (P : List Vector → Type 0) (us vs : List (List Vector)) → ((x : List Vector) → Member x us → P x) → ((x : List Vector) → Member x vs → P x)
    → (x : List Vector) → Member x (us ++ vs) → P x
both_all P [] vs p q x m = q x m
both_all P (u ∷ us) vs p q x (inl e) = p x (inl e)
both_all P (u ∷ us) vs p q x (inr m) = both_all P us vs (λ y o. p y (inr o)) q x m

pass_all : (P : List Vector → Type 0) (ms : List Vector) (lists : List (List Vector)) → ((n : Vector) (x : List Vector) → Member n ms → P x → P (on_wall n x))
    → ((x : List Vector) → Member x lists → P x) → (x : List Vector) → Member x (one_pass ms lists) → P x
pass_all P [] lists stays first x m = first x m
pass_all P (n ∷ ms) lists stays first x m = pass_all P ms (with_wall n lists) (λ a y o p. stays a y (inr o) p)
    (both_all P lists (map (on_wall n) lists) first (lists_all P n lists (λ y p. stays n y (inl refl) p) first)) x m

pub pass_filters : (facets rays list : List Vector) → Contains (one_pass facets (rays ∷ [])) list ↔ AreOnFacets facets rays list
pass_filters facets rays list = (
  λ c. pass_all (AreOnFacets facets rays) facets (rays ∷ []) more first list (contains_member list (one_pass facets (rays ∷ [])) c),
  λ f. member_contains list (one_pass facets (rays ∷ [])) (subst (λ (w : List Vector). Member w (one_pass facets (rays ∷ []))) (sym f.is)
      (pass_has facets (rays ∷ []) rays f.used (inl refl) (λ u o. as_member facets (all_member (Contains facets) u f.used f.from o)))),
) where
  first : (x : List Vector) → Member x (rays ∷ []) → AreOnFacets facets rays x
  first x (inl e) = record { used = []; from = member_all (Contains facets) [] (λ u o. absurd o); is = sym e }
  first x (inr o) = absurd o

  more : (n : Vector) (x : List Vector) → Member n facets → AreOnFacets facets rays x → AreOnFacets facets rays (on_wall n x)
  more n x m f = record {
    used = n ∷ f.used;
    from = member_all (Contains facets) (n ∷ f.used) (λ u o. elim o [
      | inl e ↦ contained facets (subst (λ (w : Vector). Member w facets) e m)
      | inr p ↦ all_member (Contains facets) u f.used f.from p
    ]);
    is = ap (on_wall n) f.is;
  }
