-- The test for a common face, by rays and facets.
use Rattle.std.proofs.Common.{◌≡◌, ◌∙◌, ◌++◌, ◌∷◌, ◌↔◌, ◌<◌, ◌+◌, [], All, Contains, List, get_or, inl, inr, length, subst, sym, take, ℕ}
use Rattle.std.proofs.lemmas.List.{take_more}
use Rattle.std.proofs.lemmas.List.Elements.{Contains-append_left, Contains-push, Contains-push_cases}
use Rattle.git_defs.specs.Cones.{AreRays, Cut, InCone}
use Rattle.git_defs.specs.Vectors.{HasRank, Vector}
use Rattle.git_defs.proofs.Linear.{dot-comm}
use Rattle.git_lemmas.proofs.Members.{all_member, as_member, contained, contains_member, member_all}
use Rattle.git_geometry.proofs.Independence.{chosen_member}
use Rattle.git_geometry.proofs.Lists.{member_left}
use Rattle.git_geometry.proofs.Rays.{rays_along, same_back}
use Rattle.git_stages.specs.Short.{IsShort}
use Rattle.git_cone_faces.specs.Faces.{InBoth, IsFace, IsFullCone, MeetInFaces}
use Rattle.git_cone_faces.proofs.Full.{full_same}
use Rattle.git_cone_faces.proofs.Meetings.{both_cut, both_turned, common_face, face_along, level_exactly}
use Rattle.git_allcones.specs.Meets.{AreLevel, IsLevelOn}

pub joined_rank : (k : ℕ) (A B : List Vector) → HasRank k A → HasRank k (A ++ B)
joined_rank k A B rank = record {
  chosen = rank.chosen;
  from = member_all (Contains (A ++ B)) rank.chosen (λ x m. contained (A ++ B) (member_left x A B (chosen_member k A rank x m)));
  entries = rank.entries;
  count = rank.count;
  independent = rank.independent;
}

-- ---- the level facets, as the loop comes
level_push : (front vs out : List Vector) (n : Vector) → AreLevel front vs out → IsLevelOn n vs → AreLevel (front ++ n ∷ []) vs (out ++ n ∷ [])
level_push front vs out n t on = record {
  from = λ m c. elim (Contains-push_cases out n m c) [
    | inl l ↦ Contains-append_left front (n ∷ []) m (t.from m l)
    | inr e ↦ subst (Contains (front ++ n ∷ [])) e (Contains-push front n)
  ];
  level = λ m c. elim (Contains-push_cases out n m c) [
    | inl l ↦ t.level m l
    | inr e ↦ subst (λ (u : Vector). IsLevelOn u vs) e on
  ];
  back = λ m c l. elim (Contains-push_cases front n m c) [
    | inl a ↦ Contains-append_left out (n ∷ []) m (t.back m a l)
    | inr e ↦ subst (Contains (out ++ n ∷ [])) e (Contains-push out n)
  ];
}

pub level_more : (F vs out : List Vector) (i : ℕ) (n : Vector) → i < length F → get_or F i n ≡ n → AreLevel (take i F) vs out → IsLevelOn n vs
    → AreLevel (take (i + 1) F) vs (out ++ n ∷ [])
level_more F vs out i n h at t on =
    let e : take (i + 1) F ≡ take i F ++ n ∷ [] = take_more F i n h ∙ (λ j. take i F ++ at j ∷ []) in
    subst (λ (u : List Vector). AreLevel u vs (out ++ n ∷ [])) (sym e) (level_push (take i F) vs out n t on)

pub level_skip : (F vs out : List Vector) (i : ℕ) (n : Vector) → i < length F → get_or F i n ≡ n → AreLevel (take i F) vs out → (IsLevelOn n vs → ⊥)
    → AreLevel (take (i + 1) F) vs out
level_skip F vs out i n h at t off =
    let e : take (i + 1) F ≡ take i F ++ n ∷ [] = take_more F i n h ∙ (λ j. take i F ++ at j ∷ []) in
    subst (λ (u : List Vector). AreLevel u vs out) (sym e) (record {
      from = λ m c. Contains-append_left (take i F) (n ∷ []) m (t.from m c);
      level = t.level;
      back = λ m c l. elim (Contains-push_cases (take i F) n m c) [
        | inl a ↦ t.back m a l
        | inr f ↦ absurd (off (subst (λ (u : Vector). IsLevelOn u vs) (sym f) l))
      ];
    })

-- ---- the test
pub common_rays : (k : ℕ) (R A S B E : List Vector) → IsFullCone k R A → IsFullCone k S B → AreRays k (Cut k (A ++ B)) E
    → AreRays k (InBoth (InCone k R) (InCone k S)) E
common_rays k R A S B E c d rays = rays_along k (Cut k (A ++ B)) (InBoth (InCone k R) (InCone k S)) E
    (same_back (InBoth (InCone k R) (InCone k S)) (Cut k (A ++ B))
    (both_cut k (InCone k R) (InCone k S) A B (full_same c) (full_same d))) rays

pub turned_rays : (k : ℕ) (C D : Vector → Type 0) (E : List Vector) → AreRays k (InBoth C D) E → AreRays k (InBoth D C) E
turned_rays k C D E rays = rays_along k (InBoth C D) (InBoth D C) E (both_turned C D) rays

pub face_exactly : (k : ℕ) (R A S B E list : List Vector) → IsFullCone k R A → IsFullCone k S B → AreRays k (InBoth (InCone k R) (InCone k S)) E
    → AreLevel A E list → IsFace k (InCone k R) (InBoth (InCone k R) (InCone k S)) ↔ ((r : Vector) → Contains R r → IsLevelOn r list → Cut k B r)
face_exactly k R A S B E list one other common levels =
    let law = common_face k R A S B E one other common in
    let exactly = level_exactly k R A S B E one other common in (
      λ f r cr l. (full_same other r).0 (law.0 f r cr
          (λ m cm none. dot-comm m r ∙ l m (levels.back m cm ((exactly m (contains_member m A cm)).0 none)))),
      λ test. law.1 (λ r cr imply. (full_same other r).1 (test r cr
          (λ m cm. dot-comm r m ∙ imply m (levels.from m cm) ((exactly m (contains_member m A (levels.from m cm))).1 (levels.level m cm))))),
    )

pub meet_faces : (k : ℕ) (C D : Vector → Type 0) → (IsFace k C (InBoth C D) × IsFace k D (InBoth D C)) ↔ MeetInFaces k C D
meet_faces k C D = (
  λ f. record { of_one = f.0; of_other = face_along k D (InBoth D C) (InBoth C D) (both_turned D C) f.1 },
  λ m. (m.of_one, face_along k D (InBoth C D) (InBoth D C) (both_turned C D) m.of_other),
)

pub level_short : (k : ℕ) (normals vs list : List Vector) → AreLevel normals vs list → All (IsShort k) normals → All (IsShort k) list
level_short k normals vs list t short = member_all (IsShort k) list
    (λ x m. all_member (IsShort k) x normals short (as_member normals (t.from x (contained list m))))
