-- The full faces that are accepted, where that is decided: their list, and their cones.
use Rattle.std.proofs.Common.{◌≡◌, ◌⊎◌, ◌<◌, ◌≤◌, ◌^◌, ◌∷◌, [], List, arith, inl, inr, length, subst, suc, sym, zero, ℕ}
use Rattle.std.proofs.lemmas.List.Elements.{All-cons, All-nil}
use Rattle.std.proofs.lemmas.List.Kept.{AllPairs-cons}
use Rattle.std.specs.Prelude.{Contains, ◌↔◌}
use Rattle.git_canon.proofs.Cones.{matrix_short}
use Rattle.git_defs.proofs.Lengths.{OfLength}
use Rattle.git_defs.specs.Faces.{IsConeFace, IsFullDimensional, IsGreatestMask, IsLeastMask, face}
use Rattle.git_defs.specs.Vectors.{HasRank, Vector}
use Rattle.git_geometry.proofs.Independence.{chosen_member, chosen_of_length, no_common_zero}
use Rattle.git_geometry.proofs.Ranks.{rank_or_zero}
use Rattle.git_grading.specs.Gradings.{IsGrading}
use Rattle.git_lemmas.proofs.Members.{contains_member, member_all, member_contains, contained}
use Rattle.git_lemmas.specs.Members.{Member}
use Rattle.git_minors.proofs.Parts.{face_of_length}
use Rattle.git_orbit.proofs.Settled.{Decided, cones_or_wide}
use Rattle.git_orbit.specs.Orbits.{AreFaces, AreOrbitCones, IsNewFault}
use Rattle.git_orbit.specs.declared.orbit.ConesFault.TheVariants.{Wide}
use Rattle.git_orbit.specs.declared.orbit.OrbitCone.{OrbitCone}
use Rattle.git_stages.proofs.Shorts.{short_length}
use Rattle.git_stages.specs.declared.wide.WideAt.{WideAt}

full_decided : (k : ℕ) (vs : List Vector) → OfLength k vs → Decided (HasRank k vs)
full_decided k vs have = elim (rank_or_zero k vs have) [
  | inl rank ↦ inl rank
  | inr z ↦ inr (λ rank. z.nonzero (no_common_zero k rank.chosen z.vector (chosen_of_length k vs have rank) rank.independent rank.count z.entries
      (λ b m. z.level b (contained vs (chosen_member k vs rank b m)))))
]

-- ---- the list of accepted full faces
record Listed (k : ℕ) (columns : List Vector) (accepted : ℕ → Type 0) (count : ℕ) : Type 0 where
  masks : List ℕ
  faces : AreFaces k columns masks
  below : (m : ℕ) → Member m masks → (m < count) × accepted m
  all : (m : ℕ) → m < count → IsFullDimensional k columns m → accepted m → Member m masks

module _ (k : ℕ) (columns : List Vector) (accepted : ℕ → Type 0) (decide : (m : ℕ) → Decided (accepted m)) (have : OfLength k columns) where
  wanted : (m : ℕ) → Decided (IsFullDimensional k columns m × accepted m)
  wanted m = elim (full_decided k (face columns m) (face_of_length k columns m have)) [
    | inr out ↦ inr (λ both. out both.0)
    | inl full ↦ elim (decide m) [ inl is ↦ inl (full, is) | inr out ↦ inr (λ both. out both.1) ]
  ]

  list_to : (count : ℕ) → count ≤ 2 ^ length columns → Listed k columns accepted count
  list_to zero room = record {
    masks = [];
    faces = record { in_range = All-nil (λ m. m < 2 ^ length columns); full = All-nil (IsFullDimensional k columns); descending = λ i j d l h. absurd (omega (arith, h)) };
    below = λ m o. absurd o;
    all = λ m low. absurd (omega (arith, low));
  }
  list_to (suc n) room =
      let rest = list_to n (omega (arith, room)) in
      elim (wanted n) [
        | inl is ↦ record {
          masks = n ∷ rest.masks;
          faces = record {
            in_range = All-cons (λ m. m < 2 ^ length columns) n rest.masks (omega (arith, room)) rest.faces.in_range;
            full = All-cons (IsFullDimensional k columns) n rest.masks is.0 rest.faces.full;
            descending = AllPairs-cons (λ (i j : ℕ). j < i) n rest.masks (member_all (λ (m : ℕ). m < n) rest.masks (λ m o. (rest.below m o).0)) rest.faces.descending;
          };
          below = λ m o. elim o [
            | inl e ↦ (omega (arith, e), subst accepted e is.1)
            | inr later ↦ (let b = (rest.below m later).0 in omega (arith, b), (rest.below m later).1)
          ];
          all = λ m low full holds. elim (last m n low) [ inl e ↦ inl (sym e) | inr before ↦ inr (rest.all m before full holds) ];
        }
        | inr out ↦ record {
          masks = rest.masks;
          faces = rest.faces;
          below = λ m o. (let b = (rest.below m o).0 in omega (arith, b), (rest.below m o).1);
          all = λ m low full holds. elim (last m n low) [
            | inl e ↦ absurd (out (subst (IsFullDimensional k columns) e full, subst accepted e holds))
            | inr before ↦ rest.all m before full holds
          ];
        }
      ]
    where
      last : (m n : ℕ) → m < suc n → (m ≡ n) ⊎ (m < n)
      last zero zero low = inl (omega arith)
      last zero (suc n) low = inr (omega arith)
      last (suc m) zero low = absurd (omega (arith, low))
      last (suc m) (suc n) low = elim (last m n (omega (arith, low))) [ inl e ↦ inl (omega (arith, e)) | inr l ↦ inr (omega (arith, l)) ]

-- ---- two tests that accept the same full faces
module _ (k : ℕ) (columns : List Vector) (A B : ℕ → Type 0) (same : (m : ℕ) → m < 2 ^ length columns → IsFullDimensional k columns m → A m ↔ B m) where
  face_to : (m : ℕ) → IsConeFace k columns A m → IsConeFace k columns B m
  face_to m f = record { in_range = f.in_range; full = f.full; is_accepted = (same m f.in_range f.full).0 f.is_accepted }

  face_from : (m : ℕ) → IsConeFace k columns B m → IsConeFace k columns A m
  face_from m f = record { in_range = f.in_range; full = f.full; is_accepted = (same m f.in_range f.full).1 f.is_accepted }

  greatest_to : (m : ℕ) → IsGreatestMask k columns A m → IsGreatestMask k columns B m
  greatest_to m g = record { is_face = face_to m g.is_face; greatest = λ n f s. g.greatest n (face_from n f) s }

  greatest_from : (m : ℕ) → IsGreatestMask k columns B m → IsGreatestMask k columns A m
  greatest_from m g = record { is_face = face_from m g.is_face; greatest = λ n f s. g.greatest n (face_to n f) s }

  least_to : (m : ℕ) → IsLeastMask k columns A m → IsLeastMask k columns B m
  least_to m g = record { is_face = face_to m g.is_face; least = λ n f s. g.least n (face_from n f) s }

  least_from : (m : ℕ) → IsLeastMask k columns B m → IsLeastMask k columns A m
  least_from m g = record { is_face = face_from m g.is_face; least = λ n f s. g.least n (face_to n f) s }

  pub cones_along : (list : List OrbitCone) → AreOrbitCones k columns A list → AreOrbitCones k columns B list
  cones_along list are = record {
    each = λ e m. let o = are.each e m in record { greatest = greatest_to e.greatest o.greatest; least = least_to e.least o.least; same = o.same; canon = o.canon };
    narrow = are.narrow;
    cones = record {
      descending = are.cones.descending;
      each = λ m. (λ c. greatest_to m ((are.cones.each m).0 c), λ g. (are.cones.each m).1 (greatest_from m g));
    };
  }

  pub fault_along : (mask : ℕ) (at : WideAt) → IsNewFault k columns A (Wide mask at) → IsNewFault k columns B (Wide mask at)
  fault_along mask at f = (record { is_least = least_to mask f.0.is_least; first = λ m l low. f.0.first m (least_from m l) low }, f.1)

-- ---- the cones of accepted faces exist, or a wide mask
pub accepted_cones : (k : ℕ) (columns : List Vector) (accepted : ℕ → Type 0) → ((m : ℕ) → Decided (accepted m)) → IsGrading k columns
    → ((list : List OrbitCone) × AreOrbitCones k columns accepted list) ⊎ ((mask : ℕ) × (at : WideAt) × IsNewFault k columns accepted (Wide mask at))
accepted_cones k columns accepted decide grading =
    let have = short_length k columns (matrix_short k columns grading.matrix) in
    let l = list_to k columns accepted decide have (2 ^ length columns) (omega arith) in
    let same : (m : ℕ) → m < 2 ^ length columns → IsFullDimensional k columns m → Contains l.masks m ↔ accepted m =
    (λ m low full. (λ c. (l.below m (contains_member m l.masks c)).1, λ is. member_contains m l.masks (l.all m low full is))) in
    elim (cones_or_wide k columns l.masks grading l.faces) [
      | inl r ↦ inl (r.0, cones_along k columns (Contains l.masks) accepted same r.0 r.1)
      | inr r ↦ inr (r.0, r.1, fault_along k columns (Contains l.masks) accepted same r.0 r.1 r.2)
    ]
