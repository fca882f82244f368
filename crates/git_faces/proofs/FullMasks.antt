-- The full faces from a mask on, as they are gathered.
use Rattle.std.proofs.Common.{◌≡◌, ◌⊎◌, ℕ, ◌+◌, ◌-◌, ◌<◌, ◌≤◌, ◌^◌, List, [], ◌∷◌, ◌++◌, length, get_or, arith, inl, inr, subst}
use Rattle.std.specs.Prelude.{AllPairs, Contains}
use Rattle.std.proofs.lemmas.Bool.{cases_lt}
use Rattle.std.proofs.lemmas.List.Elements.{Contains-push, Contains-push_cases, Contains-append_left, All-contains_itself}
use Rattle.std.proofs.lemmas.List.Quantifiers.{all_pairs_push}
use Rattle.git_defs.specs.Vectors.{Vector}
use Rattle.git_defs.specs.Faces.{IsFullDimensional}
use Rattle.git_faces.specs.FullFaces.{IsFullFace, AreFullFaces}

-- those of the last i of the masks below the count
pub record FacesFrom (k : ℕ) (columns : List Vector) (count i : ℕ) (out : List ℕ) : Type 0 where
  pub descending : AllPairs (λ (m n : ℕ). n < m) out
  pub above : (m : ℕ) → Contains out m → count ≤ m + i
  pub are_full : (m : ℕ) → Contains out m → IsFullFace k columns m
  pub all : (m : ℕ) → count ≤ m + i → m < count → IsFullDimensional k columns m → Contains out m

pub none : (k : ℕ) (columns : List Vector) (count : ℕ) → FacesFrom k columns count 0 []
none k columns count = record {
  descending = λ i j d h l. absurd (omega arith);
  above = λ m c. absurd (empty c);
  are_full = λ m c. absurd (empty c);
  all = λ m h l full. absurd (omega (arith, h, l));
} where
  empty : {m : ℕ} → Contains [] m → ⊥
  empty c = let h = c.1 in omega (arith, h)

module _ (k : ℕ) (columns : List Vector) (count i mask : ℕ) (out : List ℕ) (is : mask ≡ count - 1 - i) (within : i < count) (f : FacesFrom k columns count i out) where
  pub skipped : (IsFullDimensional k columns mask → ⊥) → FacesFrom k columns count (i + 1) out
  skipped not = record { descending = f.descending; above = λ m c. (let a = f.above m c in omega (arith, a)); are_full = f.are_full; all = all } where
    all : (m : ℕ) → count ≤ m + (i + 1) → m < count → IsFullDimensional k columns m → Contains out m
    all m h l full = elim (cases_lt (m + i) count) [
      | inl less ↦ absurd (not (subst (IsFullDimensional k columns) (let e : m ≡ mask = omega (arith, is, within, h, less) in e) full))
      | inr more ↦ f.all m more l full
    ]

  pub taken : count ≤ 2 ^ length columns → IsFullDimensional k columns mask → FacesFrom k columns count (i + 1) (out ++ mask ∷ [])
  taken room full = record {
    descending = all_pairs_push (λ (m n : ℕ). n < m) out mask f.descending (λ q d l. (let a = f.above (get_or out q d) (All-contains_itself out q d l) in omega (arith, a, is, within)));
    above = λ m c. above m (Contains-push_cases out mask m c);
    are_full = λ m c. are_full m (Contains-push_cases out mask m c);
    all = all;
  } where
    above : (m : ℕ) → Contains out m ⊎ (mask ≡ m) → count ≤ m + (i + 1)
    above m (inl c) = let a = f.above m c in omega (arith, a)
    above m (inr e) = omega (arith, e, is, within)

    are_full : (m : ℕ) → Contains out m ⊎ (mask ≡ m) → IsFullFace k columns m
    are_full m (inl c) = f.are_full m c
    are_full m (inr e) = subst (IsFullFace k columns) e (record { in_range = omega (arith, is, within, room); full = full; is_accepted = tt })

    all : (m : ℕ) → count ≤ m + (i + 1) → m < count → IsFullDimensional k columns m → Contains (out ++ mask ∷ []) m
    all m h l full = elim (cases_lt (m + i) count) [
      | inl less ↦ subst (Contains (out ++ mask ∷ [])) (let e : mask ≡ m = omega (arith, is, within, h, less) in e) (Contains-push out mask)
      | inr more ↦ Contains-append_left out (mask ∷ []) m (f.all m more l full)
    ]

pub whole : (k : ℕ) (columns : List Vector) (count : ℕ) (out : List ℕ) → count ≡ 2 ^ length columns → FacesFrom k columns count count out → AreFullFaces k columns out
whole k columns count out e f = record {
  descending = f.descending;
  each = λ m. (λ c. f.are_full m c, λ is. f.all m (omega arith) (let l = is.in_range in omega (arith, l, e)) is.full);
}
