-- Full faces by descending mask, as they are gathered.
use Rattle.std.proofs.Common.{◌≡◌, ℕ, ◌+◌, ◌-◌, ◌<◌, ◌≤◌, ◌^◌, List, [], ◌∷◌, ◌++◌, length, arith}
use Rattle.std.specs.Prelude.{All}
use Rattle.std.proofs.lemmas.List.Elements.{All-nil, All-push}
use Rattle.std.proofs.lemmas.List.Quantifiers.{all_pairs_push}
use Rattle.git_defs.specs.Vectors.{Vector}
use Rattle.git_defs.specs.Faces.{IsFullDimensional}
use Rattle.git_orbit.specs.Orbits.{AreFaces}

-- those of the masks from count - i on
pub record FacesFrom (k : ℕ) (columns : List Vector) (count i : ℕ) (out : List ℕ) : Type 0 where
  pub faces : AreFaces k columns out
  pub above : All (λ m. count ≤ m + i) out

pub faces_none : (k : ℕ) (columns : List Vector) (count : ℕ) → FacesFrom k columns count 0 []
faces_none k columns count = record {
  faces = record {
    in_range = All-nil (λ m. m < 2 ^ length columns);
    full = All-nil (IsFullDimensional k columns);
    descending = λ i j d h l. absurd (omega arith);
  };
  above = All-nil (λ m. count ≤ m + 0);
}

pub faces_skip : (k : ℕ) (columns : List Vector) (count i : ℕ) (out : List ℕ) → FacesFrom k columns count i out → FacesFrom k columns count (i + 1) out
faces_skip k columns count i out f = record { faces = f.faces; above = λ q d h. (let a = f.above q d h in omega (arith, a)) }

pub faces_more : (k : ℕ) (columns : List Vector) (count i mask : ℕ) (out : List ℕ) → mask ≡ count - 1 - i → i < count → count ≤ 2 ^ length columns
    → IsFullDimensional k columns mask → FacesFrom k columns count i out → FacesFrom k columns count (i + 1) (out ++ mask ∷ [])
faces_more k columns count i mask out e h room full f = record {
  faces = record {
    in_range = All-push (λ m. m < 2 ^ length columns) out mask (f.faces).in_range (omega (arith, e, h, room));
    full = All-push (IsFullDimensional k columns) out mask (f.faces).full full;
    descending = all_pairs_push (λ (m n : ℕ). n < m) out mask (f.faces).descending (λ q d l. (let a = f.above q d l in omega (arith, a, e, h)));
  };
  above = All-push (λ m. count ≤ m + (i + 1)) out mask (λ q d l. (let a = f.above q d l in omega (arith, a))) (omega (arith, e, h));
}
