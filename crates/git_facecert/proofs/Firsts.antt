-- The first of a list that lacks a property, found by a walk from the front.
use Rattle.std.proofs.Common.{zero, suc, ℕ, ◌+◌, ◌<◌, ◌≡◌, refl, List, [], ◌∷◌, length, get_or, sym, subst, ◌∙◌, arith, inl, inr}
use Rattle.std.specs.Prelude.{All}
use Rattle.std.proofs.lemmas.Bool.{cases_eq}
use Rattle.git_algebra.specs.Polynomials.{Polynomial}
use Rattle.git_algebra.specs.Operations.{zero_polynomial}
use Rattle.git_ideals.specs.Division.{member}
use Rattle.git_facecert.specs.Answers.{FirstLacks}

-- within a list what stands at a place is the same whatever stands past its end
pub same_member : (ps : List Polynomial) (i : ℕ) (d e : Polynomial) → i < length ps → get_or ps i d ≡ get_or ps i e
same_member [] i d e h = absurd (omega arith)
same_member (p ∷ ps) zero d e h = refl
same_member (p ∷ ps) (suc i) d e h = same_member ps i d e (omega arith)

pub found_member : (ps : List Polynomial) (i : ℕ) (x : Polynomial) → x ≡ get_or ps i x → i < length ps → x ≡ member ps i
found_member ps i x is h = is ∙ same_member ps i x zero_polynomial h

pub lacks_here : (P : Polynomial → Type 0) (ps : List Polynomial) (i : ℕ) (x : Polynomial) → x ≡ get_or ps i x → i < length ps
    → ((k : ℕ) → k < i → P (member ps k)) → (P x → ⊥) → FirstLacks P ps (i + 1)
lacks_here P ps i x is h before lacks = record {
  place = i;
  number = refl;
  within = h;
  lacks = λ p. lacks (subst P (sym (found_member ps i x is h)) p);
  before = before;
}

pub one_more : (P : ℕ → Type 0) (i : ℕ) → ((k : ℕ) → k < i → P k) → P i → (k : ℕ) → k < i + 1 → P k
one_more P i before here k h = elim (cases_eq k i) [
  | inl same ↦ subst P (sym same) here
  | inr other ↦ before k (omega arith)
]

pub all_have : (P : Polynomial → Type 0) (ps : List Polynomial) → ((k : ℕ) → k < length ps → P (member ps k)) → All P ps
all_have P ps each = λ k d h. subst P (same_member ps k zero_polynomial d h) (each k h)

pub member_has : (P : Polynomial → Type 0) (ps : List Polynomial) (i : ℕ) → All P ps → i < length ps → P (member ps i)
member_has P ps i all h = all i zero_polynomial h
