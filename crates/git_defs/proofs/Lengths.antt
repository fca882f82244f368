-- Lists of vectors of one length.
use Rattle.std.proofs.Common.{◌≡◌, ℕ, List, [], ◌∷◌, length, refl, subst, inl, inr}
use Rattle.git_lemmas.specs.Members.{Member}
use Rattle.git_lemmas.proofs.Members.{all_member, member_all}
use Rattle.git_defs.specs.Vectors.{Vector, AllOfLength}

-- all members have k entries
pub record OfLength (k : ℕ) (vs : List Vector) : Type 0 where
  pub each : (v : Vector) → Member v vs → length v ≡ k

pub none_of_length : (k : ℕ) → OfLength k []
none_of_length k = record { each = λ v m. absurd m }

pub first_of_length : (k : ℕ) (v : Vector) (vs : List Vector) → OfLength k (v ∷ vs) → length v ≡ k
first_of_length k v vs have = have.each v (inl refl)

pub rest_of_length : (k : ℕ) (v : Vector) (vs : List Vector) → OfLength k (v ∷ vs) → OfLength k vs
rest_of_length k v vs have = record { each = λ x m. have.each x (inr m) }

pub more_of_length : (k : ℕ) (v : Vector) (vs : List Vector) → length v ≡ k → OfLength k vs → OfLength k (v ∷ vs)
more_of_length k v vs e have = record { each = λ x m. each x m } where
  each : (x : Vector) → Member x (v ∷ vs) → length x ≡ k
  each x (inl f) = subst (λ (u : Vector). length u ≡ k) f e
  each x (inr m) = have.each x m

pub all_of_length : (k : ℕ) (vs : List Vector) → AllOfLength k vs → OfLength k vs
all_of_length k vs each = record { each = λ v m. all_member (λ (u : Vector). length u ≡ k) v vs each m }

pub of_length_all : (k : ℕ) (vs : List Vector) → OfLength k vs → AllOfLength k vs
of_length_all k vs have = member_all (λ (u : Vector). length u ≡ k) vs have.each
