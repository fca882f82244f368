-- The order in which masks are dealt out to threads.
use Rattle.std.specs.Prelude.{ℕ, ◌≡◌, ◌<◌, List, length, get_or, IfSome, None}
use Rattle.git_algebra.specs.Polynomials.{Polynomial}
use Rattle.git_faces.specs.declared.dealing.Task.{Task}
use Rattle.git_faces.specs.declared.judging.Found.{Found}
use Rattle.git_faces.specs.FaceVerdicts.{IsOutcome}

-- the mask at a place of the list
pub record IsTask (masks : List ℕ) (t : Task) : Type 0 where
  pub within : t.place < length masks
  pub is : t.mask ≡ get_or masks t.place 0

-- nothing was seen of the mask
pub record IsUnseen (mask : ℕ) (f : Found) : Type 0 where
  pub of_mask : f.mask ≡ mask
  pub nothing : f.outcome ≡ None

-- what was seen of a mask, if anything, is its outcome
pub record IsSeen (generators : List Polynomial) (limit mask : ℕ) (f : Found) : Type 0 where
  pub of_mask : f.mask ≡ mask
  pub outcome : IfSome f.outcome (IsOutcome generators limit mask)

-- what was found of the task's mask
pub record IsFound (generators : List Polynomial) (limit : ℕ) (t : Task) (f : Found) : Type 0 where
  pub place : f.place ≡ t.place
  pub seen : IsSeen generators limit t.mask f
