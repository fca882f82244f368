use Rattle.std.proofs.Common.{◌≡◌, ◌⊎◌, Bool, IsTrue, false, inl, inr, refl, true}
use Rattle.git_orbit.proofs.Accepted.{accepted_cones}
use Rattle.git_orbit.proofs.laws.accepted_faces_have_cones.Goals as goal

decide : (b : Bool) → IsTrue b ⊎ (IsTrue b → ⊥)
decide true = inl refl
decide false = inr (λ t. let f : false ≡ true = t in cc f)

pub returns : goal.returns
returns c = λ k columns test. accepted_cones k columns (λ m. IsTrue (test m)) (λ m. decide (test m))
