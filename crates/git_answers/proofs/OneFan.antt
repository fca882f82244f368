-- The whole face is full; an input has one fan, and one first signature.
use Rattle.std.proofs.Common.{◌≡◌, ◌∙◌, ℕ, ◌^◌, ◌<◌, length, sym, subst, arith}
use Rattle.std.proofs.lemmas.Nat.{pow_pos}
use Rattle.git_defs.specs.Vectors.{HasRank}
use Rattle.git_grading.specs.Gradings.{IsGrading}
use Rattle.git_input.specs.Inputs.{InputValue}
use Rattle.git_ideals.specs.Faces.{IsAFace}
use Rattle.git_machine.specs.Signatures.{Signature}
use Rattle.git_orbit.specs.Orbits.{Fan}
use Rattle.git_orbit.specs.Signatures.{IsSignature}
use Rattle.git_orbit.proofs.Fans.{face_whole}
use Rattle.git_orbit.proofs.Settled.{cones_once}
use Rattle.git_orbit.proofs.Signatures.{one_signature}
use Rattle.git_chamber.specs.Chambers.{first_germ}
use Rattle.git_answers.specs.Verdicts.{IsFullFace, whole_face}
use Rattle.git_answers.specs.Fan.{IsFanOf, IsOpening}

-- the whole face is full
pub whole_full : (v : InputValue) → IsGrading v.degrees.k v.degrees.columns → IsFullFace v (whole_face v)
whole_full v g = record {
  in_range = (let some : 0 < 2 ^ length v.degrees.columns = pow_pos (length v.degrees.columns) in omega (arith, some));
  full = subst (HasRank v.degrees.k) (sym (face_whole v.degrees.columns)) g.rank;
  is_accepted = tt;
}

pub one_fan : (v : InputValue) (a b : Fan) → IsFanOf v a → IsFanOf v b → a ≡ b
one_fan v a b p q =
    let k = p.k ∙ sym q.k in
    let list = cones_once v.degrees.k v.degrees.columns (IsAFace v.generators) a.list b.list p.cones q.cones in
    λ i. record { k = k i; list = list i }

pub one_first_signature : (v : InputValue) (a b : Fan) (f g : Signature) → IsOpening v a f → IsOpening v b g → f ≡ g
one_first_signature v a b f g p q =
    one_signature b (first_germ v.degrees.k v.degrees.columns) f g (subst (λ (x : Fan). IsSignature x (first_germ v.degrees.k v.degrees.columns) f) (one_fan v a b p.is_fan q.is_fan) p.is_first) q.is_first

-- what holds of one opening holds of each
pub opening_along : (v : InputValue) (a b : Fan) (f g : Signature) (P : Fan → Signature → Type 0) → IsOpening v a f → IsOpening v b g → P a f → P b g
opening_along v a b f g P p q h = subst (P b) (one_first_signature v a b f g p q) (subst (λ (x : Fan). P x f) (one_fan v a b p.is_fan q.is_fan) h)
