use Rattle.std.proofs.Common.{◌≡◌, ◌∙◌, arith, inl, inr, map}
use Rattle.std.proofs.Math.IntN.{negsuc, pos}
use Rattle.std.proofs.lemmas.Int.{ints}
use Rattle.git_defs.specs.Vectors.{dot}
use Rattle.git_geometry.proofs.Polynomials.{sign_cases}
use Rattle.git_orbit.proofs.signs.is_negative.Goals as goal

pub returns : goal.returns
returns c =
    let h = c.sign.ensures in
    elim (sign_cases (map (dot c.args.normal.now) c.args.germ.now)) [
      | inl e ↦ (λ t. e, λ n. let f : c.sign.result ≡ negsuc 0 = h ∙ e in grind (arith, ints, f))
      | inr r ↦ elim r [
        | inl e ↦ (λ t. absurd (let f : c.sign.result ≡ pos 0 = h ∙ e in grind (arith, ints, f, t)), λ n. absurd (omega (arith, ints, e, n)))
        | inr e ↦ (λ t. absurd (let f : c.sign.result ≡ pos 1 = h ∙ e in grind (arith, ints, f, t)), λ n. absurd (omega (arith, ints, e, n)))
      ]
    ]
