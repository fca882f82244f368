use Rattle.std.proofs.Common.{◌≡◌, ◌+◌, ◌-◌, ℕ, length, drop, get_or, subst, ap, ◌∙◌, arith}
use Rattle.std.specs.Prelude.{IsTrue, ◌↔◌}
use Rattle.git_defs.specs.Vectors.{Vector}
use Rattle.git_orbit.proofs.Masks.{sel_more, bit_below}
use Rattle.git_orbit.specs.Keys.{Selects}
use Rattle.git_orbit.proofs.faces.along.Goals as goal

pub loop-j-preserved : goal.loop-j-preserved
loop-j-preserved c =
    let L = c.args.list.now in
    let r = c.args.r.now in
    let j = c.loop-j.j in
    let d = c.index-list-i.result in
    let i : length L - 1 - j ≡ length L - (j + 1) = omega arith in
    let at : d ≡ get_or L (length L - (j + 1)) d = c.index-list-i.is ∙ ap (λ (n : ℕ). get_or L n d) i in (
      sel_more (λ (w : Vector). w ≡ r) L (length L - (j + 1)) (length L - j) c.loop-j.mask c.with_bit-mask.result d c.is_same-bit.result (omega (arith, c.loop-j-test.true)) (omega (arith, c.loop-j-test.true)) c.loop-j.invariant.0 c.with_bit-mask.ensures
          (subst (λ (u : Vector). IsTrue c.is_same-bit.result ↔ (u ≡ r)) at c.is_same-bit.ensures),
      bit_below c.loop-j.mask c.with_bit-mask.result j c.is_same-bit.result c.loop-j.invariant.1 c.with_bit-mask.ensures,
    )

pub returns : goal.returns
returns c =
    let L = c.args.list.now in
    let z : length L - c.loop-j.j ≡ 0 = omega (arith, c.loop-j-test.false) in
    subst (λ (n : ℕ). Selects (λ (w : Vector). w ≡ c.args.r.now) (drop n L) c.loop-j.mask) z c.loop-j.invariant.0
