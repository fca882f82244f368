use Rattle.std.proofs.Common.{◌≡◌, ◌∙◌, List, sym, subst, arith, refl, inl, inr}
use Rattle.std.proofs.Math.IntN.{pos}
use Rattle.std.proofs.lemmas.List.{take_all}
use Rattle.git_defs.specs.Vectors.{Vector, dot}
use Rattle.git_geometry.specs.Zeros.{Flat, ZeroOnBoth}
use Rattle.git_adjacency.proofs.plain.keeps_zeros.Goals as goal
use Rattle.std.proofs.lemmas.List.Elements.{Contains-get_or}
use Rattle.git_stages.proofs.Fronts.{contains_more}
use Rattle.std.specs.Prelude.{Contains}

pub loop-a-preserved : goal.loop-a-preserved
loop-a-preserved c = λ a m z.
    let V = c.args.inequalities.now in let i = c.loop-a.a-index in let b = c.a-item.result in let t = c.args.t.now in
    elim (contains_more V i b a (omega arith) m) [
      | inl l ↦ c.loop-a.invariant a l z
      | inr e ↦ (
          let same = c.a-item.is ∙ e in
          subst (λ (u : Vector). dot u t ≡ pos 0) same (c.keeps_zero.ensures.0 c.if-not-keeps_zero.false (subst (ZeroOnBoth c.args.r.now c.args.s.now) (sym same) z)))
    ]

pub returns-then-not-keeps_zero : goal.returns-then-not-keeps_zero
returns-then-not-keeps_zero c =
    let V = c.args.inequalities.now in let i = c.loop-a.a-index in let b = c.a-item.result in
    (λ f. absurd (cc f), λ f. sym c.if-not-keeps_zero.true ∙ c.keeps_zero.ensures.1 (λ z. f b (subst (Contains V) (sym c.a-item.is) (Contains-get_or V i b (omega arith))) z))

pub returns : goal.returns
returns c =
    (λ f. subst (λ (u : List Vector). Flat (ZeroOnBoth c.args.r.now c.args.s.now) u c.args.t.now) (take_all c.loop-a.a-index c.args.inequalities.now (omega (arith, c.loop-a-test.false))) c.loop-a.invariant, λ f. refl)
