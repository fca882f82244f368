use Rattle.std.proofs.Common.{◌≡◌, ◌⊎◌, List, sym, ◌∙◌, subst, arith, refl}
use Rattle.std.proofs.lemmas.List.{take_all}
use Rattle.git_defs.specs.Vectors.{Vector}
use Rattle.git_geometry.specs.Zeros.{Adjacent, Flat, ZeroOnBoth}
use Rattle.git_adjacency.proofs.Makes.{adjacent_more}
use Rattle.git_adjacency.proofs.plain.are_adjacent.Goals as goal
use Rattle.std.proofs.lemmas.List.Elements.{Contains-get_or}
use Rattle.std.specs.Prelude.{Contains}

pub loop-t-preserved : goal.loop-t-preserved
loop-t-preserved c =
    let A = c.args.inequalities.now in let V = c.args.list.now in let i = c.loop-t.t-index in let t = c.t-item.result in
    let r = c.args.r.now in let s = c.args.s.now in
    adjacent_more A V r s i t (omega arith) c.loop-t.invariant
    (subst (λ (u : Vector). Flat (ZeroOnBoth r s) A u → (r ≡ u) ⊎ (s ≡ u)) c.t-item.is (c.is_apart.ensures.0 c.if-not-is_apart.false))

pub returns-then-not-is_apart : goal.returns-then-not-is_apart
returns-then-not-is_apart c =
    let V = c.args.list.now in let i = c.loop-t.t-index in let t = c.t-item.result in
    (λ f. absurd (cc f), λ f. sym c.if-not-is_apart.true ∙ c.is_apart.ensures.1 (f.only t (subst (Contains V) (sym c.t-item.is) (Contains-get_or V i t (omega arith)))))

pub returns : goal.returns
returns c =
    (λ f. subst (λ (u : List Vector). Adjacent c.args.inequalities.now u c.args.r.now c.args.s.now) (take_all c.loop-t.t-index c.args.list.now (omega (arith, c.loop-t-test.false))) c.loop-t.invariant, λ f. refl)
