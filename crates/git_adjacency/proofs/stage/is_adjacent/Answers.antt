use Rattle.std.proofs.Common.{◌≡◌, ◌⊎◌, List, sym, ◌∙◌, subst, arith, refl}
use Rattle.std.proofs.lemmas.List.{take_all}
use Rattle.git_defs.specs.Vectors.{Vector}
use Rattle.git_geometry.specs.Zeros.{Adjacent, Flat, ZeroOnBoth}
use Rattle.git_adjacency.proofs.Makes.{adjacent_more}
use Rattle.git_adjacency.proofs.Nexts.{vector_at, vectors_long}
use Rattle.git_adjacency.specs.Marks.{vectors}
use Rattle.git_adjacency.proofs.stage.is_adjacent.Goals as goal
use Rattle.std.proofs.lemmas.List.Elements.{Contains-get_or}
use Rattle.std.specs.Prelude.{Contains}

pub loop-t-preserved : goal.loop-t-preserved
loop-t-preserved c =
    let A = c.args.upto.now in let V = vectors c.args.rays.now in let i = c.loop-t.t-index in let t = c.t-item.result in
    let r = c.args.r.now.vector in let s = c.args.s.now.vector in
    let e = vector_at c.args.rays.now i t (omega arith) c.t-item.is in
    adjacent_more A V r s i t.vector (omega (arith, vectors_long c.args.rays.now)) c.loop-t.invariant
    (subst (λ (u : Vector). Flat (ZeroOnBoth r s) A u → (r ≡ u) ⊎ (s ≡ u)) (sym e) (c.leaves_apart.ensures.0 c.if-not-leaves_apart.false))

pub returns-then-not-leaves_apart : goal.returns-then-not-leaves_apart
returns-then-not-leaves_apart c =
    let V = vectors c.args.rays.now in let i = c.loop-t.t-index in let t = c.t-item.result in
    let e = vector_at c.args.rays.now i t (omega arith) c.t-item.is in
    (λ f. absurd (cc f), λ f. sym c.if-not-leaves_apart.true ∙ c.leaves_apart.ensures.1 (f.only t.vector (subst (Contains V) e (Contains-get_or V i t.vector (omega (arith, vectors_long c.args.rays.now))))))

pub returns : goal.returns
returns c =
    let V = vectors c.args.rays.now in let i = c.loop-t.t-index in
    (λ f. subst (λ (u : List Vector). Adjacent c.args.upto.now u c.args.r.now.vector c.args.s.now.vector) (take_all i V (omega (arith, vectors_long c.args.rays.now, c.loop-t-test.false))) c.loop-t.invariant, λ f. refl)
