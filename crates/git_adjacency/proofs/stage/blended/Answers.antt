use Rattle.std.proofs.Common.{◌≡◌, ◌⊎◌, ℕ, List, length, sym, ◌∙◌, ap, subst, arith}
use Rattle.std.specs.Prelude.{◌↔◌}
use Rattle.std.proofs.lemmas.Int.{ints}
use Rattle.git_defs.specs.Vectors.{Vector}
use Rattle.git_adjacency.proofs.Marking.{marked_blend, unmarked}
use Rattle.git_adjacency.specs.Marks.{HasMark, IsMarked}
use Rattle.git_adjacency.proofs.stage.blended.Goals as goal

pub returns-clause-marked : goal.returns-clause-marked
returns-clause-marked c =
    let r = c.args.r.now in let s = c.args.s.now in let A = c.args.front.now in let b = c.args.b.now in let n = c.args.width in
    let w = c.turned-vector.result in let Z = c.in_ok-zeros.zeros.items in
    let up = c.requires.above in let low = c.requires.below in
    let mr = unmarked A b r.vector n r.zeros.items (λ z. omega (arith, ints, up, z)) (subst (λ (u : List Vector). IsMarked u n r.vector r.zeros.items) c.requires.last c.requires.r.marked) in
    let ms = unmarked A b s.vector n s.zeros.items (λ z. omega (arith, ints, low, z)) (subst (λ (u : List Vector). IsMarked u n s.vector s.zeros.items) c.requires.last c.requires.s.marked) in
    let e1 = subst (λ (u : List ℕ). (j : ℕ) → HasMark Z j ↔ ((HasMark u j × HasMark c.deref-2.result.now j) ⊎ (j ≡ length A))) c.deref.ensures.value c.in_ok-zeros.ensures.each in
    let e2 = subst (λ (u : List ℕ). (j : ℕ) → HasMark Z j ↔ ((HasMark r.zeros.items j × HasMark u j) ⊎ (j ≡ length A))) c.deref-2.ensures.value e1 in
    subst (λ (u : List Vector). IsMarked u n w Z) (sym c.requires.last)
    (marked_blend c.args.k A b r.vector s.vector w n r.zeros.items s.zeros.items Z c.requires.r.inside c.requires.s.inside up low c.turned-vector.ensures mr ms
    (c.in_ok-zeros.ensures.long ∙ ap length c.deref.ensures.value) e2)
