use Rattle.std.proofs.Common.{◌≡◌, ◌-◌, ◌+◌, ◌<◌, ◌∙◌, ◌∷◌, drop, length, List, sym, subst, arith}
use Rattle.git_defs.specs.Vectors.{Vector}
use Rattle.git_stages.specs.Short.{IsShort}
use Rattle.git_chamber.proofs.RaySums.{IsSum, one_before, sum_more}
use Rattle.git_chamber.proofs.sums.sum.Goals as goal

pub loop-j-preserved : goal.loop-j-preserved
loop-j-preserved c =
    let k = c.args.k in
    let vs = c.args.vs.now in
    let j = c.loop-j.j in
    let v = c.index-vs-vs.result in
    let low : j < length vs = c.loop-j-test.true in
    let at : length vs - 1 - j < length vs = omega arith in
    let short : IsShort k v = subst (IsShort k) (sym c.index-vs-vs.is) (c.requires.short (length vs - 1 - j) v at) in
    let more = sum_more k v (drop (length vs - j) vs) j c.loop-j.total short c.loop-j.invariant in
    let front : drop (length vs - (j + 1)) vs ≡ v ∷ drop (length vs - j) vs = one_before vs j v low ∙ (λ i. sym c.index-vs-vs.is i ∷ drop (length vs - j) vs) in
    let e = c.plus-total.ensures in
    subst (λ (ws : List Vector). IsSum k ws (j + 1) c.plus-total.result) (sym front) (subst (IsSum k (v ∷ drop (length vs - j) vs) (j + 1)) (sym e) more)
