use Rattle.std.proofs.Common.{◌≡◌, ◌-◌, ◌+◌, ◌<◌, ◌∙◌, ◌∷◌, ap, drop, false, length, List, sym, subst, true, arith}
use Rattle.git_defs.specs.Vectors.{Vector}
use Rattle.git_stages.specs.Short.{IsShort}
use Rattle.git_cone_faces.specs.Faces.{on_wall}
use Rattle.git_cone_faces.proofs.Walls.{on_wall_no, on_wall_yes}
use Rattle.git_chamber.proofs.RaySums.{IsSum, one_before, sum_more, sum_skips}
use Rattle.git_chamber.proofs.sums.wall_sum.Goals as goal
use Rattle.git_chamber.proofs.sums.wall_sum.Goals.{then-is_level, else-is_level}

pub loop-j-preserved : goal.loop-j-preserved
loop-j-preserved c =
    let k = c.args.k in
    let n = c.args.normal.now in
    let vs = c.args.vs.now in
    let j = c.loop-j.j in
    let v = c.index-vs-vs.result in
    let rest = drop (length vs - j) vs in
    let low : j < length vs = c.loop-j-test.true in
    let at : length vs - 1 - j < length vs = omega arith in
    let short : IsShort k v = subst (IsShort k) (sym c.index-vs-vs.is) (c.requires.short (length vs - 1 - j) v at) in
    let front : drop (length vs - (j + 1)) vs ≡ v ∷ rest = one_before vs j v low ∙ (λ i. sym c.index-vs-vs.is i ∷ rest) in
    let along = ap (on_wall n) front in
    elim c.if-is_level.branch [
      | then-is_level w ↦
          let yes = along ∙ on_wall_yes n v rest (c.is_level.ensures.0 w.if-is_level.true) in
          let more = sum_more k v (on_wall n rest) j c.loop-j.total short c.loop-j.invariant in
          subst (λ (ws : List Vector). IsSum k ws (j + 1) c.if-is_level.total) (sym yes) (subst (IsSum k (v ∷ on_wall n rest) (j + 1)) (sym (w.total-is ∙ w.plus-total.ensures)) more)
      | else-is_level w ↦
          let no = along ∙ on_wall_no n v rest (λ e. let t : true ≡ false = sym (c.is_level.ensures.1 e) ∙ w.if-is_level.false in cc t) in
          let skip = sum_skips k (on_wall n rest) j c.loop-j.total c.loop-j.invariant in
          subst (λ (ws : List Vector). IsSum k ws (j + 1) c.if-is_level.total) (sym no) (subst (IsSum k (on_wall n rest) (j + 1)) (sym w.total-is) skip)
    ]
