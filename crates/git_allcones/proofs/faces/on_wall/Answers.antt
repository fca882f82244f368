use Rattle.std.proofs.Common.{◌≡◌, ◌+◌, ◌++◌, ◌∙◌, ◌∷◌, [], Global, List, Vec, ap, append_assoc, arith, drop, false, suc, sym, true}
use Rattle.std.proofs.Math.Seq.{drop-cons}
use Rattle.git_ints.specs.declared.vector.IVec.{IVec}
use Rattle.git_defs.specs.Vectors.{Vector}
use Rattle.git_cone_faces.specs.Faces.{on_wall}
use Rattle.git_cone_faces.proofs.Walls.{on_wall_no, on_wall_yes}
use Rattle.git_allcones.proofs.faces.on_wall.Goals as goal
use Rattle.git_allcones.proofs.faces.on_wall.Goals.{else-is_level, then-is_level+in_ok-add}

pub loop-v-preserved : goal.loop-v-preserved
loop-v-preserved c =
    let n = c.args.normal.now in
    let vs = c.args.vs.now in
    let i = c.loop-v.v-index in
    let v = c.v-item.result in
    let rest = drop (i + 1) vs in
    let next : suc i ≡ i + 1 = omega arith in
    let front : drop i vs ≡ v ∷ rest = drop-cons vs i v c.loop-v-test.true ∙ (λ j. sym c.v-item.is j ∷ drop (next j) vs) in
    let along : c.loop-v.out.items ++ on_wall n (v ∷ rest) ≡ on_wall n vs = ap (λ (l : List Vector). c.loop-v.out.items ++ on_wall n l) (sym front) ∙ c.loop-v.invariant in
    elim c.if-is_level.branch [
      | then-is_level+in_ok-add w ↦
          let yes = on_wall_yes n v rest (c.is_level.ensures.0 w.if-is_level.true) in
          ap (λ (l : List Vector). l ++ on_wall n rest) (ap (λ (u : Vec IVec Global). u.items) w.out-is ∙ w.in_ok-add.ensures) ∙ append_assoc c.loop-v.out.items (v ∷ []) (on_wall n rest) ∙ ap (λ (l : List Vector). c.loop-v.out.items ++ l) (sym yes) ∙ along
      | else-is_level w ↦
          let no = on_wall_no n v rest (λ e. let t : true ≡ false = sym (c.is_level.ensures.1 e) ∙ w.if-is_level.false in cc t) in
          ap (λ (l : List Vector). l ++ on_wall n rest) (ap (λ (u : Vec IVec Global). u.items) w.out-is) ∙ ap (λ (l : List Vector). c.loop-v.out.items ++ l) (sym no) ∙ along
    ]
