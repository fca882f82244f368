use Rattle.std.proofs.Common.{Vec, Global, ℕ, sym, subst, ap, ◌∙◌, arith, take, ◌+◌}
use Rattle.git_defs.specs.Vectors.{Vector, dot}
use Rattle.git_adjacency.proofs.Marking.{more_level, more_off, marked_none}
use Rattle.git_adjacency.specs.Marks.{IsMarked}
use Rattle.git_adjacency.proofs.marks.marked.Goals.{then-is_level, else-is_level}
use Rattle.git_adjacency.proofs.marks.marked.Goals as goal

pub loop-j-init : goal.loop-j-init
loop-j-init c = marked_none c.args.width c.args.x.now c.in_ok-words.words.items c.in_ok-words.ensures.long c.in_ok-words.ensures.none

pub loop-j-preserved : goal.loop-j-preserved
loop-j-preserved c =
    let A = c.args.inequalities.now in
    let j = c.loop-j.j in
    let d = c.index-inequalities-j.result in
    let x = c.args.x.now in
    elim c.if-is_level.branch [
      | then-is_level w ↦ subst (λ (v : Vec ℕ Global). IsMarked (take (j + 1) A) c.args.width x v.items) (sym w.words-is)
          (more_level A x c.args.width c.loop-j.words.items w.mark.new.words.items j d (omega arith) c.loop-j.invariant
          (ap (λ (u : Vector). dot u x) (sym c.index-inequalities-j.is) ∙ c.is_level.ensures.0 w.if-is_level.true) w.mark.ensures.long w.mark.ensures.each)
      | else-is_level w ↦ subst (λ (v : Vec ℕ Global). IsMarked (take (j + 1) A) c.args.width x v.items) (sym w.words-is)
          (more_off A x c.args.width c.loop-j.words.items j d (omega arith) c.loop-j.invariant
          (λ z. let e = c.is_level.ensures.1 (ap (λ (u : Vector). dot u x) c.index-inequalities-j.is ∙ z) in let f = w.if-is_level.false in cc (e, f)))
    ]
