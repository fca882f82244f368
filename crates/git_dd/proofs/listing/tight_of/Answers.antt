use Rattle.std.proofs.Common.{Vec, Global, ℕ, sym, ◌∙◌, subst, ap, arith, take, ◌+◌}
use Rattle.git_defs.specs.Vectors.{Vector, dot}
use Rattle.git_dd.proofs.Tightness.{tight_more, tight_skip}
use Rattle.git_dd.specs.Tights.{AreTight}
use Rattle.git_dd.proofs.listing.tight_of.Goals.{then-is_level+in_ok-add, else-is_level}
use Rattle.git_dd.proofs.listing.tight_of.Goals as goal

pub loop-i-preserved : goal.loop-i-preserved
loop-i-preserved c =
    let P = c.args.prepared.now in let i = c.loop-i.i in let d = c.index-prepared-i.result in let x = c.args.x.now in
    elim c.if-is_level.branch [
      | then-is_level+in_ok-add w ↦ subst (AreTight (take (i + 1) P) x) (sym w.in_ok-add.ensures ∙ ap (λ (v : Vec ℕ Global). v.items) (sym w.out-is))
          (tight_more P x c.loop-i.out.items i d (omega arith) c.loop-i.invariant (ap (λ (u : Vector). dot u x) (sym c.index-prepared-i.is) ∙ c.is_level.ensures.0 w.if-is_level.true))
      | else-is_level w ↦ subst (λ (v : Vec ℕ Global). AreTight (take (i + 1) P) x v.items) (sym w.out-is)
          (tight_skip P x c.loop-i.out.items i d (omega arith) c.loop-i.invariant (λ z. let e = c.is_level.ensures.1 (ap (λ (u : Vector). dot u x) c.index-prepared-i.is ∙ z) in let f = w.if-is_level.false in cc (e, f)))
    ]
