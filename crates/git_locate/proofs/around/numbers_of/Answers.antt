use Rattle.std.proofs.Common.{◌∙◌, ◌+◌, Vec, Global, ap, arith, subst, sym, ℕ}
use Rattle.git_machine.specs.Signatures.{Has}
use Rattle.git_locate.specs.Positions.{AreNumbersOf}
use Rattle.git_locate.proofs.Numbers.{Below, no_numbers, number_less, number_more}
use Rattle.git_locate.proofs.around.numbers_of.Goals.{then-has+in_ok-add, else-has}
use Rattle.git_locate.proofs.around.numbers_of.Goals as goal

pub loop-n-init : goal.loop-n-init
loop-n-init c = subst (AreNumbersOf (Below (Has c.args.sig.now) 0)) (sym c.new-out.ensures.items) (no_numbers (Below (Has c.args.sig.now) 0) (λ m p. let l = p.0 in omega (arith, l)))

pub loop-n-preserved : goal.loop-n-preserved
loop-n-preserved c =
    let sig = c.args.sig.now in
    let n = c.loop-n.n in
    elim c.if-has.branch [
      | then-has+in_ok-add w ↦ subst (AreNumbersOf (Below (Has sig) (n + 1))) (sym w.in_ok-add.ensures ∙ ap (λ (v : Vec ℕ Global). v.items) (sym w.out-is))
          (number_more (Has sig) n c.loop-n.out.items (c.has.ensures.0 w.if-has.true) c.loop-n.invariant)
      | else-has w ↦ subst (λ (v : Vec ℕ Global). AreNumbersOf (Below (Has sig) (n + 1)) v.items) (sym w.out-is)
          (number_less (Has sig) n c.loop-n.out.items (λ h. let e = c.has.ensures.1 h in let f = w.if-has.false in cc (e, f)) c.loop-n.invariant)
    ]

pub returns : goal.returns
returns c = subst (λ (n : ℕ). AreNumbersOf (Below (Has c.args.sig.now) n) c.loop-n.out.items) (omega (arith, c.loop-n-test.false, c.loop-n.auto.n-end)) c.loop-n.invariant
