use Rattle.std.proofs.Common.{◌≡◌, ◌∙◌, ◌+◌, ◌++◌, Global, List, Vec, ap, arith, length, subst, sym, ℕ}
use Rattle.git_machine.specs.Signatures.{Has}
use Rattle.git_bunch.specs.Least.{AreLeastOf}
use Rattle.git_bunch.specs.declared.groups.Group.{Group}
use Rattle.git_bunch.proofs.Gathers.{Leasts, leasts_less, leasts_more, leasts_none, minimal_falling}
use Rattle.git_bunch.proofs.gathering.minimal_of.Goals.{then-has+in_ok-extend, else-has}
use Rattle.git_bunch.proofs.gathering.minimal_of.Goals as goal

pub loop-i-init : goal.loop-i-init
loop-i-init c = λ F are. subst (Leasts F (Has c.args.set.now) 0) (sym c.new-all.ensures.items) (leasts_none F (Has c.args.set.now))

pub loop-i-preserved : goal.loop-i-preserved
loop-i-preserved c = λ F are.
    let Q = Has c.args.set.now in
    let i = c.loop-i.i in
    let all = c.loop-i.all.items in
    elim c.if-has.branch [
      | then-has+in_ok-extend w ↦
          let g = w.index-groups-i.result in
          let items : c.if-has.all.items ≡ all ++ g.least.items = ap (λ (v : Vec ℕ Global). v.items) w.all-is ∙ w.in_ok-extend.ensures ∙ ap (λ (l : List ℕ). all ++ l) w.deref.ensures.value ∙ ap (λ (h : Group). all ++ h.least.items) (sym w.index-groups-i.is) in
          subst (Leasts F Q (i + 1)) (sym items)
          (leasts_more F Q c.args.groups.now are i g c.loop-i-test.true w.index-groups-i.is all (c.has.ensures.0 w.if-has.true) (c.loop-i.invariant F are))
      | else-has w ↦ subst (λ (v : Vec ℕ Global). Leasts F Q (i + 1) v.items) (sym w.all-is)
          (leasts_less F Q i all (λ h. let e = c.has.ensures.1 h in let f = w.if-has.false in cc (e, f)) (c.loop-i.invariant F are))
    ]

pub returns : goal.returns
returns c = λ F are.
    let end : c.loop-i.i ≡ length F.fan.list = let l = are.long in omega (arith, l, c.loop-i-test.false, c.loop-i.auto.i-end) in
    let out = c.in_ok-least.least.items in
    let least = subst (λ (l : List ℕ). AreLeastOf l out) c.deref-2.ensures.value c.in_ok-least.ensures in
    minimal_falling F c.args.set.now c.loop-i.i c.loop-i.all.items out end (c.loop-i.invariant F are) least
