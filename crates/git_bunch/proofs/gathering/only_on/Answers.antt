use Rattle.std.proofs.Common.{◌≡◌, ◌∙◌, ◌+◌, ◌++◌, Global, List, Vec, ap, arith, length, subst, sym, ℕ}
use Rattle.git_bunch.specs.Groups.{IsOnly}
use Rattle.git_bunch.specs.declared.groups.Group.{Group}
use Rattle.git_bunch.proofs.Gathers.{Gathered, gathered_less, gathered_more, gathered_none, only_falling}
use Rattle.git_bunch.proofs.gathering.only_on.Goals.{then-is_only+in_ok-extend, else-is_only}
use Rattle.git_bunch.proofs.gathering.only_on.Goals as goal

pub loop-i-init : goal.loop-i-init
loop-i-init c = λ F are.
    let Q = IsOnly c.args.on.now c.args.one.now c.args.two.now in
    subst (λ (l : List ℕ). Gathered F Q 0 l) (sym c.new-all.ensures.items) (gathered_none F Q)

pub loop-i-preserved : goal.loop-i-preserved
loop-i-preserved c = λ F are.
    let Q = IsOnly c.args.on.now c.args.one.now c.args.two.now in
    let i = c.loop-i.i in
    let all = c.loop-i.all.items in
    elim c.if-is_only.branch [
      | then-is_only+in_ok-extend w ↦
          let g = w.index-groups-i.result in
          let items : c.if-is_only.all.items ≡ all ++ g.all.items = ap (λ (v : Vec ℕ Global). v.items) w.all-is ∙ w.in_ok-extend.ensures ∙ ap (λ (l : List ℕ). all ++ l) w.deref.ensures.value ∙ ap (λ (h : Group). all ++ h.all.items) (sym w.index-groups-i.is) in
          subst (λ (l : List ℕ). Gathered F Q (i + 1) l) (sym items)
          (gathered_more F Q c.args.groups.now are i g c.loop-i-test.true w.index-groups-i.is all (c.is_only.ensures.0 w.if-is_only.true) (c.loop-i.invariant F are))
      | else-is_only w ↦ subst (λ (v : Vec ℕ Global). Gathered F Q (i + 1) v.items) (sym w.all-is)
          (gathered_less F Q i all (λ h. let e = c.is_only.ensures.1 h in let f = w.if-is_only.false in cc (e, f)) (c.loop-i.invariant F are))
    ]

pub returns : goal.returns
returns c = λ F is are.
    let end : c.loop-i.i ≡ length F.fan.list = let l = are.long in omega (arith, l, c.loop-i-test.false, c.loop-i.auto.i-end) in
    only_falling F is c.args.on.now c.args.one.now c.args.two.now c.loop-i.i c.loop-i.all.items c.falling.result.items end (c.loop-i.invariant F are) c.falling.ensures
