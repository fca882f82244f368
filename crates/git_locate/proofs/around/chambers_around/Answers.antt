use Rattle.std.proofs.Common.{◌∙◌, ◌+◌, Vec, Global, ap, arith, map, subst, sym, ℕ}
use Rattle.std.proofs.lemmas.List.{length-map}
use Rattle.git_listing.specs.Views.{chamber_of}
use Rattle.git_locate.specs.Positions.{AreNumbersOf, IsListedAround}
use Rattle.git_locate.proofs.Listed.{all_listed, cone_short, is_listed, none_at_zero, not_listed}
use Rattle.git_locate.proofs.Numbers.{Below, number_less, number_more}
use Rattle.git_locate.proofs.around.chambers_around.Goals.{then-holds+in_ok-add, else-holds}
use Rattle.git_locate.proofs.around.chambers_around.Goals as goal

pub loop-i-init : goal.loop-i-init
loop-i-init c =
    let Q = IsListedAround c.args.k (map chamber_of c.args.chambers.now) c.args.w.now in
    subst (AreNumbersOf (Below Q 1)) (sym c.new-out.ensures.items) (none_at_zero c.args.k (map chamber_of c.args.chambers.now) c.args.w.now)

pub holds-requires-clause-chamber : goal.holds-requires-clause-chamber
holds-requires-clause-chamber c = cone_short c.args.k c.args.chambers.now c.args.w.now c.loop-i.i c.index-chambers-i.result c.loop-i-test.true c.index-chambers-i.is c.requires.chambers

pub loop-i-preserved : goal.loop-i-preserved
loop-i-preserved c =
    let cs = c.args.chambers.now in
    let Q = IsListedAround c.args.k (map chamber_of cs) c.args.w.now in
    let i = c.loop-i.i in
    let one = c.index-chambers-i.result in
    elim c.if-holds.branch [
      | then-holds+in_ok-add w ↦ subst (AreNumbersOf (Below Q (i + 1 + 1))) (sym w.in_ok-add.ensures ∙ ap (λ (v : Vec ℕ Global). v.items) (sym w.out-is))
          (number_more Q (i + 1) c.loop-i.out.items (is_listed c.args.k cs c.args.w.now i one c.loop-i-test.true c.index-chambers-i.is (c.holds.ensures.0 w.if-holds.true)) c.loop-i.invariant)
      | else-holds w ↦ subst (λ (v : Vec ℕ Global). AreNumbersOf (Below Q (i + 1 + 1)) v.items) (sym w.out-is)
          (number_less Q (i + 1) c.loop-i.out.items (not_listed c.args.k cs c.args.w.now i one c.loop-i-test.true c.index-chambers-i.is
          (λ h. let e = c.holds.ensures.1 h in let f = w.if-holds.false in cc (e, f))) c.loop-i.invariant)
    ]

pub returns : goal.returns
returns c = all_listed c.args.k (map chamber_of c.args.chambers.now) c.args.w.now c.loop-i.i c.loop-i.out.items
    (let e = length-map c.args.chambers.now chamber_of in omega (arith, c.loop-i-test.false, e)) c.loop-i.invariant
