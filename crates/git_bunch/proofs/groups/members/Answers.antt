use Rattle.std.proofs.Common.{◌+◌, ◌∙◌, Global, List, Vec, ap, arith, subst, sym, take, ℕ}
use Rattle.std.proofs.lemmas.List.{take_all}
use Rattle.git_orbit.specs.Keys.{HasKey}
use Rattle.git_bunch.proofs.Grouping.{Picks, picks_less, picks_more}
use Rattle.git_bunch.proofs.groups.members.Goals.{then-has_key+in_ok-add, else-has_key}
use Rattle.git_bunch.proofs.groups.members.Goals as goal

pub returns : goal.returns
returns c = subst (λ (l : List ℕ). Picks (HasKey c.args.key.now.held c.args.key.now.along.items) l c.loop-mask.out.items) (take_all c.loop-mask.mask-index c.args.free.now (omega (arith, c.loop-mask-test.false))) c.loop-mask.invariant

pub loop-mask-preserved : goal.loop-mask-preserved
loop-mask-preserved c =
    let P = HasKey c.args.key.now.held c.args.key.now.along.items in
    let xs = c.args.free.now in
    let i = c.loop-mask.mask-index in
    elim c.if-has_key.branch [
      | then-has_key+in_ok-add w ↦ subst (Picks P (take (i + 1) xs)) (sym w.in_ok-add.ensures ∙ ap (λ (v : Vec ℕ Global). v.items) (sym w.out-is))
          (picks_more P xs c.loop-mask.out.items i c.loop-mask-test.true (c.has_key.ensures.0 w.if-has_key.true) c.loop-mask.invariant)
      | else-has_key w ↦ subst (λ (v : Vec ℕ Global). Picks P (take (i + 1) xs) v.items) (sym w.out-is)
          (picks_less P xs c.loop-mask.out.items i c.loop-mask-test.true (λ h. let e = c.has_key.ensures.1 h in let f = w.if-has_key.false in cc (e, f)) c.loop-mask.invariant)
    ]
