use Rattle.std.proofs.Common.{◌≡◌, ◌∙◌, ◌++◌, [], ◌∷◌, List, ap, append-nil, arith, drop, refl, subst, sym}
use Rattle.std.proofs.lemmas.List.{drop_all}
use Rattle.git_defs.specs.Vectors.{Vector}
use Rattle.git_machine.specs.Signatures.{Signature}
use Rattle.git_chamber.specs.Chambers.{AreCrossings, IsBehind}
use Rattle.git_chamber.specs.declared.cell.Side.TheVariants.{Inner}
use Rattle.git_chamber.proofs.Crossings.{no_crossing, one_more_crossing}
use Rattle.git_chamber.proofs.crossing.crossings.Goals as goal
use Rattle.git_chamber.proofs.crossing.crossings.Goals.{in-Inner+in_ok-add, in_default}

pub returns : goal.returns
returns c =
    let fan = c.args.cones.now in
    let rays = c.args.rays.now in
    let end : drop c.loop-normal.normal-index c.args.normals.now ≡ [] = drop_all c.loop-normal.normal-index c.args.normals.now (omega (arith, c.loop-normal-test.false)) in
    subst (AreCrossings fan rays c.args.normals.now) (append-nil c.loop-normal.sigs.items)
    (c.loop-normal.invariant [] (subst (λ (ns : List Vector). AreCrossings fan rays ns []) (sym end) refl))

pub loop-normal-preserved : goal.loop-normal-preserved
loop-normal-preserved c = λ rest later.
    let fan = c.args.cones.now in
    let rays = c.args.rays.now in
    let normals = c.args.normals.now in
    let n = c.normal-item.result in
    let i = c.loop-normal.normal-index in
    let side : IsBehind fan rays n c.in_ok-sig.field-0 = c.in_ok-sig.ensures in
    elim c.match-branch-2.branch [
      | in-Inner+in_ok-add w ↦
          let b : IsBehind fan rays n (Inner w.in-Inner.sig) = subst (IsBehind fan rays n) w.in-Inner.is side in
          let items : c.match-branch-2.sigs.items ≡ c.loop-normal.sigs.items ++ w.in-Inner.sig ∷ [] = ap (λ v. v.items) w.sigs-is ∙ w.in_ok-add.ensures in
          subst (λ (l : List Signature). AreCrossings fan rays normals (l ++ rest)) (sym items)
          (one_more_crossing fan rays normals i n w.in-Inner.sig c.loop-normal.sigs.items rest c.loop-normal-test.true c.normal-item.is b later c.loop-normal.invariant)
      | in_default w ↦
          let b = subst (IsBehind fan rays n) w.in_default.is side in
          subst (λ (l : List Signature). AreCrossings fan rays normals (l ++ rest)) (sym (ap (λ v. v.items) w.sigs-is))
          (no_crossing fan rays normals i n _ c.loop-normal.sigs.items rest c.loop-normal-test.true c.normal-item.is b later c.loop-normal.invariant)
    ]
