use Rattle.std.proofs.Common.{◌≡◌, ◌∙◌, Some, arith, length, subst, sym}
use Rattle.std.specs.BTreeMap.{get}
use Rattle.std.proofs.lemmas.List.{length-map}
use Rattle.std.proofs.lemmas.Option.{slice_get_within}
use Rattle.std.proofs.lemmas.Result.{IfOk-weaker}
use Rattle.git_machine.specs.Signatures.{signature_cmp}
use Rattle.git_chamber.specs.Views.{FanChamber}
use Rattle.git_chamber.specs.Chambers.{IsBehind}
use Rattle.git_chamber.specs.declared.cell.Side.TheVariants.{Inner}
use Rattle.git_assemble.specs.Making.{IsNumberedSide, signatures_in}
use Rattle.git_assemble.proofs.sides.side_at.Goals as goal

pub inner_side-requires-clause-in_range : goal.inner_side-requires-clause-in_range
inner_side-requires-clause-in_range c =
    let cs = c.args.chambers.now in
    let here = c.requires.numbers.right c.in-Inner.sig c.in-Some.number (sym c.number_at.ensures ∙ c.in-Some.is) in
    let low = slice_get_within (signatures_in cs) here.0 c.in-Inner.sig here.2 in
    let long = length-map cs (λ (x : FanChamber). x.sig) in
    let is = here.1 in
    omega (arith, low, long, is)

pub returns-in-Some : goal.returns-in-Some
returns-in-Some c =
    let fan = c.args.cones.now in
    let rays = c.args.rays.now in
    let n = c.args.normal.now in
    let behind : IsBehind fan rays n (Inner c.in-Inner.sig) = subst (IsBehind fan rays n) c.in-Inner.is c.in_ok-behind.ensures in
    IfOk-weaker c.inner_side.result _ _ (λ s h.
    subst (IsNumberedSide fan c.args.numbers.now c.args.chambers.now rays n) (sym h.1) (behind.0, c.in-Inner.sig, behind.1, sym c.number_at.ensures ∙ c.in-Some.is, h.2)) c.inner_side.ensures
