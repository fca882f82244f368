use Rattle.std.proofs.Common.{◌≡◌, ℕ, ◌<◌, ◌≤◌, refl, sym, ap, subst, arith, Bool, true, false}
use Rattle.std.specs.List.{Contains}
use Rattle.git_machine.specs.Signatures.{Signature}
use Rattle.git_table_tests.specs.Spokes.{spokes}
use Rattle.git_table_tests.proofs.Spokes.{spokes_has, told_caller}
use Rattle.git_table_tests.proofs.table.offer.Goals as goal

pub offer-requires-clause-leads : goal.offer-requires-clause-leads
offer-requires-clause-leads c =
    let h = c.requires.caller.hand (search Rattle.std.proofs.Common.rules) in
    let pos = c.if-number-eq0.false in let few = c.if-number-star.false in
    (h.0, h.1, h.2, h.3, (spokes c.args.star.now.last, ap (λ g. spokes g.last) (sym c.requires.star), subst (λ (x : Signature). Contains (spokes c.args.star.now.last) x) (sym c.in_ok-sig.ensures) (spokes_has c.args.star.now.last c.args.number (omega arith) (omega arith))))

pub returns : goal.returns
returns c = told_caller c.args.frontier.now c.args.caller.now.seat c.offer.new.seat c.in_ok-sig.sig c.offer.result c.offer.ensures c.args.caller.now.busy c.requires.caller
