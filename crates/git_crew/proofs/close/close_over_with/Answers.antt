use Rattle.std.proofs.Common.{arith}
use Rattle.std.proofs.lemmas.List.{length-map}
use Rattle.std.proofs.lemmas.List.Sorted.{All-permutation}
use Rattle.git_machine.specs.declared.successors.Found.{Found}
use Rattle.git_machine.proofs.Once.{reach_exceeds}
use Rattle.git_plain.specs.Closing.{signatures_of}
use Rattle.git_crew.proofs.Wholes.{found_sorted}
use Rattle.git_crew.proofs.close.close_over_with.Goals as goal

pub returns-clause-reach : goal.returns-clause-reach
returns-clause-reach g c = (found_sorted (g.G.Successors.next c.args.graph.now) c.args.first.now c.in-Ok.found.items c.in_order.result.items c.in_order.ensures.same c.in_order.ensures.sorted c.in-Ok.ensures.reach).0

pub returns-clause-order : goal.returns-clause-order
returns-clause-order g c = (found_sorted (g.G.Successors.next c.args.graph.now) c.args.first.now c.in-Ok.found.items c.in_order.result.items c.in_order.ensures.same c.in_order.ensures.sorted c.in-Ok.ensures.reach).1

pub returns-clause-payloads : goal.returns-clause-payloads
returns-clause-payloads g c = All-permutation (λ (f : Found g.row.G-Payload.Denot). g.G.Successors.payload c.args.graph.now f.sig f.payload) c.in-Ok.found.items c.in_order.result.items c.in_order.ensures.same c.in-Ok.ensures.payloads

pub returns-clause-fits : goal.returns-clause-fits
returns-clause-fits g c = λ more.
    let many = reach_exceeds (g.G.Successors.next c.args.graph.now) c.args.first.now (signatures_of c.in-Ok.found.items) c.args.cap c.in-Ok.ensures.reach more in
    omega (arith, c.in-Ok.ensures.few, length-map c.in-Ok.found.items (λ (f : Found g.row.G-Payload.Denot). f.sig))
