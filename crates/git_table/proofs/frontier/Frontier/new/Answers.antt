use Rattle.std.proofs.Common.{◌<◌, ◌+◌, sym, subst, arith}
use Rattle.git_machine.specs.Signatures.{Signature}
use Rattle.git_table.proofs.SeatViews.{new_seat}
use Rattle.git_table.proofs.frontier.Frontier.new.Goals as goal

pub invariant_of-seat : goal.invariant_of-seat
invariant_of-seat g c =
    let e = c.in_ok-visited.ensures in let key = c.in_ok-visited.visited.table.shared.key in let k = e.key in let z = c.requires.sizes in
    let some : 0 < key.cap + key.workers = (let a = k.2 in let b = k.3 in omega arith) in
    let fit = subst (λ (x : Signature). g.G.Successors.legal key.graph.value x) (sym k.1) (subst (λ q. g.G.Successors.legal q c.args.first.now) (sym k.0) c.requires.legal) in
    new_seat g.G.Successors.legal c.in_ok-visited.raw key _ e.view e.own.1 e.fits some fit
