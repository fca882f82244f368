use Rattle.std.proofs.Common.{◌≡◌, List, ap, arith, length, subst, ℕ}
use Rattle.git_machine.specs.Signatures.{Signature}
use Rattle.git_orbit.proofs.NumberSets.{TakesOut, taken_out}
use Rattle.git_orbit.proofs.sets.NumberSet.take_out.Goals as goal

pub returns-clause-each : goal.returns-clause-each
returns-clause-each c =
    let old : c.self.inside.words.items ≡ c.args.self.now = c.self.view_is in
    let other : c.other.inside.words.items ≡ c.args.other.now = c.other.view_is in
    let t = subst (λ (o : Signature). TakesOut o c.args.other.now c.loop-i.i c.loop-i.self-inside.words.items) old (subst (λ (o : Signature). TakesOut c.self.inside.words.items o c.loop-i.i c.loop-i.self-inside.words.items) other c.loop-i.invariant) in
    taken_out c.args.self.now c.args.other.now c.loop-i.self-inside.words.items c.loop-i.i
    (let a = ap (λ (l : List ℕ). length l) old in let b = ap (λ (l : List ℕ). length l) other in omega (arith, a, b, c.loop-i-test.false, c.min-i-end.ensures, c.len.ensures, c.len-2.ensures)) t
