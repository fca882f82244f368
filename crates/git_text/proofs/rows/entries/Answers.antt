use Rattle.std.proofs.lemmas.Int.{ints, to_z-of_z}
use Rattle.std.proofs.Common.{FitsSigned, w64, ap, ◌∙◌, arith, ◌≡◌, ◌++◌, ◌∷◌, [], ℤ}
use Rattle.std.proofs.lemmas.Result.{err_from_is_err_and}
use Rattle.git_lines.proofs.Loops.{stops_at, goes_on, is_done}
use Rattle.git_text.specs.Faults.{as_input}
use Rattle.git_text.proofs.rows.entries.Goals as goal

pub returns-in_err-entry : goal.returns-in_err-entry
returns-in_err-entry c =
    let p = err_from_is_err_and c.from_residual-in_err-entry.result c.from_residual-in_err-entry.ensures.1 in
    rw (p.1, p.2) (ap as_input (stops_at _ c.loop.entries.items c.args.r c.loop.counter _ _ _ c.loop-test.true c.in_err-entry.ensures.reads c.loop.invariant))

pub loop-preserved : goal.loop-preserved
loop-preserved c =
    let entry = c.in_ok-entry.entry in
    let fits : FitsSigned w64 entry = omega (arith, ints, c.in_ok-entry.ensures.low, c.in_ok-entry.ensures.high) in
    let pushed : c.push.new.self.items ≡ c.loop.entries.items ++ entry ∷ [] = c.in_ok-push.ensures.items ∙ ap (λ (z : ℤ). c.loop.entries.items ++ z ∷ []) (to_z-of_z w64 entry fits) in
    rw pushed (goes_on _ c.loop.entries.items c.args.r c.loop.counter _ entry _ _ c.loop-test.true c.in_ok-entry.ensures.reads c.loop.invariant)

pub returns : goal.returns
returns c = ap as_input (is_done _ c.loop.entries.items c.args.r c.loop.counter _ _ c.loop-test.false c.loop.invariant)
