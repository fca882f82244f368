use Rattle.std.proofs.Common.{rules, ◌≡◌, ◌+◌, ◌∷◌, ◌++◌, [], ℤ, length, take, ◌<◌, Ok, set, w64, to_z, of_z, sym, ap, ◌∙◌, arith, FitsSigned, length-set}
use Rattle.std.proofs.lemmas.Int.{ints, to_z-of_z}
use Rattle.std.proofs.lemmas.List.{take_more_set}
use Rattle.std.proofs.lemmas.Result.{err_from_is_err_and}
use Rattle.std.specs.Int.{w128}
use Rattle.git_lines.proofs.Loops.{stops_at, goes_on, is_done}
use Rattle.git_defs.specs.Vectors.{Vector}
use Rattle.git_weights.proofs.lines.entries.Goals as goal

pub returns-in_err-entry : goal.returns-in_err-entry
returns-in_err-entry c =
    let p = err_from_is_err_and c.from_residual.result c.from_residual.ensures.1 in
    rw (p.1, p.2) (stops_at _ (take c.loop-i.i c.loop-i.all) c.args.k c.loop-i.i _ _ _ c.loop-i-test.true c.in_err-entry.ensures.reads c.loop-i.invariant.read)

pub loop-i-preserved : goal.loop-i-preserved
loop-i-preserved c =
    let entry : ℤ = c.in_ok-entry.entry in
    let fits : FitsSigned w64 entry = search rules in
    let from_is : c.from.result ≡ entry = c.from.ensures ∙ to_z-of_z w64 entry fits in
    let kept : to_z w128 (of_z w128 c.from.result) ≡ entry = to_z-of_z w128 c.from.result (omega (arith, ints, c.from.type_inv)) ∙ from_is in
    let lt : c.loop-i.i < length c.loop-i.all = omega (arith, c.loop-i-test.true, c.loop-i.invariant.long, c.requires.few) in
    let pushed : take (c.loop-i.i + 1) (set c.loop-i.all c.loop-i.i (to_z w128 (of_z w128 c.from.result))) ≡ take c.loop-i.i c.loop-i.all ++ entry ∷ [] =
    take_more_set c.loop-i.all c.loop-i.i (to_z w128 (of_z w128 c.from.result)) lt ∙ ap (λ (z : ℤ). take c.loop-i.i c.loop-i.all ++ z ∷ []) kept in
    record {
      long = length-set _ _ _ ∙ c.loop-i.invariant.long;
      read = rw pushed (goes_on _ (take c.loop-i.i c.loop-i.all) c.args.k c.loop-i.i _ entry _ _ c.loop-i-test.true c.in_ok-entry.ensures.reads c.loop-i.invariant.read);
    }

pub returns : goal.returns
returns c =
    let all : c.loop-i.i ≡ c.args.k = omega (arith, c.loop-i-test.false, c.loop-i.auto.i-end) in
    is_done _ (take c.loop-i.i c.loop-i.all) c.args.k c.loop-i.i _ _ c.loop-i-test.false c.loop-i.invariant.read
    ∙ ap (λ (v : Vector). Ok (v, c.loop-i.words)) (ap (λ n. take n c.loop-i.all) all ∙ sym c.of.ensures)
