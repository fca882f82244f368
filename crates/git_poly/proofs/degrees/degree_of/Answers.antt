use Rattle.std.proofs.Common.{◌≡◌, ◌<◌, ◌≤◌, ◌+◌, ◌*◌, ◌^◌, [], length, take, get_or, sym, ap, subst, ◌∙◌, arith, lit≤, to_z, of_z}
use Rattle.std.specs.Int.{w128}
use Rattle.std.specs.Int.RustNames.{unsigned_abs}
use Rattle.std.proofs.lemmas.Int.{ints}
use Rattle.std.specs.Prelude.{map, pos}
use Rattle.std.proofs.Math.IntN.{ℤ}
use Rattle.git_defs.specs.Vectors.{plus, scale}
use Rattle.git_defs.proofs.Lengths.{all_of_length}
use Rattle.git_defs.proofs.Linear.{length-combination}
use Rattle.git_defs.proofs.Sums.{scale-one}
use Rattle.git_ints.specs.Padded.{AreWithin}
use Rattle.git_ints.proofs.Sizes.{kept}
use Rattle.git_poly.specs.Degrees.{degree_under}
use Rattle.git_ints.proofs.Sizes.{within_more}
use Rattle.git_poly.proofs.Grading.{one_more_column, all_columns, sum_within, column_at}
use Rattle.git_poly.proofs.degrees.degree_of.Goals as goal

pub combine-sum-requires-clause-lengths : goal.combine-sum-requires-clause-lengths
combine-sum-requires-clause-lengths c =
    let k = c.args.g.now.k in let columns = c.args.g.now.columns in let i = c.loop-i.i in
    let lengths = c.k-k.ensures.grading.matrix.lengths in
    let here : i < length columns = omega (arith, c.loop-i-test.true, c.r-r.ensures.value) in
    ap length c.loop-i.invariant.is
    ∙ length-combination k (map pos (take i c.args.m.now.list)) columns (all_of_length k columns lengths)
    ∙ sym (lengths i [] here)
    ∙ ap length (column_at columns i c.column-column.result c.column-column.ensures)

pub combine-sum-requires-clause-second : goal.combine-sum-requires-clause-second
combine-sum-requires-clause-second c =
    let columns = c.args.g.now.columns in let i = c.loop-i.i in
    let here : i < length columns = omega (arith, c.loop-i-test.true, c.r-r.ensures.value) in
    subst (AreWithin (2 ^ 40)) (column_at columns i c.column-column.result c.column-column.ensures)
    (within_more 1000 (2 ^ 40) (get_or columns i []) (lit≤ tt) (c.k-k.ensures.grading.matrix.entries i [] here))

pub loop-i-preserved : goal.loop-i-preserved
loop-i-preserved c =
    let k = c.args.g.now.k in let columns = c.args.g.now.columns in let i = c.loop-i.i in
    let xs = c.args.m.now.list in let sum = c.loop-i.sum in
    let matrix = c.k-k.ensures.grading.matrix in
    let here : i < length columns = omega (arith, c.loop-i-test.true, c.r-r.ensures.value) in
    let place : i < length xs = omega (arith, here, matrix.few_columns, c.args.m.now.long) in
    let column : c.column-column.result ≡ get_or columns i [] = sym (column_at columns i c.column-column.result c.column-column.ensures) in
    let number : c.from-exponent.result ≡ pos (get_or xs i 0) = c.from-exponent.ensures ∙ ap pos c.exponent.ensures in
    let large : 64 ≤ 2 ^ 126 = lit≤ tt in
    let fits : unsigned_abs c.from-exponent.result ≤ 2 ^ 126 = subst (λ (z : ℤ). unsigned_abs z ≤ 2 ^ 126) (sym number) (omega (arith, ints, large, c.requires.small i)) in
    let factor : to_z w128 (of_z w128 c.from-exponent.result) ≡ pos (get_or xs i 0) = kept c.from-exponent.result fits ∙ number in
    let more : c.combine-sum.result ≡ plus sum (scale (pos (get_or xs i 0)) (get_or columns i [])) = c.combine-sum.ensures ∙ (λ j. plus (scale-one sum j) (scale (factor j) (column j))) in
    record {
      is = more ∙ (λ j. plus (c.loop-i.invariant.is j) (scale (pos (get_or xs i 0)) (get_or columns i []))) ∙ sym (one_more_column k xs columns i (all_of_length k columns matrix.lengths) place here);
      within = subst (AreWithin ((i + 1) * 64000)) (sym more)
          (within_more (i * 64000 + 64000) ((i + 1) * 64000) _ (omega arith)
          (sum_within sum (get_or columns i []) (get_or xs i 0) (i * 64000) c.loop-i.invariant.within (matrix.entries i [] here) (c.requires.small i)));
    }

pub returns : goal.returns
unfolding degree_under
returns c =
    c.loop-i.invariant.is
    ∙ all_columns c.args.g.now.k c.args.m.now.list c.args.g.now.columns c.loop-i.i (omega (arith, c.loop-i-test.false, c.r-r.ensures.value))
