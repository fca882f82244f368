use Rattle.std.proofs.Common.{[], ◌∷◌, ◌++◌, arith, rules}
use Rattle.std.specs.Prelude.{pos, ◌<ℤ◌}
use Rattle.std.proofs.lemmas.Int.{ints}
use Rattle.std.proofs.lemmas.List.Elements.{All-push, All-same}
use Rattle.git_defs.specs.Vectors.{dot}
use Rattle.git_adjacency.proofs.Marking.{marked_off}
use Rattle.git_adjacency.specs.Sides.{IsMarkedRay}
use Rattle.git_adjacency.proofs.stage.place.Goals as goal

pub returns-then-at-gt0-clause-marked : goal.returns-then-at-gt0-clause-marked
returns-then-at-gt0-clause-marked c =
    let A = c.args.inequalities.now in let b = c.args.b.now in let w = c.args.width in let ray = c.args.ray in
    let P = IsMarkedRay (A ++ b ∷ []) w in
    let up : pos 0 <ℤ dot b ray.vector = search rules in
    record {
      above = All-same P c.add.new.out.items (c.args.sides.now.above.items ++ ray ∷ []) c.in_ok-_above.ensures (All-push P c.args.sides.now.above.items ray c.requires.sides.above
          (marked_off A b ray.vector w ray.zeros.items c.requires.ray.marked (λ z. omega (arith, ints, up, z))));
      level = c.requires.sides.level;
      below = c.requires.sides.below;
    }

pub returns-then-at-lt0-clause-marked : goal.returns-then-at-lt0-clause-marked
returns-then-at-lt0-clause-marked c =
    let A = c.args.inequalities.now in let b = c.args.b.now in let w = c.args.width in let ray = c.args.ray in
    let P = IsMarkedRay (A ++ b ∷ []) w in
    let low : dot b ray.vector <ℤ pos 0 = search rules in
    record {
      above = c.requires.sides.above;
      level = c.requires.sides.level;
      below = All-same P c.add-then-at-lt0.new.out.items (c.args.sides.now.below.items ++ ray ∷ []) c.in_ok-_below.ensures (All-push P c.args.sides.now.below.items ray c.requires.sides.below
          (marked_off A b ray.vector w ray.zeros.items c.requires.ray.marked (λ z. omega (arith, ints, low, z))));
    }

pub returns-clause-marked : goal.returns-clause-marked
returns-clause-marked c =
    let A = c.args.inequalities.now in let b = c.args.b.now in let w = c.args.width in
    let P = IsMarkedRay (A ++ b ∷ []) w in
    record {
      above = c.requires.sides.above;
      level = All-same P c.add-2.new.out.items (c.args.sides.now.level.items ++ c.with_mark.result ∷ []) c.in_ok-_level.ensures (All-push P c.args.sides.now.level.items c.with_mark.result c.requires.sides.level c.with_mark.ensures.marked);
      below = c.requires.sides.below;
    }
