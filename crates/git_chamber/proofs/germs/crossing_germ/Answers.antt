use Rattle.std.proofs.Common.{◌^◌, ◌∷◌, []}
use Rattle.std.proofs.lemmas.List.Elements.{All-cons, All-nil}
use Rattle.git_ints.specs.Padded.{AreWithin}
use Rattle.git_chamber.proofs.UnitGerms.{negative_within}
use Rattle.git_chamber.proofs.germs.crossing_germ.Goals as goal

pub with_units-requires-clause-within : goal.with_units-requires-clause-within
with_units-requires-clause-within c =
    All-cons (AreWithin (2 ^ 80)) c.wall_sum.result (c.negated.result ∷ []) c.wall_sum.ensures.within
    (All-cons (AreWithin (2 ^ 80)) c.negated.result [] (negative_within c.args.k c.args.normal.now c.negated.result c.requires.normal c.negated.ensures) (All-nil (AreWithin (2 ^ 80))))
