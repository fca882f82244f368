use Rattle.std.proofs.Common.{map}
use Rattle.git_ideals.specs.Faces.{face_monomial}
use Rattle.git_saturate.specs.Traded.{traded_polynomial}
use Rattle.git_saturate.proofs.TradedTerms.{IsSpread}
use Rattle.git_saturate.proofs.trading.spread.Given as goal

abbrev pub invariant-loop-f : goal.invariant-loop-f
invariant-loop-f l = IsSpread l.mask l.generators (map (traded_polynomial (face_monomial l.mask) l.power) l.others) l.out.items l.f-index l.next
