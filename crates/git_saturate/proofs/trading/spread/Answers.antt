use Rattle.std.proofs.Common.{◌≤◌, ◌+◌, ◌++◌, ap, sym, ◌∙◌, subst, arith, map, List, Vec, Global}
use Rattle.git_algebra.specs.Polynomials.{Polynomial}
use Rattle.git_algebra.specs.Operations.{total_degree}
use Rattle.git_ideals.specs.Faces.{face_monomial}
use Rattle.git_saturate.specs.Traded.{traded_polynomial, spread}
use Rattle.git_saturate.proofs.Monomial.{length-map}
use Rattle.git_saturate.proofs.TradedTerms.{IsSpread, spread_none, spread_some, spread_some_within, all_spread_out, traded_at, low_at}
use Rattle.git_saturate.proofs.trading.spread.Goals as goal
use Rattle.git_saturate.proofs.trading.spread.Goals.{then-is_zero+in_ok-push, else-is_zero+in_ok-cofactor+in_ok-push-2}

pub loop-f-init : goal.loop-f-init
loop-f-init c =
    let hs = map (traded_polynomial (face_monomial c.args.mask) c.args.power) c.args.others.now in
    record {
      whole = ap (λ (xs : List Polynomial). xs ++ spread c.args.mask c.args.generators.now (map (traded_polynomial (face_monomial c.args.mask) c.args.power) c.args.others.now)) c.in_ok-out.ensures.items;
      count = omega (arith, length-map (traded_polynomial (face_monomial c.args.mask) c.args.power) c.args.others.now, c.requires.count);
    }

pub bounds-others-next : goal.bounds-others-next
bounds-others-next c =
    let within = spread_some_within c.args.mask c.args.generators.now _ c.loop-f.out.items c.loop-f.f-index c.loop-f.next c.f-item.result c.in_ok-restricted.restricted c.loop-f.invariant c.f-item.is (omega arith) c.in_ok-restricted.ensures (λ z. absurd (let yes = c.is_zero.ensures.1 z in cc (yes, c.if-is_zero.false))) in
    omega (arith, within, length-map (traded_polynomial (face_monomial c.args.mask) c.args.power) c.args.others.now)

pub traded_poly-requires-clause-small : goal.traded_poly-requires-clause-small
traded_poly-requires-clause-small c =
    let within = spread_some_within c.args.mask c.args.generators.now _ c.loop-f.out.items c.loop-f.f-index c.loop-f.next c.f-item.result c.in_ok-restricted.restricted c.loop-f.invariant c.f-item.is (omega arith) c.in_ok-restricted.ensures (λ z. absurd (let yes = c.is_zero.ensures.1 z in cc (yes, c.if-is_zero.false))) in
    low_at (λ h. total_degree h ≤ 1048576) c.args.others.now c.loop-f.next c.index-others-next.result c.requires.small c.index-others-next.is (omega (arith, within, length-map (traded_polynomial (face_monomial c.args.mask) c.args.power) c.args.others.now))

pub loop-f-preserved : goal.loop-f-preserved
loop-f-preserved c = elim c.if-is_zero.branch [
  | then-is_zero+in_ok-push w ↦
      subst (λ n. IsSpread c.args.mask c.args.generators.now (map (traded_polynomial (face_monomial c.args.mask) c.args.power) c.args.others.now) c.if-is_zero.out.items (c.loop-f.f-index + 1) n) (sym w.next-is)
      (spread_none c.args.mask c.args.generators.now _ c.loop-f.out.items c.if-is_zero.out.items c.loop-f.f-index c.loop-f.next c.f-item.result c.in_ok-restricted.restricted w.zero.result c.loop-f.invariant c.f-item.is (omega arith) c.in_ok-restricted.ensures
      (c.is_zero.ensures.0 w.if-is_zero.true) w.zero.ensures (ap (λ (v : Vec Polynomial Global). v.items) w.out-is ∙ w.in_ok-push.ensures.items))
  | else-is_zero+in_ok-cofactor+in_ok-push-2 w ↦
      let within = spread_some_within c.args.mask c.args.generators.now _ c.loop-f.out.items c.loop-f.f-index c.loop-f.next c.f-item.result c.in_ok-restricted.restricted c.loop-f.invariant c.f-item.is (omega arith) c.in_ok-restricted.ensures (λ z. absurd (let yes = c.is_zero.ensures.1 z in cc (yes, w.if-is_zero.false))) in
      let at = traded_at (traded_polynomial (face_monomial c.args.mask) c.args.power) c.args.others.now c.loop-f.next w.index-others-next.result w.in_ok-cofactor.cofactor w.index-others-next.is (omega (arith, within, length-map (traded_polynomial (face_monomial c.args.mask) c.args.power) c.args.others.now)) w.in_ok-cofactor.ensures in
      subst (λ n. IsSpread c.args.mask c.args.generators.now (map (traded_polynomial (face_monomial c.args.mask) c.args.power) c.args.others.now) c.if-is_zero.out.items (c.loop-f.f-index + 1) n) (sym w.next-is)
      (spread_some c.args.mask c.args.generators.now _ c.loop-f.out.items c.if-is_zero.out.items c.loop-f.f-index c.loop-f.next c.f-item.result c.in_ok-restricted.restricted w.in_ok-cofactor.cofactor c.loop-f.invariant c.f-item.is (omega arith) c.in_ok-restricted.ensures
      (λ z. absurd (let yes = c.is_zero.ensures.1 z in cc (yes, w.if-is_zero.false))) at (ap (λ (v : Vec Polynomial Global). v.items) w.out-is ∙ w.in_ok-push-2.ensures.items))
]

pub returns : goal.returns
returns c = all_spread_out c.args.mask c.args.generators.now _ c.loop-f.out.items c.loop-f.f-index c.loop-f.next c.loop-f.invariant c.loop-f-test.false
