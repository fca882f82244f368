use Rattle.std.proofs.Common.{sym, ap, subst, ◌∙◌, ◌<◌, ◌≡◌, ◌++◌, ◌∷◌, [], arith, take, Option}
use Rattle.std.specs.Prelude.{IfSome}
use Rattle.std.proofs.Math.Nat.{pos_of_ne-zero}
use Rattle.git_algebra.specs.Exponents.{Exponents, times}
use Rattle.git_algebra.specs.Sums.{Sum, shift}
use Rattle.git_algebra.proofs.Monomials.{degree-times}
use Rattle.git_poly.specs.Terms.{sum_of, IsForm}
use Rattle.git_poly.proofs.TermLists.{sum_of-append, one_more_taken, all_taken, degree_within}
use Rattle.git_lemmas.proofs.Options.{some_unless_none}
use Rattle.git_poly.proofs.Shifting.{shift_reduced, shift_reduced-append, shifted_form}
use Rattle.git_poly.proofs.terms.shifted.Goals as goal

pub unwrap-requires : goal.unwrap-requires
unwrap-requires c =
    let x = c.t-item.result in
    some_unless_none c.times.result (λ none. omega (arith, c.times.ensures.none.0 none, degree-times c.args.m.now x.mono, degree_within c.args.a.now c.loop-t.t-index x c.t-item.is (omega arith), c.requires.degrees))

pub loop-t-preserved : goal.loop-t-preserved
loop-t-preserved c =
    let x = c.t-item.result in
    let made : c.unwrap.result ≡ times c.args.m.now x.mono = subst (λ (o : Option Exponents). IfSome o (λ m. m ≡ times c.args.m.now x.mono)) c.unwrap.ensures c.times.ensures.some in
    let more =
    ap (shift_reduced c.args.m.now c.args.c) (one_more_taken c.args.a.now c.loop-t.t-index x c.t-item.is (omega arith))
    ∙ shift_reduced-append c.args.m.now c.args.c (sum_of (take c.loop-t.t-index c.args.a.now)) ((x.mono, x.number) ∷ []) in
    ap sum_of c.in_ok-push.ensures.items
    ∙ sum_of-append c.loop-t.out.items (record { mono = c.unwrap.result; number = c.mul.result } ∷ [])
    ∙ (λ i. c.loop-t.invariant i ++ ((made i, c.mul.ensures i) ∷ []))
    ∙ sym more

pub returns : goal.returns
returns c =
    let some : 0 < c.args.c = pos_of_ne-zero c.requires.some in
    let all : sum_of c.loop-t.out.items ≡ shift_reduced c.args.m.now c.args.c (sum_of c.args.a.now) = c.loop-t.invariant ∙ ap (shift_reduced c.args.m.now c.args.c) (all_taken c.args.a.now c.loop-t.t-index (omega arith)) in
    subst (λ (s : Sum). IsForm s (shift c.args.m.now c.args.c (sum_of c.args.a.now))) (sym all) (shifted_form c.args.m.now c.args.c (sum_of c.args.a.now) some c.requires.below c.requires.proper)
