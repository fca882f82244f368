use Rattle.std.proofs.Common.{sym, ap, subst, ◌∙◌, ◌<◌, ◌≡◌, ◌++◌, ◌∷◌, [], arith, take}
use Rattle.std.proofs.Math.Nat.{pos_of_ne-zero}
use Rattle.git_algebra.specs.Exponents.{one}
use Rattle.git_algebra.specs.Sums.{Sum, shift}
use Rattle.git_poly.specs.Terms.{sum_of, IsForm}
use Rattle.git_poly.proofs.TermLists.{sum_of-append, one_more_taken, all_taken}
use Rattle.git_poly.proofs.Shifting.{shift_reduced, shift_reduced-append, shifted_form, scale_reduced-term}
use Rattle.git_poly.proofs.terms.scaled.Goals as goal

pub loop-t-preserved : goal.loop-t-preserved
loop-t-preserved c =
    let x = c.t-item.result in
    let before : Sum = shift_reduced one c.args.c (sum_of (take c.loop-t.t-index c.args.a.now)) in
    let more =
    ap (shift_reduced one c.args.c) (one_more_taken c.args.a.now c.loop-t.t-index x c.t-item.is (omega arith))
    ∙ shift_reduced-append one c.args.c (sum_of (take c.loop-t.t-index c.args.a.now)) ((x.mono, x.number) ∷ [])
    ∙ ap (λ (s : Sum). shift_reduced one c.args.c (sum_of (take c.loop-t.t-index c.args.a.now)) ++ s) (scale_reduced-term c.args.c x.mono x.number) in
    ap sum_of c.in_ok-push.ensures.items
    ∙ sum_of-append c.loop-t.out.items (record { mono = x.mono; number = c.mul.result } ∷ [])
    ∙ (λ i. c.loop-t.invariant i ++ ((x.mono, c.mul.ensures i) ∷ []))
    ∙ sym more

pub returns : goal.returns
returns c =
    let some : 0 < c.args.c = pos_of_ne-zero c.requires.some in
    let all : sum_of c.loop-t.out.items ≡ shift_reduced one c.args.c (sum_of c.args.a.now) = c.loop-t.invariant ∙ ap (shift_reduced one c.args.c) (all_taken c.args.a.now c.loop-t.t-index (omega arith)) in
    subst (λ (s : Sum). IsForm s (shift one c.args.c (sum_of c.args.a.now))) (sym all) (shifted_form one c.args.c (sum_of c.args.a.now) some c.requires.below c.requires.proper)
