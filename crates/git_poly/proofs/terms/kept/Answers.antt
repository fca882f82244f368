use Rattle.std.proofs.Common.{sym, ap, subst, ◌∙◌, ◌≡◌, ◌++◌, ◌∷◌, [], arith, take, true, false, Vec, Global}
use Rattle.std.specs.Prelude.{filter}
use Rattle.git_algebra.specs.Exponents.{in_face}
use Rattle.git_algebra.specs.Sums.{Sum}
use Rattle.git_poly.specs.declared.term.Term.{Term}
use Rattle.git_poly.specs.Terms.{sum_of, IsForm}
use Rattle.git_poly.proofs.TermLists.{sum_of-append, one_more_taken, all_taken}
use Rattle.git_poly.proofs.Faces.{kept_form, kept_once}
use Rattle.git_poly.proofs.terms.kept.Goals as goal
use Rattle.git_poly.proofs.terms.kept.Goals.{then-is_in_face+in_ok-push, else-is_in_face}

pub loop-t-preserved : goal.loop-t-preserved
loop-t-preserved c =
    let x = c.t-item.result in
    let before : Sum = sum_of (take c.loop-t.t-index c.args.a.now) in
    let more = ap (filter (λ t. in_face c.args.mask t.0)) (one_more_taken c.args.a.now c.loop-t.t-index x c.t-item.is (omega arith)) in
    elim c.if-is_in_face.branch [
      | then-is_in_face+in_ok-push w ↦
          ap (λ (v : Vec Term Global). sum_of v.items) w.out-is
          ∙ ap sum_of w.in_ok-push.ensures.items
          ∙ sum_of-append c.loop-t.out.items (x ∷ [])
          ∙ (λ i. c.loop-t.invariant i ++ ((x.mono, x.number) ∷ []))
          ∙ sym (kept_once c.args.mask before (x.mono, x.number) true (sym c.is_in_face.ensures ∙ w.if-is_in_face.true))
          ∙ sym more
      | else-is_in_face w ↦
          ap (λ (v : Vec Term Global). sum_of v.items) w.out-is
          ∙ c.loop-t.invariant
          ∙ sym (kept_once c.args.mask before (x.mono, x.number) false (sym c.is_in_face.ensures ∙ w.if-is_in_face.false))
          ∙ sym more
    ]

pub returns : goal.returns
returns c =
    let all : sum_of c.loop-t.out.items ≡ filter (λ t. in_face c.args.mask t.0) (sum_of c.args.a.now) = c.loop-t.invariant ∙ ap (filter (λ t. in_face c.args.mask t.0)) (all_taken c.args.a.now c.loop-t.t-index (omega arith)) in
    subst (λ (s : Sum). IsForm s (filter (λ t. in_face c.args.mask t.0) (sum_of c.args.a.now))) (sym all) (kept_form c.args.mask (sum_of c.args.a.now) c.requires)
