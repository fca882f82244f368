use Rattle.std.proofs.Common.{◌≡◌, refl, true, get_or, sym, ap, ◌∙◌, arith, inl, inr}
use Rattle.std.proofs.lemmas.Bool.{cases_eq}
use Rattle.git_algebra.specs.Exponents.{in_face}
use Rattle.git_poly.specs.declared.term.Term.{Term}
use Rattle.git_poly.proofs.Faces.{all_terms, each_term}
use Rattle.git_poly.proofs.Parting.{same_at}
use Rattle.git_poly.proofs.terms.are_in_face.Goals as goal

pub returns-then-not-is_in_face : goal.returns-then-not-is_in_face
returns-then-not-is_in_face c = (
  λ w. cc w,
  λ all.
      let inside : in_face c.args.mask c.t-item.result.mono ≡ true = each_term (λ m. in_face c.args.mask m ≡ true) c.args.a.now all c.loop-t.t-index c.t-item.result c.t-item.is c.loop-t-test.true in
      absurd (cc (inside, c.is_in_face.ensures, c.if-not-is_in_face.true)),
)

pub loop-t-preserved : goal.loop-t-preserved
loop-t-preserved c =
    let inside : in_face c.args.mask c.t-item.result.mono ≡ true = cc (c.is_in_face.ensures, c.if-not-is_in_face.false) in
    λ j d h. elim (cases_eq j c.loop-t.t-index) [
      | inl here ↦ ap (λ (n : _). in_face c.args.mask (get_or c.args.a.now n d).mono) here
          ∙ ap (λ (t : Term). in_face c.args.mask t.mono) (same_at c.args.a.now c.loop-t.t-index d c.t-item.result c.loop-t-test.true ∙ sym c.t-item.is)
          ∙ inside
      | inr there ↦ c.loop-t.invariant j d (omega arith)
    ]

pub returns : goal.returns
returns c = (
  λ w. all_terms (λ m. in_face c.args.mask m ≡ true) c.args.a.now (λ j d h. c.loop-t.invariant j d (omega arith)),
  λ w. refl,
)
