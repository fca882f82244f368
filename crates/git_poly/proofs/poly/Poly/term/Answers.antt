use Rattle.std.proofs.Common.{refl, sym, ap, ◌∙◌, Vec, Global}
use Rattle.git_algebra.specs.Polynomials.{normal}
use Rattle.git_algebra.specs.Operations.{zero_polynomial, term_of}
use Rattle.git_algebra.proofs.Ring.{term_of-zero}
use Rattle.git_poly.specs.declared.term.Term.{Term}
use Rattle.git_poly.specs.Terms.{sum_of}
use Rattle.git_poly.proofs.poly.Poly.term.Goals as goal
use Rattle.git_poly.proofs.poly.Poly.term.Goals.{then-value-ne0+in_ok-push, else-value-ne0}

pub returns : goal.returns
unfolding zero_polynomial term_of
returns c = elim c.if-value-ne0.branch [
  | then-value-ne0+in_ok-push w ↦
      ap (λ (v : Vec Term Global). normal (sum_of v.items)) w.terms-is
      ∙ (rw (w.in_ok-push.ensures.items, c.new-terms.ensures.items) refl)
  | else-value-ne0 w ↦
      ap (λ (v : Vec Term Global). normal (sum_of v.items)) w.terms-is
      ∙ (rw c.new-terms.ensures.items refl)
      ∙ sym (term_of-zero c.args.m)
      ∙ ap (term_of c.args.m) (sym (sym c.value.ensures.same ∙ w.if-value-ne0.false))
]
