use Rattle.std.proofs.Common.{refl, sym, ap, ◌∙◌, ◌≡◌, [], List, Some}
use Rattle.std.proofs.lemmas.List.{nil_from_length}
use Rattle.git_algebra.specs.Operations.{first_term}
use Rattle.git_poly.specs.declared.term.Term.{Term}
use Rattle.git_poly.specs.Terms.{sum_of}
use Rattle.git_poly.proofs.TermLists.{first_some, first_none}
use Rattle.git_poly.proofs.Closing.{is_zero, is_not_zero, lead_is}
use Rattle.git_poly.proofs.poly.Poly.lead.Goals as goal

pub returns-in_err-first-clause-none : goal.returns-in_err-first-clause-none
returns-in_err-first-clause-none c = (
  λ _. is_zero c.self.inside.terms.items c.args.self.now c.self.invariant c.self.view_is (first_none c.self.inside.terms.items c.deref.result.now c.deref.ensures.value c.in_err-first.ensures.value),
  λ _. rw c.from_residual.ensures refl,
)

pub returns-in_err-first-clause-lead : goal.returns-in_err-first-clause-lead
returns-in_err-first-clause-lead c =
    let none : c.self.inside.terms.items ≡ [] = first_none c.self.inside.terms.items c.deref.result.now c.deref.ensures.value c.in_err-first.ensures.value in
    c.from_residual.ensures ∙ sym (lead_is c.self.inside.terms.items c.args.self.now c.self.invariant c.self.view_is ∙ ap (λ (ts : List Term). first_term (sum_of ts)) none)

pub returns-clause-none : goal.returns-clause-none
returns-clause-none c =
    let x = c.in_ok-first.first.now in
    let some : first_term (sum_of c.self.inside.terms.items) ≡ Some (x.mono, x.number) = first_some c.self.inside.terms.items c.deref.result.now x c.deref.ensures.value c.in_ok-first.ensures.value in (
      λ w. cc,
      λ z.
          let none : c.self.inside.terms.items ≡ [] = nil_from_length _ (is_not_zero c.self.inside.terms.items c.args.self.now c.self.invariant c.self.view_is z) in
          let clash : first_term [] ≡ Some (x.mono, x.number) = sym (ap (λ (ts : List Term). first_term (sum_of ts)) none) ∙ some in
          cc,
    )

pub returns-clause-lead : goal.returns-clause-lead
returns-clause-lead c =
    sym (lead_is c.self.inside.terms.items c.args.self.now c.self.invariant c.self.view_is
    ∙ first_some c.self.inside.terms.items c.deref.result.now c.in_ok-first.first.now c.deref.ensures.value c.in_ok-first.ensures.value)
