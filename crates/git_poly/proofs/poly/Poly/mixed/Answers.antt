use Rattle.std.proofs.Common.{refl, sym, ap, ◌∙◌, subst, List}
use Rattle.std.specs.Prelude.{All}
use Rattle.git_algebra.proofs.Normal.{terms_is}
use Rattle.git_poly.specs.declared.term.Term.{Term}
use Rattle.git_poly.specs.Terms.{sum_of}
use Rattle.git_poly.specs.Degrees.{IsGradedBy, HasOneDegree, IsFirstApart}
use Rattle.git_poly.proofs.TermLists.{first_some, first_none}
use Rattle.git_poly.proofs.Parting.{graded_terms, homogeneous, none_homogeneous, one_degree, lead_monomial, apart_at}
use Rattle.git_poly.proofs.poly.Poly.mixed.Goals as goal

pub returns-in_err-lead-clause-none : goal.returns-in_err-lead-clause-none
returns-in_err-lead-clause-none c =
    let ts = c.self.inside.terms.items in
    let e = terms_is (sum_of ts) c.args.self.now c.self.invariant c.self.view_is in (
      λ _. none_homogeneous c.args.g.now.k c.args.g.now.columns c.args.self.now (e ∙ ap sum_of (first_none ts c.deref.result.now c.deref.ensures.value c.in_err-lead.ensures.value)),
      λ _. rw c.from_residual.ensures refl,
    )

pub first_apart-requires-clause-from : goal.first_apart-requires-clause-from
first_apart-requires-clause-from c =
    let ts = c.self.inside.terms.items in let x = c.in_ok-lead.lead.now in
    let e = terms_is (sum_of ts) c.args.self.now c.self.invariant c.self.view_is in
    c.requires x.mono (lead_monomial ts c.args.self.now x e (first_some ts c.deref.result.now x c.deref.ensures.value c.in_ok-lead.ensures.value))

pub first_apart-requires-clause-terms : goal.first_apart-requires-clause-terms
first_apart-requires-clause-terms c =
    let ts = c.self.inside.terms.items in let columns = c.args.g.now.columns in
    let e = terms_is (sum_of ts) c.args.self.now c.self.invariant c.self.view_is in
    subst (λ (us : List Term). All (λ t. IsGradedBy columns t.mono) us) (sym c.deref-2.ensures.value) (graded_terms columns ts c.args.self.now e c.requires)

pub returns-in_err-second-clause-none : goal.returns-in_err-second-clause-none
returns-in_err-second-clause-none c =
    let ts = c.self.inside.terms.items in let k = c.args.g.now.k in let columns = c.args.g.now.columns in
    let x = c.in_ok-lead.lead.now in
    let e = terms_is (sum_of ts) c.args.self.now c.self.invariant c.self.view_is in
    let one : HasOneDegree k columns x.mono ts = subst (HasOneDegree k columns x.mono) c.deref-2.ensures.value (c.in_err-second.ensures.none.0 refl) in (
      λ _. homogeneous k columns x.mono ts c.args.self.now e one,
      λ _. rw c.from_residual-in_err-second.ensures refl,
    )

pub returns-clause-none : goal.returns-clause-none
returns-clause-none c =
    let ts = c.self.inside.terms.items in let k = c.args.g.now.k in let columns = c.args.g.now.columns in
    let x = c.in_ok-lead.lead.now in
    let e = terms_is (sum_of ts) c.args.self.now c.self.invariant c.self.view_is in
    let lead = lead_monomial ts c.args.self.now x e (first_some ts c.deref.result.now x c.deref.ensures.value c.in_ok-lead.ensures.value) in (
      λ w. cc w,
      λ same. c.in_ok-second.ensures.none.1 (subst (HasOneDegree k columns x.mono) (sym c.deref-2.ensures.value) (one_degree k columns x.mono ts c.args.self.now e lead same)),
    )

pub returns-clause-some : goal.returns-clause-some
returns-clause-some c =
    let ts = c.self.inside.terms.items in let k = c.args.g.now.k in let columns = c.args.g.now.columns in
    let x = c.in_ok-lead.lead.now in
    let e = terms_is (sum_of ts) c.args.self.now c.self.invariant c.self.view_is in
    apart_at k columns x.mono c.in_ok-second.second x.number ts c.args.self.now e c.self.invariant
    (first_some ts c.deref.result.now x c.deref.ensures.value c.in_ok-lead.ensures.value)
    (subst (λ (us : List Term). IsFirstApart k columns x.mono us c.in_ok-second.second) c.deref-2.ensures.value c.in_ok-second.ensures.some)
