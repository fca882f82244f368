use Rattle.std.proofs.Common.{rules, ◌≡◌, ◌≢◌, get_or, sym, ap, ◌∙◌, arith, inl, inr}
use Rattle.std.specs.Cmp.Rules.{comparing}
use Rattle.std.proofs.lemmas.Bool.{cases_eq}
use Rattle.git_poly.specs.declared.term.Term.{Term}
use Rattle.git_poly.specs.Degrees.{degree_under}
use Rattle.git_poly.proofs.Parting.{same_at, same_unless_ne}
use Rattle.git_poly.proofs.degrees.first_apart.Goals as goal

pub returns-then-ne-clause-none : goal.returns-then-ne-clause-none
returns-then-ne-clause-none c =
    let apart : c.degree_of-own.result ≢ c.degree_of-degree.result = search (comparing, rules) in (
      λ w. cc w,
      λ one. absurd (apart (c.degree_of-own.ensures ∙ ap (λ (t : Term). degree_under c.args.g.now.k c.args.g.now.columns t.mono) c.t-item.is ∙ one c.loop-t.t-index c.t-item.result c.loop-t-test.true ∙ sym c.degree_of-degree.ensures)),
    )

pub returns-then-ne-clause-some : goal.returns-then-ne-clause-some
returns-then-ne-clause-some c =
    let apart : c.degree_of-own.result ≢ c.degree_of-degree.result = search (comparing, rules) in
    record {
      place = c.loop-t.t-index;
      within = c.loop-t-test.true;
      is = λ d. ap (λ (t : Term). t.mono) (same_at c.args.terms.now c.loop-t.t-index d c.t-item.result c.loop-t-test.true ∙ sym c.t-item.is);
      apart = λ e. apart (c.degree_of-own.ensures ∙ e ∙ sym c.degree_of-degree.ensures);
      before = c.loop-t.invariant;
    }

pub loop-t-preserved : goal.loop-t-preserved
loop-t-preserved c =
    let same : c.degree_of-own.result ≡ c.degree_of-degree.result = same_unless_ne c.ne.result _ _ c.ne.ensures c.if-ne.false in
    λ j d h. elim (cases_eq j c.loop-t.t-index) [
      | inl here ↦ ap (λ (n : _). degree_under c.args.g.now.k c.args.g.now.columns (get_or c.args.terms.now n d).mono) here
          ∙ ap (λ (t : Term). degree_under c.args.g.now.k c.args.g.now.columns t.mono) (same_at c.args.terms.now c.loop-t.t-index d c.t-item.result c.loop-t-test.true ∙ sym c.t-item.is)
          ∙ sym c.degree_of-own.ensures ∙ same ∙ c.degree_of-degree.ensures
      | inr there ↦ c.loop-t.invariant j d (omega arith)
    ]
