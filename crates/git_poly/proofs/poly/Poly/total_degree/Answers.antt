use Rattle.std.proofs.Common.{sym, ◌∙◌}
use Rattle.git_algebra.proofs.Products.{total_degree-lead}
use Rattle.git_poly.proofs.TermLists.{first_some, first_none}
use Rattle.git_poly.proofs.Closing.{lead_is, is_zero, total_degree-zero}
use Rattle.git_poly.proofs.poly.Poly.total_degree.Goals as goal

pub returns-in-Some-clause-same : goal.returns-in-Some-clause-same
returns-in-Some-clause-same c =
    let x = c.in-Some.first.now in
    c.degree.ensures.same
    ∙ sym (total_degree-lead c.args.self.now (x.mono, x.number)
    (lead_is c.self.inside.terms.items c.args.self.now c.self.invariant c.self.view_is ∙ first_some c.self.inside.terms.items c.deref.result.now x c.deref.ensures.value c.in-Some.ensures.value))

pub returns-in-None-clause-same : goal.returns-in-None-clause-same
returns-in-None-clause-same c =
    sym (total_degree-zero c.args.self.now (is_zero c.self.inside.terms.items c.args.self.now c.self.invariant c.self.view_is (first_none c.self.inside.terms.items c.deref.result.now c.deref.ensures.value c.in-None.ensures.value)))
