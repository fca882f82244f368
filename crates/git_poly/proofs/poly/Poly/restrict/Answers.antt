use Rattle.std.proofs.Common.{rules, ◌≡◌, ◌∙◌, ap}
use Rattle.git_algebra.specs.Operations.{restricted}
use Rattle.git_poly.proofs.TermLists.{held_terms}
use Rattle.git_poly.proofs.Closing.{form_is_restricted}
use Rattle.git_poly.proofs.poly.Poly.restrict.Goals as goal

pub returns : goal.returns
returns c =
    let same : c.from.result ≡ c.args.mask = search rules in
    form_is_restricted _ _ _ _ (held_terms c.self.inside.terms.items c.deref.result.now c.args.self.now c.self.invariant c.self.view_is c.deref.ensures.value) c.in_ok-terms.ensures
    ∙ ap (λ (m : _). restricted m c.args.self.now) same
