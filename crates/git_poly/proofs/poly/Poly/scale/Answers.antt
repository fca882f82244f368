use Rattle.std.proofs.Common.{ap, sym, ◌∙◌, ◌≡◌}
use Rattle.git_algebra.specs.Operations.{scaled}
use Rattle.git_algebra.proofs.Ring.{scaled-zero}
use Rattle.git_poly.proofs.TermLists.{held_terms}
use Rattle.git_poly.proofs.Closing.{form_is_scaled}
use Rattle.git_poly.proofs.poly.Poly.scale.Goals as goal

pub returns-then-value-eq0 : goal.returns-then-value-eq0
returns-then-value-eq0 c =
    let none : c.args.c ≡ 0 = sym c.value.ensures.same ∙ c.if-value-eq0.true in
    c.zero.ensures ∙ sym (scaled-zero c.args.self.now) ∙ ap (λ n. scaled n c.args.self.now) (sym none)

pub returns : goal.returns
returns c = form_is_scaled _ _ _ _ (held_terms c.self.inside.terms.items c.deref.result.now c.args.self.now c.self.invariant c.self.view_is c.deref.ensures.value) c.in_ok-terms.ensures
