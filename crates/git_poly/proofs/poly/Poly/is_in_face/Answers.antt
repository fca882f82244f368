use Rattle.std.proofs.Common.{◌↔◌, All, IsTrue, subst, sym}
use Rattle.git_algebra.specs.Exponents.{in_face}
use Rattle.git_algebra.specs.Sums.{Sum}
use Rattle.git_poly.proofs.TermLists.{held_terms}
use Rattle.git_poly.proofs.poly.Poly.is_in_face.Goals as goal

pub returns : goal.returns
returns c = subst (λ (s : Sum). IsTrue c.are_in_face.result ↔ All (λ t. IsTrue (in_face c.args.mask t.0)) s)
    (sym (held_terms c.self.inside.terms.items c.deref.result.now c.args.self.now c.self.invariant c.self.view_is c.deref.ensures.value)) c.are_in_face.ensures
