use Rattle.git_poly.proofs.TermLists.{held_terms}
use Rattle.git_poly.proofs.Closing.{form_is_plus}
use Rattle.git_poly.proofs.poly.Poly.add.Goals as goal

pub returns : goal.returns
returns c = form_is_plus _ _ _ _ _ (held_terms c.self.inside.terms.items c.deref.result.now c.args.self.now c.self.invariant c.self.view_is c.deref.ensures.value) (held_terms c.o.inside.terms.items c.deref-2.result.now c.args.o.now c.o.invariant c.o.view_is c.deref-2.ensures.value) c.in_ok-terms.ensures
