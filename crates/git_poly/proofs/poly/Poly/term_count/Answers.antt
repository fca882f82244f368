use Rattle.std.proofs.Common.{rules, ap, sym, ◌∙◌, ◌≡◌, length}
use Rattle.git_algebra.proofs.Normal.{terms_is}
use Rattle.git_poly.proofs.TermLists.{length-sum_of}
use Rattle.git_poly.proofs.poly.Poly.term_count.Goals as goal

pub returns : goal.returns
returns c =
    let same : length c.self.inside.terms.items ≡ length c.args.self.now.terms = sym (length-sum_of c.self.inside.terms.items) ∙ ap length (sym (terms_is _ _ c.self.invariant c.self.view_is)) in
    search (rules, same)
