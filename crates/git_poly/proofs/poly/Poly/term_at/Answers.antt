use Rattle.std.proofs.Common.{rules, ap, sym, ◌∙◌, ◌≡◌, length, arith, ◌<◌}
use Rattle.std.specs.Prelude.{slice_get}
use Rattle.git_algebra.specs.Sums.{Sum}
use Rattle.git_algebra.proofs.Normal.{terms_is}
use Rattle.git_poly.proofs.TermLists.{length-sum_of, term_of_sum}
use Rattle.git_poly.proofs.poly.Poly.term_at.Goals as goal

pub index-term-requires : goal.index-term-requires
index-term-requires c =
    let same : length c.self.inside.terms.items ≡ length c.args.self.now.terms = sym (length-sum_of c.self.inside.terms.items) ∙ ap length (sym (terms_is _ _ c.self.invariant c.self.view_is)) in
    let within : c.args.i < length c.self.inside.terms.items = omega arith in
    search (rules, within)

pub returns : goal.returns
returns c =
    let same : length c.self.inside.terms.items ≡ length c.args.self.now.terms = sym (length-sum_of c.self.inside.terms.items) ∙ ap length (sym (terms_is _ _ c.self.invariant c.self.view_is)) in
    ap (λ (s : Sum). slice_get s c.args.i) (terms_is _ _ c.self.invariant c.self.view_is) ∙ term_of_sum c.self.inside.terms.items c.args.i c.index-term.result.now c.index-term.ensures (omega arith)
