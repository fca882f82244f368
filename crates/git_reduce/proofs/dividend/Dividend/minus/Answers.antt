use Rattle.std.proofs.Common.{arith, subst, Option, ◌≡◌}
use Rattle.std.specs.Prelude.{IfSome}
use Rattle.git_algebra.specs.Exponents.{Exponents, times}
use Rattle.git_algebra.proofs.Monomials.{degree-times}
use Rattle.git_lemmas.proofs.Options.{some_unless_none}
use Rattle.git_reduce.proofs.TermMaps.{one_multiplied, multiplied_whole, degree_at}
use Rattle.git_reduce.proofs.dividend.Dividend.minus.Goals as goal

pub unwrap-product-requires : goal.unwrap-product-requires
unwrap-product-requires c =
    let t = c.term_at-term.result in
    some_unless_none c.times.result (λ none. omega (arith, c.times.ensures.none.0 none, degree-times c.args.m.now t.0, degree_at c.args.g.now.terms c.loop-i.i t c.term_at-term.ensures, c.requires))

pub loop-i-preserved : goal.loop-i-preserved
loop-i-preserved c = record {
  numbers = c.in_ok-add_term.ensures.numbers;
  so_far = one_multiplied c.self.inside.terms.entries c.args.g.now.terms c.args.m.now c.neg-negative.result c.loop-i.i c.term_at-term.result (c.unwrap-product.result, c.mul.result) c.loop-i.terms.entries c.add_term.new.terms.entries
      c.term_at-term.ensures (subst (λ (o : Option Exponents). IfSome o (λ m. m ≡ times c.args.m.now c.term_at-term.result.0)) c.unwrap-product.ensures c.times.ensures.some) c.mul.ensures c.in_ok-add_term.ensures.sum c.loop-i.invariant.so_far;
}

pub returns : goal.returns
returns c = multiplied_whole c.loop-i.terms.entries c.self.inside.terms.entries c.loop-i.i c.args.self c.args.g.now c.args.m.now c.args.c c.neg-negative.result (omega (arith, c.term_count-i-end.ensures, c.loop-i-test.false)) c.loop-i.invariant.so_far c.self.view_is c.neg-negative.ensures (omega arith)
