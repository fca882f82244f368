use Rattle.std.proofs.Common.{ap, refl, sym, subst, ◌∙◌, arith, ◌≡◌, ◌++◌, ◌∷◌, [], drop, List, inl, inr}
use Rattle.std.proofs.lemmas.List.{take_rest}
use Rattle.git_poly.specs.declared.term.Term.{Term}
use Rattle.std.specs.Cmp.{ranked}
use Rattle.std.specs.declared.cmp.Ordering.TheVariants.{Less, Equal, Greater}
use Rattle.git_algebra.specs.Order.{rank}
use Rattle.git_algebra.specs.Sums.{Sum}
use Rattle.git_poly.specs.Terms.{sum_of, IsForm}
use Rattle.git_poly.proofs.TermLists.{sum_of-append, next_term, none_left}
use Rattle.git_poly.proofs.Merging.{merging_left, merging_right, merging_sum, merged_one, moved}
use Rattle.git_poly.proofs.terms.merged.Goals as goal
use Rattle.git_poly.proofs.terms.merged.Goals.{then-merging-test+else-j-b, else-merging-test}

pub merging-preserved-in-Greater : goal.merging-preserved-in-Greater
merging-preserved-in-Greater c =
    let now = c.merging.invariant in
    let a = next_term c.args.a.now c.merging.i c.index-a-i.result c.index-a-i.is (omega arith) in
    let b = next_term c.args.b.now c.merging.j c.index-b-j.result c.index-b-j.is (omega arith) in
    let out = ap sum_of c.in_ok-push-in-Greater.ensures.items ∙ sum_of-append c.merging.out.items (c.index-a-i.result ∷ []) in
    record {
      left_in = omega arith;
      right_in = now.right_in;
      so_far = moved (sym out) refl (sym b) (merging_left _ _ _ _ _ _ _ (moved refl a b now.so_far) (ranked _ _ Greater c.in-Greater.ensures));
    }

pub merging-preserved-in-Less : goal.merging-preserved-in-Less
merging-preserved-in-Less c =
    let now = c.merging.invariant in
    let a = next_term c.args.a.now c.merging.i c.index-a-i.result c.index-a-i.is (omega arith) in
    let b = next_term c.args.b.now c.merging.j c.index-b-j.result c.index-b-j.is (omega arith) in
    let out = ap sum_of c.in_ok-push-in-Less.ensures.items ∙ sum_of-append c.merging.out.items (c.index-b-j.result ∷ []) in
    record {
      left_in = now.left_in;
      right_in = omega arith;
      so_far = moved (sym out) (sym a) refl (merging_right _ _ _ _ _ _ _ (moved refl a b now.so_far) (ranked _ _ Less c.in-Less.ensures));
    }

pub merging-preserved : goal.merging-preserved
merging-preserved c =
    let now = c.merging.invariant in
    let x = c.index-a-i.result in
    let y = c.index-b-j.result in
    let a = next_term c.args.a.now c.merging.i x c.index-a-i.is (omega arith) in
    let b = next_term c.args.b.now c.merging.j y c.index-b-j.is (omega arith) in
    let same : rank x.mono ≡ rank y.mono = ranked _ _ Equal c.in-Equal.ensures in
    record {
      left_in = omega arith;
      right_in = omega arith;
      so_far = moved (sym c.in_ok-push_term-in-Equal.ensures) refl refl (merging_sum _ _ _ (x.mono, x.number) (y.mono, y.number) c.add.result _ _ (moved refl a b now.so_far) same c.add.ensures);
    }

pub returns : goal.returns
returns c =
    let now = c.merging.invariant in
    let first : c.extend_from_slice.new.self.items ≡ c.merging.out.items ++ drop c.merging.i c.args.a.now = c.in_ok-extend_from_slice.ensures.items ∙ ap (λ (ts : List Term). c.merging.out.items ++ ts) (take_rest c.args.a.now c.merging.i) in
    let second : c.extend_from_slice-2.new.self.items ≡ c.extend_from_slice.new.self.items ++ drop c.merging.j c.args.b.now = c.in_ok-extend_from_slice-2.ensures.items ∙ ap (λ (ts : List Term). c.extend_from_slice.new.self.items ++ ts) (take_rest c.args.b.now c.merging.j) in
    let out = ap sum_of second ∙ sum_of-append c.extend_from_slice.new.self.items (drop c.merging.j c.args.b.now) ∙ (λ k. (ap sum_of first ∙ sum_of-append c.merging.out.items (drop c.merging.i c.args.a.now)) k ++ sum_of (drop c.merging.j c.args.b.now)) in
    subst (λ (s : Sum). IsForm s (sum_of c.args.a.now ++ sum_of c.args.b.now)) (sym out)
    (merged_one _ _ _ _ _ now.so_far (elim c.merging-test.branch [
      | then-merging-test+else-j-b w ↦ inr (none_left c.args.b.now c.merging.j w.if-j-b.false)
      | else-merging-test w ↦ inl (none_left c.args.a.now c.merging.i w.merging-test.false)
    ]))
