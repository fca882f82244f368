use Rattle.std.proofs.Common.{rules, ◌≡◌, ◌+◌, ◌-◌, ◌<◌, Bool, false, true, length, set, Some, sym, ap, ◌∙◌, subst, arith}
use Rattle.std.specs.Prelude.{slice_get}
use Rattle.git_walk.specs.Walks.{Marks}
use Rattle.git_walk.proofs.WalkLemmas.{got_is}
use Rattle.git_walk.proofs.WalkLemmas.{marks_one}
use Rattle.git_walk.proofs.walk.mark.Goals as goal

pub returns : goal.returns
returns c =
    let place = c.args.number - 1 in
    let m = c.args.marks.now.items in
    let len : c.len.result ≡ length m = search rules in
    let lt : place < length m = omega (arith, len, c.if-place-len.false) in
    let free : slice_get m place ≡ Some false = got_is m place c.index.result.now lt c.index.ensures ∙ ap (λ (b : Bool). Some b) c.if-index.false in
    subst (λ x. Marks (λ i. c.args.number ≡ i + 1) m (set m place true) c.args.pending.now.items x) (sym c.in_ok-push.ensures.items)
    (marks_one (λ i. c.args.number ≡ i + 1) m c.args.pending.now.items place lt free (λ i e. omega (arith, e)) (omega (arith, c.if-number-eq0.false)))
