use Rattle.std.proofs.Common.{rules, ◌≡◌, ◌+◌, ◌-◌, ◌<◌, ◌++◌, ◌∷◌, [], true, false, length, length-append, ap, ◌∙◌, arith}
use Rattle.std.specs.Prelude.{codes}
use Rattle.std.proofs.lemmas.Result.{err_from_is_err_and}
use Rattle.git_lines.specs.Views.{rest_of_text}
use Rattle.git_lines.proofs.Loops.{with_front}
use Rattle.git_strictlines.specs.Reading.{begins_with, more_at}
use Rattle.git_listing.specs.ListingReading.{ray_line}
use Rattle.git_listing.specs.declared.limits.TheConstants.{LISTED}
use Rattle.git_strictlines.proofs.Loops.{some_fails, some_begins, many_on, many_fails, many_over, many_done, fewer}
use Rattle.git_listing.proofs.chambers.rays.Goals as goal

pub returns-in_err-first-clause-reads : goal.returns-in_err-first-clause-reads
returns-in_err-first-clause-reads c =
    let p = err_from_is_err_and c.from_residual.result c.from_residual.ensures.1 in
    rw (p.1, p.2) (some_fails (codes "ray") LISTED (ray_line c.args.k) _ _ c.in_err-first.ensures.reads)

pub loop-rays-init : goal.loop-rays-init
loop-rays-init c =
    let items : c.push.new.self.items ≡ c.in_ok-first.first ∷ [] = c.in_ok-push.ensures.items ∙ ap (λ l. l ++ c.in_ok-first.first ∷ []) c.new-rays.ensures.items in
    record {
      some = omega (arith, ap length items);
      few = omega (arith, ap length items);
      read = rw items (some_begins (codes "ray") LISTED (ray_line c.args.k) _ _ _ c.in_ok-first.ensures.reads);
      bytes = c.in_ok-first.ensures.bytes;
    }

pub returns-then-len-clause-reads : goal.returns-then-len-clause-reads
returns-then-len-clause-reads c =
    let b : begins_with (codes "ray") (rest_of_text c.loop-rays.lines) ≡ true = search rules in
    let z : LISTED - length c.loop-rays.rays.items ≡ 0 = (let n : c.len.result ≡ length c.loop-rays.rays.items = search rules in omega (arith, n, c.if-len.true)) in
    rw c.past_limit.ensures (many_over (codes "ray") (ray_line c.args.k) _ _ _ _ b z c.loop-rays.invariant.read)

pub returns-in_err-next-clause-reads : goal.returns-in_err-next-clause-reads
returns-in_err-next-clause-reads c =
    let p = err_from_is_err_and c.from_residual-in_err-next.result c.from_residual-in_err-next.ensures.1 in
    let b : begins_with (codes "ray") (rest_of_text c.loop-rays.lines) ≡ true = search rules in
    let lt : 0 < LISTED - length c.loop-rays.rays.items = (let n : c.len.result ≡ length c.loop-rays.rays.items = search rules in omega (arith, n, c.if-len.false)) in
    rw (p.1, p.2) (many_fails (codes "ray") (ray_line c.args.k) _ _ _ _ _ b lt c.in_err-next.ensures.reads c.loop-rays.invariant.read)

pub loop-rays-smaller : goal.loop-rays-smaller
loop-rays-smaller c =
    let b : begins_with (codes "ray") (rest_of_text c.loop-rays.lines) ≡ true = search rules in
    fewer (codes "ray") (ray_line c.args.k) _ _ _ _ b c.in_ok-next.ensures.reads

pub loop-rays-preserved : goal.loop-rays-preserved
loop-rays-preserved c =
    let old = c.loop-rays.rays.items in
    let items = c.in_ok-push-2.ensures.items in
    let b : begins_with (codes "ray") (rest_of_text c.loop-rays.lines) ≡ true = search rules in
    let n : c.len.result ≡ length c.loop-rays.rays.items = search rules in
    let more : length c.push-in-loop-rays.new.self.items ≡ length c.loop-rays.rays.items + 1 = omega (arith, ap length items, length-append c.loop-rays.rays.items (c.in_ok-next.next ∷ [])) in
    let lt : 0 < LISTED - length c.loop-rays.rays.items = omega (arith, n, c.if-len.false) in
    let pushed : c.push-in-loop-rays.new.self.items ≡ c.loop-rays.rays.items ++ c.in_ok-next.next ∷ [] = c.in_ok-push-2.ensures.items in
    let left : LISTED - length c.push-in-loop-rays.new.self.items ≡ LISTED - length c.loop-rays.rays.items - 1 = omega (arith, more) in
    record {
      some = omega (arith, more);
      few = omega (arith, more, lt);
      read = (λ i. with_front (pushed i) (more_at (codes "ray") (ray_line c.args.k) (left i) (rest_of_text c.vector-in-loop-rays.new.lines))) ∙ many_on (codes "ray") (ray_line c.args.k) (LISTED - length c.loop-rays.rays.items) _ _ _ (c.loop-rays.rays.items) _ b lt c.in_ok-next.ensures.reads c.loop-rays.invariant.read;
      bytes = c.in_ok-next.ensures.bytes ∙ c.loop-rays.invariant.bytes;
    }

pub returns-clause-reads : goal.returns-clause-reads
returns-clause-reads c =
    let b : begins_with (codes "ray") (rest_of_text c.loop-rays.lines) ≡ false = search rules in
    many_done (codes "ray") (ray_line c.args.k) _ _ _ _ b c.loop-rays.invariant.read
