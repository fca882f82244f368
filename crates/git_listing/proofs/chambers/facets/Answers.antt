use Rattle.std.proofs.Common.{rules, ◌≡◌, ◌+◌, ◌-◌, ◌<◌, ◌++◌, ◌∷◌, [], true, false, length, map, length-append, ap, ◌∙◌, arith}
use Rattle.std.specs.Prelude.{codes}
use Rattle.std.proofs.lemmas.Result.{err_from_is_err_and}
use Rattle.std.proofs.lemmas.List.{map_push}
use Rattle.git_lines.specs.Views.{rest_of_text}
use Rattle.git_lines.proofs.Loops.{with_front}
use Rattle.git_strictlines.specs.Reading.{begins_with, more_at}
use Rattle.git_listing.specs.ListingReading.{facet_line}
use Rattle.git_listing.specs.declared.limits.TheConstants.{LISTED}
use Rattle.git_listing.specs.Views.{facet_of}
use Rattle.git_strictlines.proofs.Loops.{some_fails, some_begins, many_on, many_fails, many_over, many_done, fewer}
use Rattle.git_listing.proofs.chambers.facets.Goals as goal

pub returns-in_err-first-clause-reads : goal.returns-in_err-first-clause-reads
returns-in_err-first-clause-reads c =
    let p = err_from_is_err_and c.from_residual.result c.from_residual.ensures.1 in
    rw (p.1, p.2) (some_fails (codes "facet") LISTED (facet_line c.args.version c.args.k) _ _ c.in_err-first.ensures.reads)

pub loop-facets-init : goal.loop-facets-init
loop-facets-init c =
    let items : c.push.new.self.items ≡ c.in_ok-first.first ∷ [] = c.in_ok-push.ensures.items ∙ ap (λ l. l ++ c.in_ok-first.first ∷ []) c.new-facets.ensures.items in
    record {
      some = omega (arith, ap length items);
      few = omega (arith, ap length items);
      read = rw items (some_begins (codes "facet") LISTED (facet_line c.args.version c.args.k) _ _ _ c.in_ok-first.ensures.reads);
      bytes = c.in_ok-first.ensures.bytes;
    }

pub returns-then-len-clause-reads : goal.returns-then-len-clause-reads
returns-then-len-clause-reads c =
    let b : begins_with (codes "facet") (rest_of_text c.loop-facets.lines) ≡ true = search rules in
    let z : LISTED - length c.loop-facets.facets.items ≡ 0 = (let n : c.len.result ≡ length c.loop-facets.facets.items = search rules in omega (arith, n, c.if-len.true)) in
    rw c.past_limit.ensures (many_over (codes "facet") (facet_line c.args.version c.args.k) _ _ _ _ b z c.loop-facets.invariant.read)

pub returns-in_err-next-clause-reads : goal.returns-in_err-next-clause-reads
returns-in_err-next-clause-reads c =
    let p = err_from_is_err_and c.from_residual-in_err-next.result c.from_residual-in_err-next.ensures.1 in
    let b : begins_with (codes "facet") (rest_of_text c.loop-facets.lines) ≡ true = search rules in
    let lt : 0 < LISTED - length c.loop-facets.facets.items = (let n : c.len.result ≡ length c.loop-facets.facets.items = search rules in omega (arith, n, c.if-len.false)) in
    rw (p.1, p.2) (many_fails (codes "facet") (facet_line c.args.version c.args.k) _ _ _ _ _ b lt c.in_err-next.ensures.reads c.loop-facets.invariant.read)

pub loop-facets-smaller : goal.loop-facets-smaller
loop-facets-smaller c =
    let b : begins_with (codes "facet") (rest_of_text c.loop-facets.lines) ≡ true = search rules in
    fewer (codes "facet") (facet_line c.args.version c.args.k) _ _ _ _ b c.in_ok-next.ensures.reads

pub loop-facets-preserved : goal.loop-facets-preserved
loop-facets-preserved c =
    let old = c.loop-facets.facets.items in
    let items = c.in_ok-push-2.ensures.items in
    let b : begins_with (codes "facet") (rest_of_text c.loop-facets.lines) ≡ true = search rules in
    let n : c.len.result ≡ length c.loop-facets.facets.items = search rules in
    let more : length c.push-in-loop-facets.new.self.items ≡ length c.loop-facets.facets.items + 1 = omega (arith, ap length items, length-append c.loop-facets.facets.items (c.in_ok-next.next ∷ [])) in
    let lt : 0 < LISTED - length c.loop-facets.facets.items = omega (arith, n, c.if-len.false) in
    let pushed : map facet_of c.push-in-loop-facets.new.self.items ≡ map facet_of c.loop-facets.facets.items ++ facet_of c.in_ok-next.next ∷ [] = ap (map facet_of) c.in_ok-push-2.ensures.items ∙ map_push facet_of c.loop-facets.facets.items c.in_ok-next.next in
    let left : LISTED - length c.push-in-loop-facets.new.self.items ≡ LISTED - length c.loop-facets.facets.items - 1 = omega (arith, more) in
    record {
      some = omega (arith, more);
      few = omega (arith, more, lt);
      read = (λ i. with_front (pushed i) (more_at (codes "facet") (facet_line c.args.version c.args.k) (left i) (rest_of_text c.facet-in-loop-facets.new.lines))) ∙ many_on (codes "facet") (facet_line c.args.version c.args.k) (LISTED - length c.loop-facets.facets.items) _ _ _ (map facet_of c.loop-facets.facets.items) _ b lt c.in_ok-next.ensures.reads c.loop-facets.invariant.read;
      bytes = c.in_ok-next.ensures.bytes ∙ c.loop-facets.invariant.bytes;
    }

pub returns-clause-reads : goal.returns-clause-reads
returns-clause-reads c =
    let b : begins_with (codes "facet") (rest_of_text c.loop-facets.lines) ≡ false = search rules in
    many_done (codes "facet") (facet_line c.args.version c.args.k) _ _ _ _ b c.loop-facets.invariant.read
