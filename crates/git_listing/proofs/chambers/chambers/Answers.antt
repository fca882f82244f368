use Rattle.std.proofs.Common.{ℕ, Ok, map, ◌≡◌, ◌+◌, ◌++◌, ◌∷◌, [], ap, ◌∙◌, arith}
use Rattle.std.proofs.lemmas.Result.{err_from_is_err_and}
use Rattle.std.proofs.lemmas.List.{map_push}
use Rattle.git_lines.proofs.Loops.{goes_on, is_done}
use Rattle.git_lines.specs.Views.{rest_of_text}
use Rattle.git_listing.specs.Views.{chamber_of}
use Rattle.git_strictlines.proofs.Loops.{fails_at}
use Rattle.git_listing.proofs.chambers.chambers.Goals as goal

pub returns-in_err-next-clause-reads : goal.returns-in_err-next-clause-reads
returns-in_err-next-clause-reads c =
    let p = err_from_is_err_and c.from_residual-in_err-next.result c.from_residual-in_err-next.ensures.1 in
    rw (p.1, p.2) (fails_at _ (map chamber_of c.loop-i.chambers.items) c.args.count c.loop-i.i _ _ _ c.loop-i-test.true c.in_err-next.ensures.reads c.loop-i.invariant.read)

pub loop-i-preserved : goal.loop-i-preserved
loop-i-preserved c =
    let next = c.in_ok-next.next in
    let pushed : map chamber_of c.push.new.self.items ≡ map chamber_of c.loop-i.chambers.items ++ chamber_of next ∷ [] = rw c.in_ok-push.ensures.items (map_push _ c.loop-i.chambers.items next) in
    record {
      read = rw pushed (goes_on _ (map chamber_of c.loop-i.chambers.items) c.args.count c.loop-i.i _ (chamber_of next) _ _ c.loop-i-test.true c.in_ok-next.ensures.reads c.loop-i.invariant.read);
      bytes = c.in_ok-next.ensures.bytes ∙ c.loop-i.invariant.bytes;
    }

pub returns-clause-reads : goal.returns-clause-reads
returns-clause-reads c =
    let all : c.loop-i.i ≡ c.args.count = omega (arith, c.loop-i-test.false, c.loop-i.auto.i-end) in
    is_done _ (map chamber_of c.loop-i.chambers.items) c.args.count c.loop-i.i _ _ c.loop-i-test.false c.loop-i.invariant.read
    ∙ ap (λ (n : ℕ). Ok (map chamber_of c.loop-i.chambers.items, record { number = n + 1; text = rest_of_text c.loop-i.lines })) all
