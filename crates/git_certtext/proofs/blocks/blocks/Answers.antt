use Rattle.std.proofs.Common.{map, ◌≡◌, ◌++◌, ◌∷◌, [], ◌∙◌}
use Rattle.std.proofs.lemmas.Result.{err_from_is_err_and}
use Rattle.std.proofs.lemmas.List.{map_push}
use Rattle.git_lines.proofs.Loops.{goes_on, is_done}
use Rattle.git_strictlines.proofs.Loops.{fails_at}
use Rattle.git_certtext.specs.Blocks.{block_of}
use Rattle.git_certtext.proofs.blocks.blocks.Goals as goal

pub returns-in_err-next-clause-reads : goal.returns-in_err-next-clause-reads
returns-in_err-next-clause-reads c =
    let p = err_from_is_err_and c.from_residual.result c.from_residual.ensures.1 in
    rw (p.1, p.2) (fails_at _ (map block_of c.loop-i.made.items) c.args.count c.loop-i._i _ _ _ c.loop-i-test.true c.in_err-next.ensures.reads c.loop-i.invariant.read)

pub loop-i-preserved : goal.loop-i-preserved
loop-i-preserved c =
    let next = c.in_ok-next.next in
    let pushed : map block_of c.push.new.self.items ≡ map block_of c.loop-i.made.items ++ block_of next ∷ [] = rw c.in_ok-push.ensures.items (map_push _ c.loop-i.made.items next) in
    record {
      read = rw pushed (goes_on _ (map block_of c.loop-i.made.items) c.args.count c.loop-i._i _ (block_of next) _ _ c.loop-i-test.true c.in_ok-next.ensures.reads c.loop-i.invariant.read);
      bytes = c.in_ok-next.ensures.bytes ∙ c.loop-i.invariant.bytes;
    }

pub returns-clause-reads : goal.returns-clause-reads
returns-clause-reads c = is_done _ (map block_of c.loop-i.made.items) c.args.count c.loop-i._i _ _ c.loop-i-test.false c.loop-i.invariant.read
