use Rattle.git_bunch.proofs.Columns.{canon_seen}
use Rattle.git_bunch.proofs.keys.key_of.Goals as goal

pub returns-clause-canon : goal.returns-clause-canon
returns-clause-canon c = canon_seen c.args.k _ c.args.cone.now c.cone.view_is c.requires.entries c.cone.invariant.canon
