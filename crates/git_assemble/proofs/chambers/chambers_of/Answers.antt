use Rattle.std.proofs.Common.{Some, ◌∙◌, ap, sym}
use Rattle.std.proofs.lemmas.Option.{slice_get-get_or}
use Rattle.git_assemble.proofs.Founds.{good_before}
use Rattle.git_assemble.proofs.chambers.chambers_of.Goals as goal

pub returns-in-Err-clause-fault : goal.returns-in-Err-clause-fault
returns-in-Err-clause-fault c = record {
  place = c.loop-f.f-index;
  item = c.f-item.result;
  is = slice_get-get_or c.args.found.now c.loop-f.f-index c.f-item.result c.loop-f-test.true ∙ ap Some (sym c.f-item.is);
  before = good_before c.args.found.now c.loop-f.f-index c.loop-f.all.items c.loop-f.invariant;
  fault_of = c.in-Err.ensures.fault;
}

pub returns-then-is_err-clause-fault : goal.returns-then-is_err-clause-fault
returns-then-is_err-clause-fault c = record {
  place = c.loop-f.f-index;
  item = c.f-item.result;
  is = slice_get-get_or c.args.found.now c.loop-f.f-index c.f-item.result c.loop-f-test.true ∙ ap Some (sym c.f-item.is);
  before = good_before c.args.found.now c.loop-f.f-index c.loop-f.all.items c.loop-f.invariant;
  fault_of = tt;
}
