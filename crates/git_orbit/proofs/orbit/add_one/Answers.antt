use Rattle.std.proofs.Common.{subst, sym}
use Rattle.git_orbit.proofs.Sieves.{sieve_fault, sieve_new}
use Rattle.git_orbit.specs.Orbits.{Sieved}
use Rattle.git_orbit.proofs.orbit.add_one.Goals as goal

pub returns-in-Err-clause-fault : goal.returns-in-Err-clause-fault
returns-in-Err-clause-fault c =
    sieve_fault c.args.k c.args.columns.now c.args.masks.now c.requires.faces c.args.i c.args.seen.now.items c.args.list.now.items c.requires.sieved c.requires.within c.requires.unseen c.in-Err.fault c.in-Err.ensures.fault

pub returns-in-Ok-add-clause-done : goal.returns-in-Ok-add-clause-done
returns-in-Ok-add-clause-done c =
    subst (Sieved c.args.k c.args.columns.now c.args.masks.now c.args.i c.one.new.seen.items) (sym c.in-Ok-add.ensures)
    (sieve_new c.args.k c.args.columns.now c.args.masks.now c.requires.faces c.args.i c.args.seen.now.items c.args.list.now.items c.requires.sieved c.requires.within c.requires.unseen c.one.new.seen.items c.in-Ok.c c.in-Ok.ensures.one)
