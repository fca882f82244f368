use Rattle.std.proofs.Common.{◌≡◌, ℕ, sym, subst, Some, Option}
use Rattle.git_visits.specs.declared.view.Known.{Known}
use Rattle.git_visits.specs.Seats.{SpareIs}
use Rattle.git_table.proofs.Told.{same, held_same}
use Rattle.git_table.proofs.visited.Visited.ready.Goals as goal

pub spare-requires-clause-view : goal.spare-requires-clause-view
spare-requires-clause-view g c = let v = c.requires.view in (v.0, v.1, (v.2.0, subst (λ (o : Option ℕ). SpareIs v.0 o c.args.sig.now) c.in-None.is v.2.2, v.2.1))

pub returns-in-Some-clause-told : goal.returns-in-Some-clause-told
returns-in-Some-clause-told g c = λ v e.
    let v0 = c.requires.view in
    let is : v ≡ v0.0 = held_same v v0.0 c.args.seat.now.me.0 e v0.1 in
    let s : SpareIs v0.0 (Some c.in-Some.number) c.args.sig.now = subst (λ (o : Option ℕ). SpareIs v0.0 o c.args.sig.now) c.in-Some.is v0.2.2 in
    let s' : SpareIs v (Some c.in-Some.number) c.args.sig.now = subst (λ (u : Known g.row.G.Denot). SpareIs u (Some c.in-Some.number) c.args.sig.now) (sym is) s in
    (s'.1, (v, e, (same v, s'.0)))
