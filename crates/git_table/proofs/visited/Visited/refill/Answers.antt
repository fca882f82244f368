use Rattle.std.proofs.Common.{◌≡◌, refl, ℕ, ◌<◌, sym, subst, ap, ◌∙◌, Option}
use Rattle.git_visits.specs.declared.view.Key.{Key}
use Rattle.git_visits.specs.declared.view.Known.{Known}
use Rattle.git_visits.specs.Visits.{records}
use Rattle.git_visits.specs.Seats.{SpareIs, SpareHeld}
use Rattle.git_visits.specs.Lists.{tail_of}
use Rattle.git_table.proofs.Told.{front_self, same, held_same}
use Rattle.git_table.proofs.visited.Visited.refill.Goals as goal

pub fill-requires-clause-inside : goal.fill-requires-clause-inside
fill-requires-clause-inside g c =
    let v = c.requires.view in let h = subst (SpareHeld v.0) c.in-Some.is v.2.1 in
    (subst (λ (n : ℕ). c.in-Some.number < n) (sym c.args.self.now.records_is) (subst (λ (k : Key g.row.G.Denot). c.in-Some.number < records k) v.2.0 h.3), c.requires.sig)

pub fill-requires-clause-view : goal.fill-requires-clause-view
fill-requires-clause-view g c = let v = c.requires.view in let h = subst (SpareHeld v.0) c.in-Some.is v.2.1 in (v.0, v.1, (h.0, v.2.0, h.1, h.2))

pub returns-in-Some-clause-told : goal.returns-in-Some-clause-told
returns-in-Some-clause-told g c = λ v e.
    let v0 = c.requires.view in let h = subst (SpareHeld v0.0) c.in-Some.is v0.2.1 in
    let is : v ≡ v0.0 = held_same v v0.0 c.args.seat.now.me.0 e v0.1 in
    let f = c.fill.ensures.told v e in
    let below : c.in-Some.number < records f.0.key = subst (λ (k : Key g.row.G.Denot). c.in-Some.number < records k) (sym (f.2.0.key_same ∙ ap (λ (u : Known g.row.G.Denot). u.key) is)) h.3 in
    (f.0, f.1, (f.2.0, subst (λ (o : Option ℕ). SpareIs f.0 o c.args.sig.now) (sym c.in-Some.is) (front_self f.0.spares (tail_of v.spares) (c.in-Some.number, c.args.sig.now) f.2.1, below), ap tail_of f.2.1))

pub returns-in-None-clause-told : goal.returns-in-None-clause-told
returns-in-None-clause-told g c = λ v e.
    let v0 = c.requires.view in let h = subst (SpareHeld v0.0) c.in-None.is v0.2.1 in
    let is : v ≡ v0.0 = held_same v v0.0 c.args.seat.now.me.0 e v0.1 in
    (v, e, (same v, subst (λ (o : Option ℕ). SpareIs v o c.args.sig.now) (sym c.in-None.is) (ap (λ (u : Known g.row.G.Denot). u.spares) is ∙ h), refl))
