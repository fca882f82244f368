use Rattle.std.proofs.Common.{◌≡◌, ℕ, List, ◌∷◌, ◌<◌, ◌≤◌, [], refl, sym, ap, ◌∙◌, arith}
use Rattle.git_visits.specs.declared.view.Key.{Key}
use Rattle.git_visits.specs.declared.view.Known.{Known}
use Rattle.git_visits.specs.Visits.{records}
use Rattle.git_machine.specs.Signatures.{Signature}
use Rattle.git_visits.specs.Lists.{tail_of}
use Rattle.git_table.proofs.Told.{front_self, then_extends, held_same, drew_one, drew_over, undrew_one}
use Rattle.git_table.proofs.visited.Visited.spare.Goals as goal

pub undraw-requires-clause-view : goal.undraw-requires-clause-view
undraw-requires-clause-view g c =
    let v = c.requires.view in
    let more : records v.0.key ≤ c.draw-number.result = let a = c.args.self.now.records_is in let b = ap records v.2.0 in let t = c.if-number-self.true in omega arith in
    (record v.0 { over = 1; full = 1; looks = (0, c.draw-number.result) ∷ v.0.looks }, drew_over c.args.self.now.table.shared.table_id.slots c.draw-number.result c.args.seat.now.me c.draw-number.new.seat.me c.draw-number.ensures.told v.0 v.1 more, refl)

pub returns-then-number-self-clause-told : goal.returns-then-number-self-clause-told
returns-then-number-self-clause-told g c = λ v e.
    let v0 = c.requires.view in
    let is : v ≡ v0.0 = held_same v v0.0 c.args.seat.now.me.0 e v0.1 in
    let k : v.key ≡ c.args.self.now.table.shared.key = ap (λ (u : Known g.row.G.Denot). u.key) is ∙ v0.2.0 in
    let sober : v.over ≡ 0 = ap (λ (u : Known g.row.G.Denot). u.over) is ∙ v0.2.2 in
    let more : records v.key ≤ c.draw-number.result = let a = c.args.self.now.records_is in let b = ap records k in let t = c.if-number-self.true in omega arith in
    let over = drew_over c.args.self.now.table.shared.table_id.slots c.draw-number.result c.args.seat.now.me c.draw-number.new.seat.me c.draw-number.ensures.told v e more in
    let u = c.undraw.ensures.told in
    let bare : v.spares ≡ [] = ap (λ (u : Known g.row.G.Denot). u.spares) is ∙ v0.2.1 in
    let w = undrew_one c.args.self.now.table.shared.table_id.slots u.0 c.draw-number.result c.draw-number.new.seat.me c.undraw.new.seat.me u.1 v sober bare more over in (w.0, w.1, (w.2, bare))

pub fill-requires-clause-view : goal.fill-requires-clause-view
fill-requires-clause-view g c =
    let v = c.requires.view in
    let less : c.draw-number.result < records v.0.key = let a = c.args.self.now.records_is in let b = ap records v.2.0 in let t = c.if-number-self.false in omega arith in
    let d = drew_one c.args.self.now.table.shared.table_id.slots c.draw-number.result c.args.seat.now.me c.draw-number.new.seat.me c.draw-number.ensures.told v.0 v.1 v.2.1 less in
    (d.0, d.1, (d.2.0, d.2.1.key_same ∙ v.2.0, d.2.2 ∙ ap (λ (k : Key g.row.G.Denot). k.width) (sym d.2.1.key_same), front_self d.0.spares [] (c.draw-number.result, d.2.0) d.2.3))

pub returns-clause-told : goal.returns-clause-told
returns-clause-told g c = λ v e.
    let v0 = c.requires.view in
    let is : v ≡ v0.0 = held_same v v0.0 c.args.seat.now.me.0 e v0.1 in
    let k : v.key ≡ c.args.self.now.table.shared.key = ap (λ (u : Known g.row.G.Denot). u.key) is ∙ v0.2.0 in
    let bare : v.spares ≡ [] = ap (λ (u : Known g.row.G.Denot). u.spares) is ∙ v0.2.1 in
    let less : c.draw-number.result < records v.key = let a = c.args.self.now.records_is in let b = ap records k in let t = c.if-number-self.false in omega arith in
    let d = drew_one c.args.self.now.table.shared.table_id.slots c.draw-number.result c.args.seat.now.me c.draw-number.new.seat.me c.draw-number.ensures.told v e bare less in
    let f = c.fill.ensures.told d.0 d.1 in
    (less, (f.0, f.1, (then_extends v d.0 f.0 d.2.1 f.2.0, f.2.1 ∙ ap (λ (t : List (ℕ × Signature)). (c.draw-number.result, c.args.sig.now) ∷ t) (ap tail_of d.2.3 ∙ sym (ap tail_of bare)))))
