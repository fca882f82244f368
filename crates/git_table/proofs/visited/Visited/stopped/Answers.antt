use Rattle.std.proofs.Common.{◌≡◌, ℕ, ◌+◌, ◌∷◌, [], false, true, IsTrue, eqb, ap, sym, ◌∙◌, eq-eqb, ne_eqb}
use native.Mathlib.Decide.{ℕ_discrete}
use Rattle.git_visits.specs.declared.view.Key.{Key}
use Rattle.git_visits.specs.declared.view.Known.{Known}
use Rattle.git_visits.specs.declared.view.Post.TheVariants.{Held}
use Rattle.git_visits.specs.Visits.{stop_at}
use Rattle.git_table.specs.Takes.{Looks}
use Rattle.git_table.proofs.Told.{held_same}
use Rattle.git_table.proofs.TakeLooks.{looked_one}
use Rattle.git_table.proofs.visited.Visited.stopped.Goals as goal

one_of : (x : ℕ) → IsTrue (eqb x 1) → x ≡ 1
one_of x t = by (ℕ_discrete x 1)
  where
    by : Dec (x ≡ 1) → x ≡ 1
    by (yes e) = e
    by (no n) = let bad : false ≡ true = sym (ne_eqb x 1 n) ∙ t in absurd (cc)

pub returns-clause-told : goal.returns-clause-told
returns-clause-told g c = λ v e.
    let v0 = c.requires.view in let a = c.args.self.now.states_is in let b = c.args.self.now.records_is in
    let key : Key g.row.G.Denot = c.args.self.now.table.shared.key in
    let is : v.key ≡ key = ap (λ (u : Known g.row.G.Denot). u.key) (held_same v v0.0 c.args.seat.now.me.0 e v0.1) ∙ v0.2 in
    let at : c.args.self.now.states + c.args.self.now.records + 1 ≡ stop_at key = cc in
    let at' : c.args.self.now.states + c.args.self.now.records + 1 ≡ stop_at v.key = at ∙ ap (λ (k : Key g.row.G.Denot). stop_at k) (sym is) in
    let t = looked_one c.args.self.now.table.shared.table_id.slots (c.args.self.now.states + c.args.self.now.records + 1) c.look_word.result c.args.seat.now.me c.look_word.new.seat.me c.look_word.ensures.told v [] e in
    (c.look_word.result, (one_of c.look_word.result, λ z. eq-eqb c.look_word.result 1 z), t ∙ ap (λ (i : ℕ). Held (Looks v ((i, c.look_word.result) ∷ []))) at')
