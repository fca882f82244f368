use Rattle.std.proofs.Common.{◌≡◌, ◌+◌, List, [], ◌∷◌, ◌++◌, length, length-append, sym, ap, ◌∙◌, subst, arith, rules, None, false}
use Rattle.std.specs.List.{All}
use Rattle.std.proofs.lemmas.List.Elements.{All-push}
use Rattle.git_table_tests.specs.declared.table.Star.{Star}
use Rattle.git_table_tests.specs.declared.table.Caller.{Caller}
use Rattle.git_table.specs.Views.{FrontierView, SeatView}
use Rattle.git_table.specs.Calls.{IsOf}
use Rattle.git_table_tests.specs.Spokes.{IsCaller}
use Rattle.git_table_tests.proofs.Spokes.{free_caller}
use Rattle.git_table_tests.proofs.table.callers.Goals as goal

-- one caller more
more : (f : FrontierView Star) (all new : List Caller) (s : SeatView Star) → IsOf f s → s.places ≡ 1 → s.hand ≡ None → new ≡ all ++ record { seat = s; busy = false } ∷ [] → All (λ (m : Caller). IsCaller f m.seat m.busy) all
    → All (λ (m : Caller). IsCaller f m.seat m.busy) new × (length new ≡ length all + 1)
more f all new s of place free is ready =
    let m : Caller = record { seat = s; busy = false } in (
      subst (All (λ (m : Caller). IsCaller f m.seat m.busy)) (sym is) (All-push (λ (m : Caller). IsCaller f m.seat m.busy) all m ready (free_caller f s of place free)),
      (let l = ap (λ (t : List Caller). length t) is in omega (arith, length-append all (m ∷ []))),
    )

pub loop-k-preserved : goal.loop-k-preserved
loop-k-preserved c =
    let i = c.loop-k.invariant in
    let a = c.split-rest.ensures.0 in
    let b = c.split-rest.ensures.1 in
    let test = c.loop-k-test.true in
    let items : c.push.new.self.items ≡ c.loop-k.all.items ++ record { seat = c.split-rest.result.1; busy = false } ∷ [] = search rules in
    let t = more c.args.frontier.now c.loop-k.all.items c.push.new.self.items c.split-rest.result.1 (ap (λ (u : SeatView Star). u.frontier) b ∙ i.of) (ap (λ (u : SeatView Star). u.places) b) (ap (λ (u : SeatView Star). u.hand) b ∙ i.free) items i.ready in
    let long = t.1 in record {
      of = ap (λ (u : SeatView Star). u.frontier) a ∙ i.of;
      places = let p = ap (λ (u : SeatView Star). u.places) a in let q = i.places in omega arith;
      free = ap (λ (u : SeatView Star). u.hand) a ∙ i.free;
      long = let l = i.long in omega arith;
      ready = t.0;
    }

pub returns-clause-callers : goal.returns-clause-callers
returns-clause-callers c =
    let i = c.loop-k.invariant in
    let test = c.loop-k-test.false in
    let low = c.loop-k.auto._k in
    let items : c.push-2.new.self.items ≡ c.loop-k.all.items ++ record { seat = c.loop-k.seat; busy = false } ∷ [] = search rules in
    let place : c.loop-k.seat.places ≡ 1 = (let p = i.places in omega arith) in
    (more c.args.frontier.now c.loop-k.all.items c.push-2.new.self.items c.loop-k.seat i.of place i.free items i.ready).0
