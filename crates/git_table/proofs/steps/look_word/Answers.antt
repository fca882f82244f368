use Rattle.std.proofs.Common.{sym, subst}
use mathlib.Core.Option.{none}
use Rattle.atomic_table.specs.Table.{Allows, step}
use Rattle.git_visits.specs.declared.view.Post.{Post}
use Rattle.git_visits.specs.Visits.{Ruled}
use Rattle.git_visits.specs.Plays as plays
use Rattle.git_visits.proofs.Works.{looks_at}
use Rattle.git_table.proofs.steps.look_word.Goals as goal

pub load-requires : goal.load-requires
load-requires g c =
    let o = c.requires.own in let v = c.requires.view in (
      o.0,
      c.requires.small,
      subst (λ (p : Post g.row.G.Denot). Allows (Ruled g.G.Successors.next c.args.shared.now.key) c.args.shared.now.table_id.slots c.args.seat.now.id (p, c.args.seat.now.me.1) c.args.word (λ n. n) (plays.looked (step c.args.shared.now.table_id.slots c.args.word 0 0 none) (p, c.args.seat.now.me.1))) (sym v.1)
          (looks_at g.G.Successors.next c.args.shared.now.key c.args.shared.now.table_id.slots c.args.seat.now.id v.0 c.args.seat.now.me.1 c.args.word),
    )
