use Rattle.std.proofs.Common.{◌≡◌, ℕ, ◌+◌, List, [], length, sym, ap, ◌∙◌, subst, arith}
use Rattle.atomic_table.specs.Table.{opening}
use Rattle.git_machine.specs.Signatures.{Signature}
use Rattle.git_visits.specs.declared.view.Key.{Key}
use Rattle.git_visits.specs.declared.view.Post.TheVariants.{Held}
use Rattle.git_visits.specs.Visits.{Ruled, opening_view}
use Rattle.git_visits.specs.Opening.{Opens}
use Rattle.git_visits.proofs.Begins.{begins}
use Rattle.git_table.proofs.visited.Visited.new.Goals as goal

pub of_words-requires : goal.of_words-requires
of_words-requires g c =
    let s = c.requires.sizes in
    let key : Key g.row.G.Denot = record { graph = c.of.result; first = c.of-2.result; cap = c.args.cap; workers = c.args.workers; width = c.width-width.result; hashes = c.args.cap + c.args.workers + 1 } in
    let is : c.of-2.result.value ≡ c.args.first.now = c.of-2.ensures in
    let o : Opens c.in_ok-words.words.items c.of-2.result.value (c.args.cap + c.args.workers) c.width-width.result (c.args.cap + c.args.workers + 1)
    = subst (λ (x : Signature). Opens c.in_ok-words.words.items x (c.args.cap + c.args.workers) c.width-width.result (c.args.cap + c.args.workers + 1)) (sym is) c.in_ok-words.ensures in
    subst (λ (ws : List ℕ). Ruled g.G.Successors.next key (opening ws [] (Held (opening_view key)))) (sym c.as_slice.ensures.value)
    (begins g.G.Successors.next key c.in_ok-words.words.items o (ap (λ (x : Signature). length x) is ∙ sym c.width-width.ensures.count) (omega arith, omega arith, omega arith, omega arith) (omega arith, omega arith))
