use Rattle.std.proofs.Common.{rules, Bool}
use Rattle.std.specs.Ordering.{is_lt}
use Rattle.std.specs.List.Sorted.{IsSortedBy}
use Rattle.std.proofs.lemmas.List.MinMax.{ranks_by}
use Rattle.std.proofs.lemmas.Fn.{always_returns_same}
use Rattle.git_machine.specs.declared.successors.Found.{Found}
use Rattle.git_machine.specs.Signatures.{signature_cmp}
use Rattle.git_machine.specs.Ties.{signature_total}
use Rattle.git_plain.proofs.Ordered.{pairs_of_sorted}
use Rattle.git_crew.proofs.close.in_order.Goals as goal

pub returns-clause-sorted : goal.returns-clause-sorted
returns-clause-sorted g c =
    let before : Found g.row.P.Denot → Found g.row.P.Denot → Bool = λ x y. is_lt (signature_cmp x.sig y.sig) in
    let weak = ranks_by signature_total (λ (x : Found g.row.P.Denot). x.sig) in
    let all : IsSortedBy before c.sort_unstable_by.new.self.items = c.sort_unstable_by.ensures.sorted before weak (always_returns_same _ _ _ (λ a r f2 k. search rules)) in
    pairs_of_sorted before weak c.sort_unstable_by.new.self.items all
