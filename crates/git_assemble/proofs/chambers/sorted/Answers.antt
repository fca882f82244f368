use Rattle.std.proofs.Common.{Bool, rules}
use Rattle.std.specs.Cmp.{int_cmp_total}
use Rattle.std.specs.Cmp.Lexicographic.{lists_total, slice_cmp}
use Rattle.std.specs.List.Sorted.{IsSortedBy}
use Rattle.std.specs.Ordering.{int_cmp, is_lt}
use Rattle.std.proofs.lemmas.Fn.{always_returns_same}
use Rattle.std.proofs.lemmas.List.MinMax.{ranks_by}
use Rattle.git_plain.proofs.Ordered.{pairs_of_sorted}
use Rattle.git_chamber.specs.Views.{FanChamber}
use Rattle.git_assemble.proofs.chambers.sorted.Goals as goal

pub returns-clause-sorted : goal.returns-clause-sorted
returns-clause-sorted c =
    let before : FanChamber → FanChamber → Bool = λ x y. is_lt (slice_cmp (slice_cmp int_cmp) x.rays y.rays) in
    let weak = ranks_by (lists_total (lists_total int_cmp_total)) (λ (x : FanChamber). x.rays) in
    let all : IsSortedBy before c.sort_unstable_by.new.self.items = c.sort_unstable_by.ensures.sorted before weak (always_returns_same _ _ _ (λ a r f2 k. search rules)) in
    pairs_of_sorted before weak c.sort_unstable_by.new.self.items all
