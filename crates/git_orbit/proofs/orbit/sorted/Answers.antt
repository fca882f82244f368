use Rattle.std.proofs.Common.{rules, Bool, refl}
use Rattle.std.specs.Ordering.{is_lt, nat_cmp}
use Rattle.std.proofs.lemmas.Cmp.{nat_cmp_total}
use Rattle.std.specs.List.Sorted.{IsSortedBy}
use Rattle.std.proofs.lemmas.List.MinMax.{ranks_by}
use Rattle.std.proofs.lemmas.List.Sorted.{IsStrictWeakOrder-flip}
use Rattle.std.proofs.lemmas.Fn.{always_returns_same}
use Rattle.git_orbit.specs.declared.orbit.OrbitCone.{OrbitCone}
use Rattle.git_orbit.proofs.Pairs.{falling_of}
use Rattle.git_orbit.proofs.orbit.sorted.Goals as goal

abbrev before : OrbitCone → OrbitCone → Bool
before x y = is_lt (nat_cmp y.greatest x.greatest)

pub returns-clause-sorted : goal.returns-clause-sorted
returns-clause-sorted c =
    let s = c.sort_unstable_by.ensures.sorted in
    let o = IsStrictWeakOrder-flip (λ (x y : OrbitCone). is_lt (nat_cmp x.greatest y.greatest)) (ranks_by nat_cmp_total (λ (x : OrbitCone). x.greatest)) in
    let all : IsSortedBy before c.sort_unstable_by.new.self.items = s before o (always_returns_same _ _ _ (λ a r f2 k. search rules)) in
    falling_of before (λ x y. refl) o c.sort_unstable_by.new.self.items all
