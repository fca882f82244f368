use Rattle.std.proofs.Common.{List, subst, ℕ}
use Rattle.std.specs.Prelude.{Contains}
use Rattle.git_bunch.specs.Least.{AreLeast}
use Rattle.git_bunch.specs.Stable.{AreDescending}
use Rattle.git_bunch.proofs.Within.{least_falling}
use Rattle.git_bunch.proofs.masks.least_of.Goals as goal

pub returns : goal.returns
returns c =
    let all = c.falling-all.result.items in
    let kept = c.in_ok-sifted.field-0.items in
    let least = subst (λ (l : List ℕ). AreLeast l kept) c.deref.ensures.value c.in_ok-sifted.ensures in
    let given = subst (λ (l : List ℕ). AreDescending (Contains l) all) c.in_ok-from_slice.ensures.items c.falling-all.ensures in
    least_falling c.args.list.now all kept c.falling.result.items given least c.falling.ensures
