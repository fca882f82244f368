use Rattle.std.proofs.lemmas.Cmp.{int_eq_equiv, lists_equiv, on_equiv}
use Rattle.std.proofs.lemmas.Slice.Eq.{slice_eq-Decides}
use Rattle.std.proofs.Common.{refl}
use Rattle.std.specs.Cmp.Lexicographic.{lists_ties, pointwise, slice_cmp}
use Rattle.std.specs.Cmp.Rules.{signed_items}
use Rattle.std.specs.Ordering.{int_cmp, int_eq, on}
use Rattle.git_lemmas.proofs.Order.{vectors_ties}
use Rattle.git_allcones.specs.Sets.{vectors_of}
use Rattle.git_allcones.proofs.AllFaces.{vector_lists_total}
use Rattle.git_allcones.proofs.Sorts.{set_of}
use Rattle.git_allcones.proofs.sets.list_set.Goals as goal

pub returns : goal.returns
returns c =
    let s = set_of vectors_of (slice_cmp (slice_cmp int_cmp)) vector_lists_total (on vectors_of (pointwise (pointwise int_eq))) (on_equiv vectors_of (lists_equiv (lists_equiv int_eq_equiv)))
    (λ x z. lists_ties (slice_cmp int_cmp) vectors_ties x.items z.items)
    (λ x z. (slice_eq-Decides signed_items x.items z.items (pointwise (pointwise int_eq) x.items z.items) refl).0)
    c.args.lists.items c.sort_unstable.new.self.items c.dedup.new.self.items c.sort_unstable.ensures.permutation c.sort_unstable.ensures.sorted c.dedup.ensures.filtered in
    record { sorted = s.sorted; same = s.same }
