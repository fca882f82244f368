use Rattle.std.proofs.Common.{◌≡◌, take}
use Rattle.std.specs.Prelude.{◌↔◌, IsTrue}
use Rattle.std.specs.List.{AllZip}
use Rattle.git_check_chambers.proofs.listing.start_marks.Given as goal

abbrev pub invariant-loop-sig : goal.invariant-loop-sig
invariant-loop-sig l = AllZip (λ s b. IsTrue b ↔ (s ≡ l.start)) (take l.sig-index l.sigs) l.marks.items
