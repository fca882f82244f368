use Rattle.std.proofs.Common.{◌≡◌, ◌+◌, ◌++◌, ◌∙◌, ◌∷◌, [], Bool, List, ap, subst, sym, take}
use Rattle.std.specs.Prelude.{◌↔◌, IsTrue}
use Rattle.std.specs.List.{AllZip}
use Rattle.std.proofs.lemmas.List.{take_all, take_more}
use Rattle.git_machine.specs.Signatures.{Signature}
use Rattle.git_asked.proofs.Places.{zipped_length}
use Rattle.git_check_chambers.proofs.Lists.{marks_tell, one_more_pair}
use Rattle.git_check_chambers.proofs.listing.start_marks.Goals as goal

abbrev Tells : Signature → Signature → Bool → Type 0
Tells start s b = IsTrue b ↔ (s ≡ start)

pub loop-sig-preserved : goal.loop-sig-preserved
loop-sig-preserved c =
    let ss = c.args.sigs.now in
    let i = c.loop-sig.sig-index in
    let s = c.sig-item.result in
    let t = c.args.start.now in
    let front : take (i + 1) ss ≡ take i ss ++ s ∷ [] = take_more ss i s c.loop-sig-test.true ∙ ap (λ (x : Signature). take i ss ++ x ∷ []) (sym c.sig-item.is) in
    let more = one_more_pair (Tells t) (take i ss) c.loop-sig.marks.items s c.same.result c.loop-sig.invariant c.same.ensures.equal in
    subst (λ (xs : List Signature). AllZip (Tells t) xs c.add.new.out.items) (sym front) (subst (λ (bs : List Bool). AllZip (Tells t) (take i ss ++ s ∷ []) bs) (sym c.in_ok-add.ensures) more)

pub returns-clause-count : goal.returns-clause-count
returns-clause-count c =
    let z = subst (λ (xs : List Signature). AllZip (Tells c.args.start.now) xs c.loop-sig.marks.items) (take_all c.loop-sig.sig-index c.args.sigs.now c.loop-sig-test.false) c.loop-sig.invariant in
    sym (zipped_length (Tells c.args.start.now) c.args.sigs.now c.loop-sig.marks.items z)

pub returns-clause-each : goal.returns-clause-each
returns-clause-each c =
    let z = subst (λ (xs : List Signature). AllZip (Tells c.args.start.now) xs c.loop-sig.marks.items) (take_all c.loop-sig.sig-index c.args.sigs.now c.loop-sig-test.false) c.loop-sig.invariant in
    marks_tell c.args.start.now c.args.sigs.now c.loop-sig.marks.items z
