use Rattle.std.proofs.Common.{◌≡◌, ◌+◌, ◌++◌, ◌∷◌, [], List, ap, arith, subst, sym, take, ◌∙◌, ℕ}
use Rattle.git_machine.specs.Signatures.{Signature}
use Rattle.git_chamber.specs.Views.{FanChamber}
use Rattle.git_assemble.specs.Making.{IsNumbering, signatures_in}
use Rattle.git_assemble.proofs.Numbered.{count_before, one_more_chamber, one_more_number}
use Rattle.git_assemble.proofs.numbers.numbers_of.Goals as goal

pub loop-i-preserved : goal.loop-i-preserved
loop-i-preserved c =
    let cs : List FanChamber = c.args.chambers.now in
    let i : ℕ = c.loop-i.i in
    let d : FanChamber = c.index-chambers-i.result in
    let sig : c.in_ok-sig.sig ≡ d.sig = c.in_ok-sig.ensures ∙ ap (λ (x : FanChamber). x.sig) c.c.view_is in
    let all : signatures_in (take (i + 1) cs) ≡ signatures_in (take i cs) ++ c.in_ok-sig.sig ∷ [] =
    one_more_chamber cs i d c.loop-i-test.true ∙ ap (λ (s : Signature). signatures_in (take i cs) ++ s ∷ []) (ap (λ (x : FanChamber). x.sig) (sym c.index-chambers-i.is) ∙ sym sig) in
    let count = count_before cs i c.loop-i-test.true in
    subst (λ (l : List Signature). IsNumbering l c.insert.new.self) (sym all)
    (one_more_number (signatures_in (take i cs)) c.loop-i.numbers c.insert.new.self c.in_ok-sig.sig (i + 1) c.loop-i.invariant (omega (arith, count)) c.in_ok-insert.ensures.updates)
