use Rattle.std.proofs.Common.{◌<◌, ◌*◌, length, ℕ, arith}
use Rattle.git_machine.specs.Signatures.{Signature, Has}
use Rattle.git_machine.proofs.Words.{equal_sets, within, has_one}
use Rattle.git_chamber.proofs.differing.difference.Goals as goal

below : (s : Signature) (n : ℕ) → Has s n → n < 64 * length s
below s n h = within s n (has_one s n h)

pub returns-clause-none : goal.returns-clause-none
returns-clause-none c = λ _.
    let a = c.args.a.now in
    let b = c.args.b.now in
    let same = c.requires.width in
    let end = c.loop-n-test.false in
    let size = c.width.ensures.count in
    equal_sets a b c.width.ensures.words c.width-2.ensures.words same (λ n. (
      λ h. (c.loop-n.invariant n (omega (arith, end, size, below a n h))).0 h,
      λ h. (c.loop-n.invariant n (omega (arith, end, size, same, below b n h))).1 h,
    ))
