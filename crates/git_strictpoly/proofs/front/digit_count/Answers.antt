use Rattle.std.proofs.Common.{rules, ◌≡◌, false, get_or, arith}
use Rattle.git_lines.specs.Numbers.{is_digit}
use Rattle.git_strictpoly.proofs.CodeSteps.{digits_end}
use Rattle.git_strictpoly.proofs.front.digit_count.Goals as goal

pub returns-else-is_ascii_digit-clause-front : goal.returns-else-is_ascii_digit-clause-front
returns-else-is_ascii_digit-clause-front c =
    let no : is_digit (get_or c.args.bytes.now c.loop-count.count 0) ≡ false = search rules in
    (digits_end c.args.bytes.now c.loop-count.count c.loop-count.invariant.within c.loop-count.invariant.digits (λ _. no)).0

pub returns-else-is_ascii_digit-clause-after : goal.returns-else-is_ascii_digit-clause-after
returns-else-is_ascii_digit-clause-after c =
    let no : is_digit (get_or c.args.bytes.now c.loop-count.count 0) ≡ false = search rules in
    (digits_end c.args.bytes.now c.loop-count.count c.loop-count.invariant.within c.loop-count.invariant.digits (λ _. no)).1

pub returns-after-loop-count-clause-front : goal.returns-after-loop-count-clause-front
returns-after-loop-count-clause-front c = (digits_end c.args.bytes.now c.loop-count.count c.loop-count.invariant.within c.loop-count.invariant.digits (λ h. absurd (omega (arith, h, c.loop-count-test.false)))).0

pub returns-after-loop-count-clause-after : goal.returns-after-loop-count-clause-after
returns-after-loop-count-clause-after c = (digits_end c.args.bytes.now c.loop-count.count c.loop-count.invariant.within c.loop-count.invariant.digits (λ h. absurd (omega (arith, h, c.loop-count-test.false)))).1
