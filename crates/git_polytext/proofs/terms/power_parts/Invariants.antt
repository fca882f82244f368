use Rattle.std.proofs.Common.{◌≡◌, ℕ, ◌≤◌, length}
use Rattle.git_algebra.specs.Exponents.{exponent}
use Rattle.git_polytext.specs.Reading.{power_parts}
use Rattle.git_polytext.proofs.terms.power_parts.Given as goal

abbrev pub invariant-loop-part : goal.invariant-loop-part
invariant-loop-part l = record {
  reads : power_parts l.r l.line l.start l.mono l.parts ≡ power_parts l.r l.line l.start l.fn.begun l.fn.parts;
  small : (i : ℕ) → exponent l.mono i ≤ 64;
}

abbrev pub decreases-loop-part : goal.decreases-loop-part
decreases-loop-part l = length l.parts
