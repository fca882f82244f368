use Rattle.std.proofs.Common.{◌≡◌, length}
use Rattle.git_polytext.specs.Reading.{term_parts}
use Rattle.git_polytext.specs.Views.{sum_of}
use Rattle.git_polytext.proofs.ReadLoops.{after}
use Rattle.git_polytext.proofs.terms.terms.Given as goal

abbrev pub invariant-loop-part : goal.invariant-loop-part
invariant-loop-part l = after (sum_of l.terms.items) (term_parts l.r l.line (length (sum_of l.terms.items)) l.parts) ≡ term_parts l.r l.line 0 l.fn.parts

abbrev pub decreases-loop-part : goal.decreases-loop-part
decreases-loop-part l = length l.parts
