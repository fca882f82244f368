-- Laws of samples.
use Rattle.std.specs.Prelude.{◌≡◌}
use Rattle.git_words.specs.declared.commands.Sample.{Sample}
use Rattle.git_words.specs.Laws.{IsSampleInRange}
use Rattle.git_grading.specs.Gradings.{IsGrading}
use Rattle.git_input.specs.Inputs.{InputValue, AreGenerators}
use Rattle.git_make.specs.Samples.{IsSample}

-- a sample is one input
abbrev pub OneInput : Type 0
OneInput = (s : Sample) (v w : InputValue) → IsSample s v → IsSample s w → v ≡ w

-- a sample is an input
abbrev pub SomeInput : Type 0
SomeInput = (s : Sample) → (v : InputValue) × IsSample s v

-- what a sample in range is has a grading, and generators under it
abbrev pub SamplesAreInputs : Type 0
SamplesAreInputs = (s : Sample) (v : InputValue) → IsSampleInRange s → IsSample s v → IsGrading v.degrees.k v.degrees.columns × AreGenerators v.degrees v.generators
