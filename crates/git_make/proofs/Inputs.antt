-- Samples are inputs.
use Rattle.std.proofs.Common.{◌≡◌, ◌⊎◌, ◌∙◌, ℕ, ◌≤◌, inl, inr, refl, sym, subst, arith}
use Rattle.std.proofs.lemmas.Bool.Decides.{eqb_tells}
use Rattle.git_words.specs.declared.commands.Sample.TheVariants.{Points, Plucker}
use Rattle.git_grading.specs.Gradings.{IsGrading}
use Rattle.git_input.specs.Inputs.{InputValue, AreGenerators}
use Rattle.git_make.specs.Samples.{points_of, plucker_of}
use Rattle.git_make.specs.Laws.{OneInput, SomeInput, SamplesAreInputs}
use Rattle.git_make.proofs.Gradings.{points_are_a_grading, four_are_a_grading, five_are_a_grading}
use Rattle.git_make.proofs.Relations.{no_generators, four_generators, five_generators}

pub one_input : OneInput
one_input (Points n seed) v w a b = a ∙ sym b
one_input (Plucker n) v w a b = a ∙ sym b

pub some_input : SomeInput
some_input (Points n seed) = (points_of n seed, refl)
some_input (Plucker n) = (plucker_of n, refl)

abbrev IsRightInput : InputValue → Type 0
IsRightInput v = IsGrading v.degrees.k v.degrees.columns × AreGenerators v.degrees v.generators

pub planes_are_inputs : (n : ℕ) → (n ≡ 4) ⊎ (n ≡ 5) → IsRightInput (plucker_of n)
planes_are_inputs n (inl e) = subst (λ (m : ℕ). IsRightInput (plucker_of m)) (sym e) (four_are_a_grading, four_generators)
planes_are_inputs n (inr e) = subst (λ (m : ℕ). IsRightInput (plucker_of m)) (sym e) (five_are_a_grading, five_generators)

four_or_five : (n : ℕ) → 4 ≤ n → n ≤ 5 → (n ≡ 4) ⊎ (n ≡ 5)
four_or_five n low high = elim (eqb_tells n 4) [ inl same ↦ inl same.1 | inr other ↦ inr (let k = other.1 in grind arith) ]

pub samples_are_inputs : SamplesAreInputs
samples_are_inputs (Points n seed) v range is =
    subst IsRightInput (sym is) (points_are_a_grading n seed range.0 range.1, no_generators (points_of n seed).degrees)
samples_are_inputs (Plucker n) v range is = subst IsRightInput (sym is) (planes_are_inputs n (four_or_five n range.0 range.1))
