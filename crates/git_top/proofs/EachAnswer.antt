-- Any words and any bytes have an answer.
use Rattle.std.proofs.Common.{ℕ, Bool, List, inl, inr, refl, subst, sym}
use Rattle.std.specs.Prelude.{true, false}
use Rattle.git_base.specs.declared.status.Status.TheVariants.{Done, Usage}
use Rattle.git_input.specs.Inputs.{InputValue, AreGenerators}
use Rattle.git_grading.specs.Gradings.{IsGrading}
use Rattle.git_text.specs.Writing.{input_text}
use Rattle.git_text.proofs.Matrices.{text_is_a_grading}
use Rattle.git_text.proofs.GeneratorLines.{are_generators}
use Rattle.git_words.specs.Words.{IsCommand}
use Rattle.git_words.specs.declared.commands.Command.{Command}
use Rattle.git_words.specs.declared.commands.Command.TheVariants.{Fan, Faces, Make, AllCones, Locate, Bunch}
use Rattle.git_words.proofs.Decided.{command_or_none}
use Rattle.git_words.proofs.OneCommand.{commands_are_in_range}
use Rattle.git_make.proofs.Inputs.{some_input, samples_are_inputs}
use Rattle.git_replies.specs.Cases.{Case, HasSome, says}
use Rattle.git_replies.specs.Reads.{reads}
use Rattle.git_replies.proofs.ReadLaws.{reads_some}
use Rattle.git_cone_replies.proofs.AllAnswers.{some_answered}
use Rattle.git_defs.specs.Vectors.{AllOfLength, Vector}
use Rattle.git_answers.specs.Faces.{faces_of}
use Rattle.git_bunch_replies.specs.BunchCases.{bunches_of, tells}
use Rattle.git_bunch_replies.proofs.Replied.{some_of_input}
use Rattle.git_weight_replies.specs.WeightCases.{locate_case}
use Rattle.git_weight_replies.proofs.WeightAnswers as place
use Rattle.git_questions.specs.Questions.{all_cones_of, locate_of, tells_cones}
use Rattle.git_questions.proofs.Chambers.{is_fan, listed_short, short_in_fan}
use Rattle.git_questions.proofs.Weighted.{weighted_some, weights_lengths}
use Rattle.git_commands.specs.Commands.{makes, output_of, sample_options, command_answer}
use Rattle.git_answers.specs.Fan.{Options, options, fan_of}
use Rattle.git_answers.specs.declared.output.Output.TheVariants.{Counted}
use Rattle.git_top.specs.Run.{usage_text}
use Rattle.git_top.specs.Laws.{EachHasAnAnswer}
use Rattle.git_top.proofs.FacesExist.{faces_some}
use Rattle.git_top.proofs.FanExist.{decided, fan_some, listed_some}
use Rattle.git_top.proofs.OneAnswer.{no_monomial}

makes_some : (run : Bool) (v : InputValue) → IsGrading v.degrees.k v.degrees.columns → AreGenerators v.degrees v.generators → HasSome (makes run v)
makes_some false v grading are = (says Done (input_text v), refl)
makes_some true v grading are = fan_some v sample_options grading are Counted

-- an input has an answer, so any bytes have
input_some : (cases : InputValue → Case) (bytes : List ℕ) → ((v : InputValue) → IsGrading v.degrees.k v.degrees.columns → AreGenerators v.degrees v.generators → HasSome (cases v)) → HasSome (reads cases bytes)
input_some cases bytes some =
    reads_some cases bytes (λ v is. some v (text_is_a_grading is.matrix_lines v.degrees is.matrix) (are_generators v.degrees is.ideal is.polynomials v.generators is.ideal_is is.polynomials_are))

module _ (v : InputValue) (n : Options) (g : IsGrading v.degrees.k v.degrees.columns) (are : AreGenerators v.degrees v.generators) where
  cones_some : HasSome (all_cones_of n v)
  cones_some = listed_some v n g are tells_cones (λ p h. some_answered h.listing (listed_short v h.fan h.listing h.graph h.is))

  weights_some : (ws : List Vector) → AllOfLength v.degrees.k ws → HasSome (locate_of n ws v)
  weights_some ws lengths = listed_some v n g are (locate_case ws) (λ p h.
      place.some_answered ws h.fan h.listing (is_fan v h.fan h.listing h.graph h.is) (place.some_cone v g h.fan (no_monomial v n p) h.is.opening.is_fan) (short_in_fan v h.fan h.listing h.graph h.is)
      (subst (λ (k : ℕ). AllOfLength k ws) (sym h.is.opening.is_fan.k) lengths))

  bunches_some : HasSome (bunches_of n v)
  bunches_some = listed_some v n g are (tells v) (λ p h. some_of_input v h.fan h.listing (decided v n g are p) h.graph h.is)

command_some : (words : List (List ℕ)) (c : Command) (bytes : List ℕ) → IsCommand words c → HasSome (command_answer c bytes)
command_some words (Fan workers table steps certs) bytes is = input_some (fan_of (options table steps) (output_of certs)) bytes (λ v g are. fan_some v (options table steps) g are (output_of certs))
command_some words (Faces steps) bytes is = input_some (faces_of steps) bytes (λ v g are. faces_some v steps g)
command_some words (AllCones table steps) bytes is = input_some (all_cones_of (options table steps)) bytes (λ v g are. cones_some v (options table steps) g are)
command_some words (Locate table steps) bytes is = weighted_some (λ v ws. locate_of (options table steps) ws v) bytes (λ v ws w.
    let i = w.front.input in
    weights_some v (options table steps) (text_is_a_grading i.matrix_lines v.degrees i.matrix) (are_generators v.degrees i.ideal i.polynomials v.generators i.ideal_is i.polynomials_are) ws (weights_lengths bytes v ws w))
command_some words (Bunch table steps) bytes is = input_some (bunches_of (options table steps)) bytes (λ v g are. bunches_some v (options table steps) g are)
command_some words (Make sample run) bytes is =
    let v = some_input sample in
    let input = samples_are_inputs sample v.0 (commands_are_in_range words (Make sample run) is) v.1 in
    let h = makes_some run v.0 input.0 input.1 in
    (h.0, (v.0, v.1, h.1))

pub each_text_has_an_answer : EachHasAnAnswer
each_text_has_an_answer words bytes = elim (command_or_none words) [
  | inl c ↦ (let h = command_some words c.0 bytes c.1 in (h.0, inr ((λ o u. u.0 c.0 c.1), (c.0, c.1, h.1))))
  | inr none ↦ (says Usage usage_text, inl (none, refl))
]
