-- What nothing refuses is done.
use Rattle.std.proofs.Common.{◌≡◌, ◌∙◌, List, ap, subst, arith}
use Rattle.git_input.specs.Inputs.{InputValue}
use Rattle.git_text.proofs.Matrices.{text_is_a_grading}
use Rattle.git_replies.specs.Cases.{Outcome, Passes, ◌otherwise◌}
use Rattle.git_answers.specs.Faces.{face_stops, certifies, faces_of}
use Rattle.git_answers.specs.Fan.{Options, whole_stops, has_monomial, other_stops, wide_cone, table_wide, table_full, not_good, lists, writes, after_cones, after_verdicts, after_whole, refuses, fan_of, options}
use Rattle.git_answers.specs.declared.output.Output.{Output}
use Rattle.git_answers.specs.declared.output.Output.TheVariants.{Counted}
use Rattle.git_replies.proofs.CaseLaws.{later}
use Rattle.git_replies.proofs.ReadLaws.{reads_input}
use Rattle.git_answers.specs.Verdicts.{whole_face}
use Rattle.git_base.specs.declared.status.Status.TheVariants.{Done}
use Rattle.git_grading.specs.Gradings.{IsGrading}
use Rattle.git_make.proofs.Inputs.{one_input, samples_are_inputs}
use Rattle.git_cone_replies.specs.ConeCases.{judges, tells, too_many, wide_pair}
use Rattle.git_defs.specs.Vectors.{Vector}
use Rattle.git_weighted.specs.Reads.{no_weighted_input, of_weighted_input}
use Rattle.git_weighted.proofs.WeightedTexts.{one_weighted, weighted_passes}
use Rattle.git_weight_replies.specs.WeightCases.{locate_case, locates, wide_weight}
use Rattle.git_bunch_replies.specs.BunchCases as bunches
use Rattle.git_questions.specs.Questions.{all_cones_of, locate_of, tells_cones}
use Rattle.git_commands.specs.Commands.{output_of, sample_options}
use Rattle.git_top.specs.Laws.{BunchesAreDone, ConesAreDone, FacesAreDone, InputsAreDone, NothingRefuses, SamplesAreDone, WeightsAreDone}
use Rattle.git_fan.proofs.NotGood.{written_done}
use Rattle.git_answers.proofs.OneFan.{whole_full}
use Rattle.git_fan.proofs.Opens.{neither}

pub faces_are_done : FacesAreDone
faces_are_done steps bytes v o few is ends h =
    let c = later (face_stops v steps) certifies o (λ p stop. ends stop.0 stop.1.holds.0 stop.1.holds.1.0 stop.1.holds.1.1) (reads_input (faces_of steps) bytes v o few is h) in
    ap (λ (p : Outcome). p.status) c

-- none of the refusals holds
pub nothing_refused : (v : InputValue) (n : Options) → IsGrading v.degrees.k v.degrees.columns → NothingRefuses v n.table n.steps → Passes (refuses n v)
nothing_refused v n g none =
    neither (whole_stops v n) (after_whole n v) (λ o stop. none.ends (whole_face v) (whole_full v g) stop.0 stop.1)
    (neither (has_monomial v) (other_stops v n otherwise after_verdicts n v) (λ o has. has.0 none.a_face)
    (neither (other_stops v n) (after_verdicts n v) (λ o stop. none.ends stop.0 stop.1.holds.1.0 stop.1.holds.1.1.0 stop.1.holds.1.1.1)
    (neither (wide_cone v) (after_cones n v) (λ o wide. none.narrow wide.0 wide.2.0 wide.2.1)
    (neither (table_wide v n) (table_full v n otherwise not_good v) (λ o wide. (let fits = none.fits wide.0 wide.1 in let more = wide.2 in omega (arith, fits, more)))
    (neither (table_full v n) (not_good v) (λ o full. none.reach full.0 full.1 full.2 full.3) (λ o bad. none.good bad.0 bad.1 bad.3.0 bad.2 bad.3.1.holds))))))

fan_done : (v : InputValue) (n : Options) (output : Output) (o : Outcome) → IsGrading v.degrees.k v.degrees.columns → NothingRefuses v n.table n.steps → fan_of n output v o → o.status ≡ Done
fan_done v n output o g none h =
    let l = later (refuses n v) (lists (writes output) v) o (nothing_refused v n g none) h in
    ap (λ (p : Outcome). p.status) l.3 ∙ written_done output l.1

pub inputs_are_done : InputsAreDone
inputs_are_done workers table steps certs bytes v o few is none h =
    let n : Options = options table steps in
    fan_done v n (output_of certs) o (text_is_a_grading is.matrix_lines v.degrees is.matrix) none (reads_input (fan_of n (output_of certs)) bytes v o few is h)

pub cones_are_done : ConesAreDone
cones_are_done table steps bytes v o few is none have h =
    let n : Options = options table steps in
    let l = later (refuses n v) (lists tells_cones v) o (nothing_refused v n (text_is_a_grading is.matrix_lines v.degrees is.matrix) none) (reads_input (all_cones_of n) bytes v o few is h) in
    let passed = have l.0 l.1 l.2 in
    let judged = later (too_many l.1) (judges l.1) o passed.0 l.3 in
    let told = later (wide_pair l.1) (tells l.1) o passed.1 judged in
    ap (λ (p : Outcome). p.status) told.4

pub weights_are_done : WeightsAreDone
weights_are_done table steps bytes v ws o is none have h =
    let n : Options = options table steps in
    let i = is.front.input in
    let w = later (no_weighted_input bytes) (of_weighted_input bytes (λ v ws. locate_of n ws v)) o (weighted_passes bytes v ws is) h in
    let same = one_weighted bytes w.0 v w.1 ws w.2 is in
    let here = subst (λ (x : InputValue). locate_of n ws x o) same.0 (subst (λ (xs : List Vector). locate_of n xs w.0 o) same.1 w.3) in
    let l = later (refuses n v) (lists (locate_case ws) v) o (nothing_refused v n (text_is_a_grading i.matrix_lines v.degrees i.matrix) none) here in
    let told = later (wide_weight ws l.0) (locates ws l.0 l.1) o (have l.0 l.1 l.2) l.3 in
    ap (λ (p : Outcome). p.status) told.2

pub bunches_are_done : BunchesAreDone
bunches_are_done table steps bytes v o few is none h =
    let n : Options = options table steps in
    let l = later (refuses n v) (lists (bunches.tells v) v) o (nothing_refused v n (text_is_a_grading is.matrix_lines v.degrees is.matrix) none) (reads_input (bunches.bunches_of n) bytes v o few is h) in
    ap (λ (p : Outcome). p.status) l.3.2.2

pub samples_are_done : SamplesAreDone
samples_are_done sample bytes v o range is = record {
  written = λ h. ap (λ (p : Outcome). p.status) h.2;
  counted = λ none h. (let same = one_input sample h.0 v h.1 is in fan_done v sample_options Counted o (samples_are_inputs sample v range is).0 none (subst (λ (w : InputValue). fan_of sample_options Counted w o) same h.2));
}
