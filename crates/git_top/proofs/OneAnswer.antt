-- Words and bytes have one answer.
use Rattle.std.proofs.Common.{◌≡◌, ◌≢◌, ◌∙◌, ℕ, ◌≤◌, Bool, List, length, inl, inr, refl, sym, ap, subst, arith}
use Rattle.std.specs.Prelude.{true, false}
use Rattle.std.specs.declared.cmp.Ordering.{Ordering}
use Rattle.std.specs.declared.cmp.Ordering.TheVariants.{Less, Equal, Greater}
use Rattle.std.specs.Ordering.{ordering_reverse, is_eq}
use Rattle.git_base.specs.declared.status.Status.TheVariants as status
use Rattle.git_defs.specs.Faces.{face}
use Rattle.git_stages.specs.declared.wide.WideAt.{WideAt}
use Rattle.git_stages.proofs.Uniqueness.{wide_once}
use Rattle.git_input.specs.Inputs.{InputValue}
use Rattle.git_machine.specs.Signatures.{Signature, signature_cmp}
use Rattle.git_machine.specs.Ties.{signature_total, equal_words, level_words}
use Rattle.git_orbit.specs.Orbits.{Fan}
use Rattle.git_orbit.specs.Signatures.{width_of}
use Rattle.git_listing.specs.Listings.{Listing}
use Rattle.git_chamber.specs.Chambers.{IsCell}
use Rattle.git_chamber.specs.Listings.{IsListing}
use Rattle.git_chamber.proofs.Uniqueness.{one_cell}
use Rattle.git_chamber.specs.declared.cell.Cell.{Cell}
use Rattle.git_chamber.specs.declared.cell.Cell.TheVariants as cell
use Rattle.git_assemble.proofs.OneListing.{one_listing}
use Rattle.git_replies.specs.Cases.{Case, HasOne, Passes, IsFirst, says, ◌otherwise◌}
use Rattle.git_answers.specs.Verdicts.{StopsWith, StopsAt, whole_face}
use Rattle.git_replies.specs.Lines.{stop_text, wide_face_text, table_wide_text}
use Rattle.git_answers.specs.Fan.{Options, IsBad, IsRefused, Refuses, UpTo, IsWideFace, whole_stops, has_monomial, other_stops, wide_cone, table_wide, table_full, written, writes, not_good, lists, listed_then, after_cones, after_verdicts, after_whole, refuses, fan_of, options, IsListingOf}
use Rattle.git_answers.specs.declared.output.Output.{Output}
use Rattle.git_answers.specs.declared.output.Output.TheVariants.{Counted}
use Rattle.git_replies.proofs.CaseLaws.{one_of, one_by, one_is, one_first}
use Rattle.git_answers.proofs.FaceLaws.{one_stop, first_stop_one, faces_one}
use Rattle.git_replies.proofs.ReadLaws.{reads_one}
use Rattle.git_words.specs.Words.{IsCommand}
use Rattle.git_words.specs.declared.commands.Command.{Command}
use Rattle.git_words.specs.declared.commands.Command.TheVariants as command
use Rattle.git_words.proofs.OneCommand.{one_command}
use Rattle.git_make.specs.Samples.{IsSample}
use Rattle.git_make.proofs.Inputs.{one_input}
use Rattle.git_text.specs.Writing.{input_text}
use Rattle.git_cone_replies.proofs.AllAnswers.{one_answered}
use Rattle.git_questions.specs.Questions.{all_cones_of, locate_of, tells_cones}
use Rattle.git_questions.proofs.Weighted.{weighted_one}
use Rattle.git_weight_replies.specs.WeightCases.{locate_case}
use Rattle.git_weight_replies.proofs.WeightAnswers as place
use Rattle.git_bunch_replies.specs.BunchCases.{bunches_of, tells}
use Rattle.git_bunch_replies.proofs.Replied.{one_of_input}
use Rattle.git_defs.specs.Vectors.{Vector}
use Rattle.git_grading.specs.Gradings.{IsGrading}
use Rattle.git_text.proofs.Matrices.{text_is_a_grading}
use Rattle.git_answers.specs.Faces.{faces_of}
use Rattle.git_commands.specs.Commands.{makes, output_of, sample_options, command_answer}
use Rattle.git_top.specs.Run.{no_command}
use Rattle.git_top.specs.Laws.{OneAnswer}
use Rattle.git_answers.proofs.OneFan.{one_fan, opening_along}

-- ---- fan

le_same : (a b : ℕ) → a ≤ b → b ≤ a → a ≡ b
le_same a b l m = omega (arith, l, m)

whole_one : (v : InputValue) (n : Options) → HasOne (whole_stops v n)
whole_one v n = one_by (StopsWith v n.steps (whole_face v)) (λ s o. o ≡ says s (stop_text s (whole_face v))) (one_stop v n.steps (whole_face v)) (λ s. one_is (says s (stop_text s (whole_face v))))

one_wide_face : (v : InputValue) (mask : ℕ) → HasOne (IsWideFace v mask)
one_wide_face v mask a b p q =
    let e = wide_once v.degrees.k (face v.degrees.columns mask) a.stage b.stage a.what b.what p.1 q.1 in
    λ i. record { stage = e.0 i; what = e.1 i }

wide_one : (v : InputValue) → HasOne (wide_cone v)
wide_one v =
    one_by (IsFirst (λ a b. a ≤ b) (λ m. (at : WideAt) × IsWideFace v m at)) (λ mask o. (at : WideAt) × IsWideFace v mask at × (o ≡ says status.Wide (wide_face_text mask at)))
    (one_first (λ a b. a ≤ b) (λ m. (at : WideAt) × IsWideFace v m at) le_same)
    (λ mask. one_by (IsWideFace v mask) (λ at o. o ≡ says status.Wide (wide_face_text mask at)) (one_wide_face v mask) (λ at. one_is (says status.Wide (wide_face_text mask at))))

table_wide_one : (v : InputValue) (n : Options) → HasOne (table_wide v n)
table_wide_one v n x y a b = a.3 ∙ ap (λ (f : Fan). says status.TableWide (table_wide_text n.table (width_of f))) (one_fan v a.0 b.0 a.1 b.1) ∙ sym b.3

-- the order of signatures
level : (a b : Signature) (o p : Ordering) → signature_cmp a b ≡ o → o ≡ ordering_reverse p → (o ≢ Greater) → (p ≢ Greater) → signature_cmp a b ≡ Equal
level a b Less Less is turned here other = let h : Less ≡ Greater = turned in cc h
level a b Less Equal is turned here other = let h : Less ≡ Equal = turned in cc h
level a b Less Greater is turned here other = absurd (other refl)
level a b Equal p is turned here other = is
level a b Greater p is turned here other = absurd (here refl)

up_same : (a b : Signature) → UpTo a b → UpTo b a → a ≡ b
up_same a b p q = (equal_words a b).0 (level_words a b (ap is_eq (level a b (signature_cmp a b) (signature_cmp b a) refl (signature_total.antisymm a b) p q)))

refusal_one : (sig : Signature) (c : Cell) → HasOne (Refuses sig c)
refusal_one sig (cell.Good c) x y p q = absurd p
refusal_one sig (cell.Wide at) x y p q = p ∙ sym q

refused_one : (fan : Fan) (sig : Signature) → HasOne (IsRefused fan sig)
refused_one fan sig = one_by (IsCell fan sig) (Refuses sig) (one_cell fan sig) (refusal_one sig)

bad_one : (fan : Fan) (first : Signature) → HasOne (λ o. (sig : Signature) × IsFirst UpTo (IsBad fan first) sig × IsRefused fan sig o)
bad_one fan first = one_by (IsFirst UpTo (IsBad fan first)) (IsRefused fan) (one_first UpTo (IsBad fan first) up_same) (refused_one fan)

not_good_one : (v : InputValue) → HasOne (not_good v)
not_good_one v x y a b =
    bad_one b.0 b.1 x y
    (opening_along v a.0 b.0 a.1 b.1 (λ fan first. (sig : Signature) × IsFirst UpTo (IsBad fan first) sig × IsRefused fan sig x) a.2 b.2 a.3) b.3

refuses_one : (v : InputValue) (n : Options) → HasOne (refuses n v)
refuses_one v n =
    one_of (whole_stops v n) (after_whole n v) (whole_one v n) (λ a.
    one_of (has_monomial v) (other_stops v n otherwise after_verdicts n v) (λ x y p q. p.1 ∙ sym q.1) (λ b.
    one_of (other_stops v n) (after_verdicts n v) (first_stop_one v n.steps (λ m. (m ≢ whole_face v) × StopsAt v n.steps m)) (λ c.
    one_of (wide_cone v) (after_cones n v) (wide_one v) (λ d.
    one_of (table_wide v n) (table_full v n otherwise not_good v) (table_wide_one v n) (λ e.
    one_of (table_full v n) (not_good v) (λ x y p q. p.4 ∙ sym q.4) (λ f. not_good_one v))))))

-- an input has one listing
listing_along : (v : InputValue) (a b : Fan) (l m : Listing) (P : Fan → Listing → Type 0) → IsListingOf v a l → IsListingOf v b m → P a l → P b m
listing_along v a b l m P p q h =
    let fans = one_fan v a b p.opening.is_fan q.opening.is_fan in
    let other : IsListing b q.first (length v.degrees.columns) l = opening_along v a b p.first q.first (λ fan first. IsListing fan first (length v.degrees.columns) l) p.opening q.opening p.listing in
    subst (P b) (one_listing b q.first (length v.degrees.columns) l m other q.listing) (subst (λ (fan : Fan). P fan l) fans h)

lists_one : (v : InputValue) (of_listing : Fan → Listing → Case) → ((fan : Fan) (l : Listing) → IsListingOf v fan l → HasOne (of_listing fan l)) → HasOne (lists of_listing v)
lists_one v of_listing one x y a b = one b.0 b.1 b.2 x y (listing_along v a.0 b.0 a.1 b.1 (λ fan l. of_listing fan l x) a.2 b.2 a.3) b.3

-- what is answered of a listing, where the listing has one answer
listed_one : (v : InputValue) (n : Options) (of_listing : Fan → Listing → Case) → (Passes (refuses n v) → (fan : Fan) (l : Listing) → IsListingOf v fan l → HasOne (of_listing fan l)) → HasOne (listed_then n of_listing v)
listed_one v n of_listing one = one_of (refuses n v) (lists of_listing v) (refuses_one v n) (λ p. lists_one v of_listing (one p))

fan_one : (v : InputValue) (n : Options) (output : Output) → HasOne (fan_of n output v)
fan_one v n output = listed_one v n (writes output) (λ p fan l is. one_is (written output l))

-- ---- commands

makes_one : (run : Bool) (v : InputValue) → HasOne (makes run v)
makes_one false v = one_is (says status.Done (input_text v))
makes_one true v = fan_one v sample_options Counted

cones_one : (v : InputValue) (n : Options) → HasOne (all_cones_of n v)
cones_one v n = listed_one v n tells_cones (λ p fan l is. one_answered l)

-- where nothing refuses, the ideal has no monomial
pub no_monomial : (v : InputValue) (n : Options) → Passes (refuses n v) → Passes (has_monomial v)
no_monomial v n p o has = p o (inr ((λ u stop. p u (inl stop)), inl has))

weights_one : (v : InputValue) (n : Options) (ws : List Vector) → IsGrading v.degrees.k v.degrees.columns → HasOne (locate_of n ws v)
weights_one v n ws g = listed_one v n (locate_case ws) (λ p fan l is. place.one_answered ws fan l (place.some_cone v g fan (no_monomial v n p) is.opening.is_fan))

bunches_one : (v : InputValue) (n : Options) → HasOne (bunches_of n v)
bunches_one v n = listed_one v n (tells v) (λ p fan l is. one_of_input v fan l)

command_one : (c : Command) (bytes : List ℕ) → HasOne (command_answer c bytes)
command_one (command.Fan workers table steps certs) bytes = reads_one (fan_of (options table steps) (output_of certs)) bytes (λ v is. fan_one v (options table steps) (output_of certs))
command_one (command.Faces steps) bytes = reads_one (faces_of steps) bytes (λ v is. faces_one v steps)
command_one (command.Make sample run) bytes = one_by (IsSample sample) (makes run) (one_input sample) (makes_one run)
command_one (command.AllCones table steps) bytes = reads_one (all_cones_of (options table steps)) bytes (λ v is. cones_one v (options table steps))
command_one (command.Locate table steps) bytes =
    weighted_one (λ v ws. locate_of (options table steps) ws v) bytes (λ v ws is. (let i = is.front.input in weights_one v (options table steps) ws (text_is_a_grading i.matrix_lines v.degrees i.matrix)))
command_one (command.Bunch table steps) bytes = reads_one (bunches_of (options table steps)) bytes (λ v is. bunches_one v (options table steps))

pub one_answer : OneAnswer
one_answer words bytes =
    one_of (no_command words) (λ o. (c : Command) × IsCommand words c × command_answer c bytes o) (λ x y a b. a.1 ∙ sym b.1) (λ p.
    one_by (IsCommand words) (λ c. command_answer c bytes) (one_command words) (λ c. command_one c bytes))
