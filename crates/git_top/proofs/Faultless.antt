-- No answer is a fault of reading, of writing or of memory.
use Rattle.std.specs.Prelude.{true, false}
use Rattle.std.proofs.Common.{◌≡◌, ◌⊎◌, ◌≤◌, ℕ, Bool, List, inl, inr, sym, ◌∙◌, ap, subst, arith, Option}
use Rattle.git_base.specs.declared.status.Status.{Status}
use Rattle.git_base.specs.declared.status.Status.TheVariants.{Usage, ReadFault, WriteFault, NoMemory}
use Rattle.git_base.specs.Status.{code_of}
use Rattle.git_machine.specs.Signatures.{Signature}
use Rattle.git_chamber.specs.declared.cell.Cell.{Cell}
use Rattle.git_chamber.specs.declared.cell.Cell.TheVariants as cell
use Rattle.git_orbit.specs.Orbits as orbits
use Rattle.git_listing.specs.Listings.{Listing}
use Rattle.git_input.specs.Inputs.{InputValue}
use Rattle.git_words.specs.declared.commands.Command.{Command}
use Rattle.git_words.specs.declared.commands.Command.TheVariants.{Fan, Faces, Make, AllCones, Locate, Bunch}
use Rattle.git_replies.specs.Cases.{Case, Outcome}
use Rattle.git_replies.specs.Reads.{reads}
use Rattle.git_answers.specs.Verdicts.{StopsWith}
use Rattle.git_answers.specs.Faces.{faces_of}
use Rattle.git_answers.specs.Fan.{Options, options, Refuses, after_cones, after_verdicts, after_whole, refuses, listed_then, writes, fan_of}
use Rattle.git_answers.specs.declared.output.Output.{Output}
use Rattle.git_answers.specs.declared.output.Output.TheVariants.{Counted}
use Rattle.git_answers.specs.Ends.{over, Ends, whole, cut, unread, starved, WritesOr}
use Rattle.git_fan.proofs.NotGood.{written_done}
use Rattle.git_cone_replies.specs.ConeCases.{cones_case}
use Rattle.git_defs.specs.Vectors.{Vector}
use Rattle.git_weighted.specs.Reads.{reads_weighted}
use Rattle.git_weight_replies.specs.WeightCases.{locate_case}
use Rattle.git_bunch_replies.specs.BunchCases.{bunches_of, tells}
use Rattle.git_questions.proofs.Weighted.{locate_status}
use Rattle.git_questions.specs.Questions.{all_cones_of, locate_of, tells_cones}
use Rattle.git_questions.proofs.AllCones.{cones_status}
use Rattle.git_commands.specs.Commands.{command_answer, makes, output_of, reply_of, sample_options}
use Rattle.git_top.specs.Laws.{IsNoFault, NoAnswerIsAFault}

-- the code is none of those of faults of reading, of writing and of memory
abbrev IsOther : Status → Type 0
IsOther s = (code_of s ≤ 10) ⊎ (14 ≤ code_of s)

low_by : (s t : Status) → s ≡ t → IsOther t → IsOther s
low_by s t is low = subst IsOther (sym is) low

along : (o p : Outcome) → o ≡ p → IsOther p.status → IsOther o.status
along o p is low = subst (λ (q : Outcome). IsOther q.status) (sym is) low

low_stop : (v : InputValue) (limit mask : ℕ) (s : Status) → StopsWith v limit mask s → IsOther s
low_stop v limit mask s (inl steps) = low_by s _ steps.0 (inl (omega arith))
low_stop v limit mask s (inr degree) = low_by s _ degree.0 (inl (omega arith))

low_refused : (sig : Signature) (c : Cell) (o : Outcome) → Refuses sig c o → IsOther o.status
low_refused sig (cell.Good c) o refused = absurd refused
low_refused sig (cell.Wide at) o refused = along o _ refused (inl (omega arith))

module _ (v : InputValue) (n : Options) (o : Outcome) where
  low_cones : after_cones n v o → IsOther o.status
  low_cones (inl wide) = along o _ wide.3 (inl (omega arith))
  low_cones (inr (p, inl full)) = along o _ full.4 (inl (omega arith))
  low_cones (inr (p, inr (q, bad))) = low_refused bad.3.0 bad.3.2.0 o bad.3.2.2

  low_verdicts : after_verdicts n v o → IsOther o.status
  low_verdicts (inl wide) = along o _ wide.2.2 (inl (omega arith))
  low_verdicts (inr (p, rest)) = low_cones rest

  low_whole : after_whole n v o → IsOther o.status
  low_whole (inl has) = along o _ has.1 (inl (omega arith))
  low_whole (inr (p, inl stop)) = along o _ stop.2.2 (low_stop v n.steps stop.0 stop.2.0 stop.2.1)
  low_whole (inr (p, inr (q, rest))) = low_verdicts rest

  low_refuses : refuses n v o → IsOther o.status
  low_refuses (inl stop) = along o _ stop.2 (low_stop v n.steps _ stop.0 stop.1)
  low_refuses (inr (p, rest)) = low_whole rest

  low_listed : (of_listing : orbits.Fan → Listing → Case) → ((fan : orbits.Fan) (l : Listing) → of_listing fan l o → IsOther o.status) → listed_then n of_listing v o → IsOther o.status
  low_listed of_listing low (inl refused) = low_refuses refused
  low_listed of_listing low (inr (p, l)) = low l.0 l.1 l.3

  low_fan : (output : Output) → fan_of n output v o → IsOther o.status
  low_fan output h = low_listed (writes output) (λ fan l is. along o _ is (low_by _ _ (written_done output l) (inl (omega arith)))) h

low_faces : (limit : ℕ) (v : InputValue) (o : Outcome) → faces_of limit v o → IsOther o.status
low_faces limit v o (inl stop) = along o _ stop.2.2 (low_stop v limit stop.0 stop.2.0 stop.2.1)
low_faces limit v o (inr done) = along o _ done.1 (inl (omega arith))

low_cones_of : (l : Listing) (o : Outcome) → cones_case l o → IsOther o.status
low_cones_of l o h = elim (cones_status l o h) [
  | inl many ↦ low_by _ _ many (inr (omega arith))
  | inr (inl wide) ↦ low_by _ _ wide (inl (omega arith))
  | inr (inr done) ↦ low_by _ _ done (inl (omega arith))
]

low_weights_of : (ws : List Vector) (fan : orbits.Fan) (l : Listing) (o : Outcome) → locate_case ws fan l o → IsOther o.status
low_weights_of ws fan l o h = elim (locate_status ws fan l o h) [ inl wide ↦ low_by _ _ wide (inl (omega arith)) | inr done ↦ low_by _ _ done (inl (omega arith)) ]

low_makes : (run : Bool) (v : InputValue) (o : Outcome) → makes run v o → IsOther o.status
low_makes false v o h = along o _ h (inl (omega arith))
low_makes true v o h = low_fan v sample_options o Counted h

low_read : (cases : InputValue → Case) (bytes : List ℕ) (o : Outcome) → ((v : InputValue) → cases v o → IsOther o.status) → reads cases bytes o → IsOther o.status
low_read cases bytes o low (inl long) = along o _ long.1 (inl (omega arith))
low_read cases bytes o low (inr (p, inl fault)) = along o _ fault.is (inl (omega arith))
low_read cases bytes o low (inr (p, inr (q, input))) = low input.0 input.2

low_weighted : (cases : InputValue → List Vector → Case) (bytes : List ℕ) (o : Outcome) → ((v : InputValue) (ws : List Vector) → cases v ws o → IsOther o.status) → reads_weighted cases bytes o → IsOther o.status
low_weighted cases bytes o low (inl (inl long)) = along o _ long.1 (inl (omega arith))
low_weighted cases bytes o low (inl (inr (p, inl fault))) = along o _ fault.is (inl (omega arith))
low_weighted cases bytes o low (inl (inr (p, inr (q, fault)))) = along o _ fault.is (inl (omega arith))
low_weighted cases bytes o low (inr (p, w)) = low w.0 w.1 w.3

low_command : (c : Command) (bytes : List ℕ) (o : Outcome) → command_answer c bytes o → IsOther o.status
low_command (Fan workers table steps certs) bytes o h = low_read (fan_of (options table steps) (output_of certs)) bytes o (λ v d. low_fan v (options table steps) o (output_of certs) d) h
low_command (Faces steps) bytes o h = low_read (faces_of steps) bytes o (λ v d. low_faces steps v o d) h
low_command (Make sample run) bytes o h = low_makes run h.0 o h.2
low_command (AllCones table steps) bytes o h =
    low_read (all_cones_of (options table steps)) bytes o (λ v d. low_listed v (options table steps) o tells_cones (λ fan l is. low_cones_of l o is) d) h
low_command (Locate table steps) bytes o h =
    low_weighted (λ v ws. locate_of (options table steps) ws v) bytes o (λ v ws d. low_listed v (options table steps) o (locate_case ws) (λ fan l is. low_weights_of ws fan l o is) d) h
low_command (Bunch table steps) bytes o h =
    low_read (bunches_of (options table steps)) bytes o (λ v d. low_listed v (options table steps) o (tells v) (λ fan l is. along o _ is.2.2 (inl (omega arith))) d) h

code_is : (s t : Status) → s ≡ t → code_of s ≡ code_of t
code_is s t is = ap code_of is

-- such a code is apart from these three
no_fault : (s : Status) → IsOther s → IsNoFault s
no_fault s (inl low) = (
  (λ is. let e = code_is s ReadFault is in omega (arith, low, e)),
  (λ is. let e = code_is s WriteFault is in omega (arith, low, e)),
  (λ is. let e = code_is s NoMemory is in omega (arith, low, e)),
)
no_fault s (inr high) = (
  (λ is. let e = code_is s ReadFault is in omega (arith, high, e)),
  (λ is. let e = code_is s WriteFault is in omega (arith, high, e)),
  (λ is. let e = code_is s NoMemory is in omega (arith, high, e)),
)

pub no_answer_is_a_fault : NoAnswerIsAFault
no_answer_is_a_fault words bytes o (inl none) = no_fault o.status (along o _ none.1 (inl (omega arith)))
no_answer_is_a_fault words bytes o (inr (p, h)) = no_fault o.status (low_command h.0 bytes o h.2)

apart : (s : Status) → s ≡ ReadFault → code_of s ≡ 11
apart s is = ap code_of is

twelve : ◌≡◌ {A = ℕ} 12 11 → ⊥
twelve h = omega (arith, h)

thirteen : ◌≡◌ {A = ℕ} 13 11 → ⊥
thirteen h = omega (arith, h)

-- a read fault that a command answers is one of its reads
pub read_rose : (c : Command) (left : Option (List ℕ)) (read write : Type 0) (old new : Option (List ℕ)) (result : Status) → Ends (over left (reply_of c)) read write old new result → result ≡ ReadFault → read
read_rose c left read write old new result (whole text d a) is =
    absurd ((no_fault d.2.0.status (low_command c d.0 d.2.0 d.2.1)).0 (d.2.2 ∙ is))
read_rose c left read write old new result (cut s text d front failed rose) is = absurd (twelve (apart WriteFault (sym failed ∙ is)))
read_rose c left read write old new result (unread failed rose keeps) is = rose
read_rose c left read write old new result (starved none keeps) is = absurd (thirteen (apart NoMemory (sym none ∙ is)))

two : ◌≡◌ {A = ℕ} 2 11 → ⊥
two h = omega (arith, h)

-- a line of usage is written, or a write fails
pub usage_is_no_read_fault : (result : Status) (text : List ℕ) (old new : Option (List ℕ)) (write : Type 0) → WritesOr Usage text old new write result → result ≡ ReadFault → ⊥
usage_is_no_read_fault result text old new write (inl w) is = two (apart Usage (sym w.0 ∙ is))
usage_is_no_read_fault result text old new write (inr w) is = twelve (apart WriteFault (sym w.0 ∙ is))
