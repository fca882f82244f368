-- Any words and any bytes have a reply, with its certificates.
use Rattle.std.proofs.Common.{◌≡◌, ℕ, ◌^◌, ◌<◌, ◌≤◌, Bool, List, [], ◌∷◌, ◌++◌, length, map, inl, inr, refl, sym, ap, subst, le_refl, arith, Global}
use Rattle.std.specs.Prelude.{AllPairs, Contains, true, false}
use Rattle.std.specs.Global.{Vec}
use Rattle.std.proofs.Math.Pow.{pow_mono}
use denote.RawPtr.{null_ptr}
use Rattle.git_lemmas.specs.Members.{Member}
use Rattle.git_lemmas.proofs.Members.{contains_member, member_contains, all_member, member_all}
use Rattle.git_base.specs.declared.status.Status.{Status}
use Rattle.git_limits.specs.declared.TheConstants.{COLUMNS, STEPS}
use Rattle.git_grading.specs.Gradings.{IsGrading}
use Rattle.git_input.specs.Inputs.{InputValue, AreGenerators}
use Rattle.git_facecert.specs.declared.certificate.FaceCert.TheVariants as cert
use Rattle.git_facecert.specs.declared.certificate.FaceVerdict.{FaceVerdict}
use Rattle.git_saturate.proofs.Verdicts.{degrees_small}
use Rattle.git_faces.specs.FaceVerdicts.{RunEnds}
use Rattle.git_faces.specs.FullFaces.{AreFullFaces}
use Rattle.git_faces.proofs.FullLists.{some as full_list}
use Rattle.git_faces.proofs.FirstStops.{some as first_or_all}
use Rattle.git_faces.proofs.Certified.{certified}
use Rattle.git_orbit.specs.Orbits.{Fan}
use Rattle.git_listing.specs.Listings.{Listing}
use Rattle.git_machine.specs.Signatures.{Signature}
use Rattle.git_chamber.specs.declared.cell.Cell.{Cell}
use Rattle.git_chamber.specs.declared.cell.Cell.TheVariants as cell
use Rattle.git_certtext.specs.CertificateText.{block_text, certificates_text}
use Rattle.git_text.specs.Grammar.{IsInput}
use Rattle.git_text.proofs.Matrices.{text_is_a_grading}
use Rattle.git_text.proofs.GeneratorLines.{are_generators}
use Rattle.git_words.specs.Words.{IsCommand}
use Rattle.git_words.specs.Laws.{IsInRange}
use Rattle.git_words.specs.declared.commands.Command.{Command}
use Rattle.git_words.specs.declared.commands.Command.TheVariants as command
use Rattle.git_words.proofs.OneCommand.{commands_are_in_range}
use Rattle.git_make.proofs.Inputs.{samples_are_inputs}
use Rattle.git_replies.specs.Cases.{Case, Tail, nothing, Outcome, Passes, says, ◌otherwise◌}
use Rattle.git_replies.specs.Lines.{stop_text}
use Rattle.git_replies.specs.Reads.{reads}
use Rattle.git_answers.specs.Ends.{IsTailOf}
use Rattle.git_answers.specs.Verdicts.{IsFullFace, IsVerdict, AreVerdicts, IsTail, whole_face}
use Rattle.git_answers.specs.Faces.{face_stops, faces_of}
use Rattle.git_answers.specs.Fan.{Options, options, written, Refuses, has_monomial, whole_stops, not_good, after_cones, after_verdicts, after_whole, refuses, listed_then, fan_of}
use Rattle.git_answers.specs.declared.output.Output.{Output}
use Rattle.git_answers.specs.declared.output.Output.TheVariants.{Plain, Certified, Counted}
use Rattle.git_answers.proofs.OneFan.{whole_full}
use Rattle.git_fan.proofs.FullFaces.{first_full}
use Rattle.git_questions.specs.Questions.{all_cones_of, locate_of, tells_cones}
use Rattle.git_weighted.specs.Reads.{reads_weighted}
use Rattle.git_weight_replies.specs.WeightCases.{locate_case}
use Rattle.git_bunch_replies.specs.BunchCases.{bunches_of, tells}
use Rattle.git_questions.proofs.Weighted.{locate_bare}
use Rattle.git_questions.proofs.AllCones.{cones_bare}
use Rattle.git_commands.specs.Commands.{makes, output_of, sample_options, InputOf, command_answer}
use Rattle.git_top.specs.Run.{answer_to, InputFor}
use Rattle.git_top.specs.Laws.{EachHasAReply}
use Rattle.git_top.proofs.EachAnswer.{each_text_has_an_answer}
use Rattle.git_top.proofs.FacesExist.{stop_of}
use Rattle.git_top.proofs.FanExist.{runs_end, whole_ends}

-- ---- a vector with these elements
abbrev heap : Global
heap = record { memory = record { seal = tt } }

abbrev vector_of : {X : Type 0} (xs : List X) → length xs < 2 ^ 63 → Vec X
vector_of xs small = record { ptr = null_ptr; len = length xs; cap = length xs; alloc = heap; items = xs; ok = (refl, le_refl (length xs)); small = small }

module _ (v : InputValue) where
  -- some certificates follow
  abbrev HasTail : Tail → Type 0
  HasTail tail = (text : List ℕ) × IsTail v tail text

  along : (o u : Outcome) → o ≡ u → HasTail u.tail → HasTail o.tail
  along o u e h = subst (λ (w : Outcome). HasTail w.tail) (sym e) h

  none : (o : Outcome) (s : Status) (text : List ℕ) → o ≡ says s text → HasTail o.tail
  none o s text e = along o (says s text) e ([], refl)

  module _ (limit : ℕ) (few : limit ≤ STEPS) (g : IsGrading v.degrees.k v.degrees.columns) (gens : AreGenerators v.degrees v.generators) where
    low_mask : (m : ℕ) → IsFullFace v m → m < 2 ^ COLUMNS
    low_mask m f =
        let short : length v.degrees.columns ≤ 16 = g.matrix.few_columns in
        let room : 2 ^ length v.degrees.columns ≤ 2 ^ 16 = pow_mono short in
        let low = f.in_range in omega (arith, room, low)

    -- a full face whose run ends has a verdict
    verdict_at : (m : ℕ) → IsFullFace v m → RunEnds v.generators limit m → (f : FaceVerdict) × (f.mask ≡ m) × IsVerdict v f
    verdict_at m f e = elim (certified v.generators limit m (low_mask m f) few (degrees_small v.degrees.columns v.generators v.generators refl gens.graded) e) [
      | inl free ↦ (
          let most = free.1.1.2 in
          (record { mask = m; cert = cert.Free (vector_of free.1.0 (omega (arith, most))) }, refl, record { accepted = free.1.1; free = (λ t. free.0, λ a. tt) }))
      | inr monomial ↦ (
          let each = monomial.1.accepted.one_each in
          let most = gens.few in (
            record { mask = m; cert = cert.Monomial monomial.1.exponent (vector_of monomial.1.cofactors (omega (arith, each, most))) },
            refl,
            record { accepted = (monomial.1.accepted, omega (arith, each, most)); free = (λ t. absurd t, λ a. absurd (monomial.0 a)) },
          ))
    ]

    verdicts_at : (ms : List ℕ) → ((m : ℕ) → Member m ms → IsFullFace v m × RunEnds v.generators limit m)
        → (fs : List FaceVerdict) × (map (λ (f : FaceVerdict). f.mask) fs ≡ ms) × ((f : FaceVerdict) → Member f fs → IsVerdict v f)
    verdicts_at [] h = ([], refl, λ f o. absurd o)
    verdicts_at (m ∷ ms) h =
        let here = h m (inl refl) in
        let one = verdict_at m here.0 here.1 in
        let rest = verdicts_at ms (λ n o. h n (inr o)) in
        (one.0 ∷ rest.0, (λ i. one.1 i ∷ rest.1 i), λ f o. elim o [ inl e ↦ subst (IsVerdict v) e one.2 | inr later ↦ rest.2 f later ])

    full : (masks : List ℕ) × AreFullFaces v.degrees.k v.degrees.columns masks
    full = full_list v.degrees.k v.degrees.columns g.matrix.lengths

    -- all verdicts, where all runs end
    all_verdicts : ((m : ℕ) → IsFullFace v m → RunEnds v.generators limit m) → (list : List FaceVerdict) × AreVerdicts v list
    all_verdicts runs =
        let fs = verdicts_at full.0 (λ m o. (let f = (full.1.each m).0 (member_contains m full.0 o) in (f, runs m f))) in (
          fs.0,
          record {
            descending = subst (AllPairs (λ (m n : ℕ). n < m)) (sym fs.1) full.1.descending;
            full = λ m. (λ c. (full.1.each m).0 (subst (λ (l : List ℕ). Contains l m) fs.1 c), λ f. subst (λ (l : List ℕ). Contains l m) (sym fs.1) ((full.1.each m).1 f));
            each = member_all (IsVerdict v) fs.0 fs.2;
          },
        )

    certified_tail : ((m : ℕ) → IsFullFace v m → RunEnds v.generators limit m) → HasTail Rattle.git_replies.specs.Cases.certificates
    certified_tail runs = let l = all_verdicts runs in (certificates_text l.0, (l.0, l.1, refl))

    -- ---- `faces`
    faces_run : Passes (face_stops v limit) → (m : ℕ) → IsFullFace v m → RunEnds v.generators limit m
    faces_run p m f = elim (first_or_all v.generators limit full.0) [
      | inl all ↦ all_member (RunEnds v.generators limit) m full.0 all (contains_member m full.0 ((full.1.each m).1 f))
      | inr s ↦ (let t = stop_of v limit s.mask s.stops in
          absurd (p (says t.0 (stop_text t.0 s.mask)) (s.mask, first_full v limit full.0 s.mask t.0 full.1 s.before t.1, (t.0, t.1, refl))))
    ]

    faces_tail : (o : Outcome) → faces_of limit v o → HasTail o.tail
    faces_tail o (inl s) = none o s.2.0 (stop_text s.2.0 s.0) s.2.2
    faces_tail o (inr d) = along o _ d.1 (certified_tail (faces_run d.0))

  module _ (n : Options) (few : n.steps ≤ STEPS) (g : IsGrading v.degrees.k v.degrees.columns) (gens : AreGenerators v.degrees v.generators) where
    -- ---- `fan`
    refused_tail : (sig : Signature) (c : Cell) (o : Outcome) → Refuses sig c o → HasTail o.tail
    refused_tail sig (cell.Good c) o r = absurd r
    refused_tail sig (cell.Wide at) o r = none o _ _ r

    bad_tail : (o : Outcome) → not_good v o → HasTail o.tail
    bad_tail o bad = (let refused = bad.3.2 in refused_tail bad.3.0 refused.0 o refused.2)

    cones_tail : (o : Outcome) → after_cones n v o → HasTail o.tail
    cones_tail o (inl wide) = none o _ _ wide.3
    cones_tail o (inr (p, inl more)) = none o _ _ more.4
    cones_tail o (inr (p, inr (q, bad))) = bad_tail o bad

    verdicts_tail : (o : Outcome) → after_verdicts n v o → HasTail o.tail
    verdicts_tail o (inl wide) = none o _ _ wide.2.2
    verdicts_tail o (inr d) = cones_tail o d.1

    whole_tail : (o : Outcome) → RunEnds v.generators n.steps (whole_face v) → after_whole n v o → HasTail o.tail
    whole_tail o e (inl m) = (let f = verdict_at n.steps few g gens (whole_face v) (whole_full v g) e in along o _ m.1 (block_text f.0, (f.0, f.1, f.2, refl)))
    whole_tail o e (inr (p, inl s)) = none o _ _ s.2.2
    whole_tail o e (inr (p, inr (q, d))) = verdicts_tail o d

    refuses_tail : (o : Outcome) → refuses n v o → HasTail o.tail
    refuses_tail o (inl s) = none o _ _ s.2
    refuses_tail o (inr d) = whole_tail o (whole_ends v n g gens d.0) d.1

    written_tail : (output : Output) (l : Listing) → Passes (refuses n v) → HasTail (written output l).tail
    written_tail Plain l p = ([], refl)
    written_tail Certified l p = certified_tail n.steps few g gens (runs_end v n g gens p)
    written_tail Counted l p = ([], refl)

    -- of a listing something is told with no certificates
    listed_tail : (of_listing : Fan → Listing → Case) (o : Outcome) → ((fan : Fan) (l : Listing) → of_listing fan l o → o.tail ≡ nothing) → listed_then n of_listing v o → HasTail o.tail
    listed_tail of_listing o bare (inl refused) = refuses_tail o refused
    listed_tail of_listing o bare (inr (p, l)) = subst HasTail (sym (bare l.0 l.1 l.3)) ([], refl)

    fan_tail : (output : Output) (o : Outcome) → fan_of n output v o → HasTail o.tail
    fan_tail output o (inl refused) = refuses_tail o refused
    fan_tail output o (inr (p, l)) = along o (written output l.1) l.3 (written_tail output l.1 p)

-- ---- commands
makes_tail : (run : Bool) (v : InputValue) (o : Outcome) → IsGrading v.degrees.k v.degrees.columns → AreGenerators v.degrees v.generators → makes run v o → HasTail v o.tail
makes_tail false v o g gens h = none v o _ _ h
makes_tail true v o g gens h = fan_tail v sample_options (omega arith) g gens Counted o h

module _ (words : List (List ℕ)) (bytes : List ℕ) where
  abbrev HasTold : Tail → Type 0
  HasTold tail = (text : List ℕ) × IsTailOf (InputFor words bytes) tail text

  none_told : (o : Outcome) (s : Status) (text : List ℕ) → o ≡ says s text → HasTold o.tail
  none_told o s text e = ([], inl (ap (λ (u : Outcome). u.tail) e, refl))

  input_told : (c : Command) (v : InputValue) (o : Outcome) → IsCommand words c → InputOf c bytes v → HasTail v o.tail → HasTold o.tail
  input_told c v o is told h = (h.0, inr (v, (c, is, told), h.1))

  read_told : (c : Command) (cases : InputValue → Case) (o : Outcome) → IsCommand words c → ((v : InputValue) → IsInput bytes v → InputOf c bytes v)
      → ((v : InputValue) → IsGrading v.degrees.k v.degrees.columns → AreGenerators v.degrees v.generators → cases v o → HasTail v o.tail) → reads cases bytes o → HasTold o.tail
  read_told c cases o is told tail (inl long) = none_told o _ _ long.1
  read_told c cases o is told tail (inr (p, inl fault)) = none_told o _ _ fault.is
  read_told c cases o is told tail (inr (p, inr (q, h))) =
      let i = h.1 in
      input_told c h.0 o is (told h.0 i) (tail h.0 (text_is_a_grading i.matrix_lines h.0.degrees i.matrix) (are_generators h.0.degrees i.ideal i.polynomials h.0.generators i.ideal_is i.polynomials_are) h.2)

  weights_told : (table steps : ℕ) (o : Outcome) → IsCommand words (command.Locate table steps) → steps ≤ STEPS → reads_weighted (λ v ws. locate_of (options table steps) ws v) bytes o → HasTold o.tail
  weights_told table steps o is few (inl (inl long)) = none_told o _ _ long.1
  weights_told table steps o is few (inl (inr (p, inl fault))) = none_told o _ _ fault.is
  weights_told table steps o is few (inl (inr (p, inr (q, fault)))) = none_told o _ _ fault.is
  weights_told table steps o is few (inr (p, w)) =
      let i = w.2.front.input in
      input_told (command.Locate table steps) w.0 o is (w.1, w.2) (
      listed_tail w.0 (options table steps) few (text_is_a_grading i.matrix_lines w.0.degrees i.matrix) (are_generators w.0.degrees i.ideal i.polynomials w.0.generators i.ideal_is i.polynomials_are)
      (locate_case w.1) o (λ fan l told. locate_bare w.1 fan l o told) w.3)

  command_told : (c : Command) (o : Outcome) → IsCommand words c → command_answer c bytes o → HasTold o.tail
  command_told (command.Fan workers table steps certs) o is h =
      let c = command.Fan workers table steps certs in let range = commands_are_in_range words c is in
      read_told c (fan_of (options table steps) (output_of certs)) o is (λ v i. i) (λ v g gens d. fan_tail v (options table steps) range.5 g gens (output_of certs) o d) h
  command_told (command.Faces steps) o is h =
      let range = commands_are_in_range words (command.Faces steps) is in
      read_told (command.Faces steps) (faces_of steps) o is (λ v i. i) (λ v g gens d. faces_tail v steps range.1 g gens o d) h
  command_told (command.AllCones table steps) o is h =
      let range = commands_are_in_range words (command.AllCones table steps) is in
      read_told (command.AllCones table steps) (all_cones_of (options table steps)) o is (λ v i. i) (λ v g gens d. listed_tail v (options table steps) range.3 g gens tells_cones o (λ fan l told. cones_bare l o told) d) h
  command_told (command.Locate table steps) o is h = weights_told table steps o is (commands_are_in_range words (command.Locate table steps) is).3 h
  command_told (command.Bunch table steps) o is h =
      let range = commands_are_in_range words (command.Bunch table steps) is in
      read_told (command.Bunch table steps) (bunches_of (options table steps)) o is (λ v i. i)
      (λ v g gens d. listed_tail v (options table steps) range.3 g gens (tells v) o (λ fan l told. ap (λ (u : Outcome). u.tail) told.2.2) d) h
  command_told (command.Make sample run) o is h =
      let range = commands_are_in_range words (command.Make sample run) is in
      let input = samples_are_inputs sample h.0 range h.1 in
      input_told (command.Make sample run) h.0 o is h.1 (makes_tail run h.0 o input.0 input.1 h.2)

  answer_told : (o : Outcome) → answer_to words bytes o → HasTold o.tail
  answer_told o (inl none) = none_told o _ _ none.1
  answer_told o (inr (p, c)) = command_told c.0 o c.1 c.2

pub each_text_has_a_reply : EachHasAReply
each_text_has_a_reply words bytes =
    let a = each_text_has_an_answer words bytes in
    let t = answer_told words bytes a.0 a.1 in
    (a.0.status, a.0.text ++ t.0, (a.0, a.1, refl, (t.0, t.1, refl)))
