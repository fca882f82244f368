-- Each input has an answer of `fan`.
use Rattle.std.proofs.Common.{◌≡◌, ◌⊎◌, ◌∙◌, ℕ, ◌+◌, ◌*◌, ◌^◌, ◌<◌, ◌≤◌, List, [], ◌∷◌, length, get_or, inl, inr, refl, sym, ap, subst, arith}
use Rattle.std.proofs.lemmas.Bool.{cases_lt, cases_eq}
use Rattle.std.proofs.Math.Pow.{pow_mono}
use Rattle.std.specs.Cmp.{tied_itself}
use Rattle.std.specs.declared.cmp.Ordering.TheVariants.{Less, Equal, Greater}
use Rattle.git_lemmas.specs.Members.{Member}
use Rattle.git_lemmas.proofs.Members.{contains_member, all_member}
use Rattle.git_lemmas.proofs.Sorting.{Ascends, ascends_of_pairs}
use Rattle.git_base.specs.declared.status.Status.TheVariants as status
use Rattle.git_grading.specs.Gradings.{IsGrading}
use Rattle.git_stages.specs.declared.wide.WideAt.{WideAt}
use Rattle.git_ideals.specs.Faces.{IsAFace}
use Rattle.git_input.specs.Inputs.{InputValue, AreGenerators}
use Rattle.git_basis.specs.Run.{after}
use Rattle.git_basis.proofs.Goes.{stops, has_unit_or_not}
use Rattle.git_saturate.proofs.Verdicts.{a_face, degrees_small}
use Rattle.git_machine.specs.Signatures.{Signature, signature_cmp}
use Rattle.git_machine.specs.Ties.{signature_total}
use Rattle.git_machine.specs.Reach.{Reached, ReachExceeds}
use Rattle.git_machine.proofs.Once.{once_fits}
use Rattle.git_plain.specs.Laws.{IsListed}
use Rattle.git_plain.proofs.Listed.{listed_or_exceeds}
use Rattle.git_orbit.specs.Orbits.{Fan}
use Rattle.git_orbit.specs.Signatures.{width_of}
use Rattle.git_orbit.specs.declared.orbit.ConesFault.TheVariants as fault
use Rattle.git_chamber.specs.Chambers.{IsCell, IsNext}
use Rattle.git_chamber.specs.Views.{IsGraph}
use Rattle.git_chamber.specs.Nexts.{one_next}
use Rattle.git_chamber.specs.declared.cell.Cell.{Cell}
use Rattle.git_chamber.specs.declared.cell.Cell.TheVariants as cell
use Rattle.git_chamber.proofs.Fulls.{legal_is_full}
use Rattle.git_chamber.proofs.Graphs.{reached_legal}
use Rattle.git_chamber.proofs.Existence.{cell_exists, next_exists}
use Rattle.git_assemble.specs.Assembling.{IsGoodSignature, AllGood}
use Rattle.git_assemble.proofs.Exists.{a_listing}
use Rattle.git_faces.specs.FaceVerdicts.{RunEnds}
use Rattle.git_faces.specs.FullFaces.{AreFullFaces}
use Rattle.git_faces.proofs.FullLists.{some as full_list}
use Rattle.git_faces.proofs.FirstStops.{some as first_or_all}
use Rattle.git_listing.specs.Listings.{Listing}
use Rattle.git_replies.specs.Cases.{Case, Passes, HasSome, Settles, Outcome, says, block, ◌otherwise◌}
use Rattle.git_answers.specs.Verdicts.{IsFullFace, start_at, whole_face}
use Rattle.git_replies.specs.Lines.{stop_text, monomial_text, wide_face_text, wide_chamber_text, table_wide_text, full_text}
use Rattle.git_answers.specs.Fan.{Options, written, writes, IsListingOf, IsRefused, UpTo, whole_stops, has_monomial, other_stops, wide_cone, table_wide, table_full, not_good, listed_then, after_cones, after_verdicts, after_whole, refuses, fan_of}
use Rattle.git_answers.specs.declared.output.Output.{Output}
use Rattle.git_fan.proofs.Opens.{neither}
use Rattle.git_top.proofs.FacesExist.{stop_of}
use Rattle.git_fan.proofs.FullFaces.{runs_on, StartsWhole, starts_whole, first_other}
use Rattle.git_fan.proofs.NotGood.{good_not_refused}
use Rattle.git_answers.proofs.OneFan.{one_fan, opening_along, whole_full}
use Rattle.git_input_cones.specs.InputCones.{IsWideFault}
use Rattle.git_input_cones.proofs.Openings.{HasOpening, wide_or_opens}

-- the fan of an input and its listing, and that it is decided which full faces are a-faces
pub record HasChambers (v : InputValue) : Type 0 where
  pub fan : Fan
  pub graph : IsGraph (record { fan = fan; columns = v.degrees.columns })
  pub listing : Listing
  pub is : IsListingOf v fan listing
  pub decided : (m : ℕ) → IsFullFace v m → IsAFace v.generators m ⊎ (IsAFace v.generators m → ⊥)

module _ (v : InputValue) (n : Options) (g : IsGrading v.degrees.k v.degrees.columns) (gens : AreGenerators v.degrees v.generators) where
  -- one of the cases decides, or the chambers are listed
  abbrev pub Settled : Case → Type 0
  Settled C = HasSome C ⊎ (Passes C × HasChambers v)

  settled_of : (C D : Case) → Settles C → (Passes C → Settled D) → Settled (λ o. (C otherwise D) o)
  settled_of C D (inl c) d = inl (c.0, inl c.1)
  settled_of C D (inr p) d = elim (d p) [ inl h ↦ inl (h.0, inr (p, h.1)) | inr h ↦ inr (neither C D p h.0, h.1) ]

  -- ---- runs
  whole_settles : Settles (whole_stops v n)
  whole_settles = elim (stops (start_at v (whole_face v)) n.steps) [
    | inl e ↦ inr (λ o h. runs_on v n.steps (whole_face v) e.0 e.1 h.0 h.1)
    | inr s ↦ (let t = stop_of v n.steps (whole_face v) s in inl (says t.0 (stop_text t.0 (whole_face v)), (t.0, t.1, refl)))
  ]

  pub whole_ends : Passes (whole_stops v n) → RunEnds v.generators n.steps (whole_face v)
  whole_ends p = elim (stops (start_at v (whole_face v)) n.steps) [
    | inl e ↦ record { steps = e.0; ends = e.1 }
    | inr s ↦ (let t = stop_of v n.steps (whole_face v) s in absurd (p (says t.0 (stop_text t.0 (whole_face v))) (t.0, t.1, refl)))
  ]

  low_mask : (m : ℕ) → IsFullFace v m → m < 65536
  low_mask m f =
      let few : length v.degrees.columns ≤ 16 = g.matrix.few_columns in
      let room : 2 ^ length v.degrees.columns ≤ 2 ^ 16 = pow_mono few in
      let low = f.in_range in omega (arith, room, low)

  face_decided : (m : ℕ) → IsFullFace v m → RunEnds v.generators n.steps m → IsAFace v.generators m ⊎ (IsAFace v.generators m → ⊥)
  face_decided m f e =
      let decides = a_face v.generators m n.steps e.steps (low_mask m f) (degrees_small v.degrees.columns v.generators v.generators refl gens.graded) e.ends in
      elim (has_unit_or_not (after (start_at v m) e.steps)) [ inl unit ↦ inr (λ is. decides.0 is unit) | inr none ↦ inl (decides.1 none) ]

  monomial_settles : RunEnds v.generators n.steps (whole_face v) → Settles (has_monomial v)
  monomial_settles e = elim (face_decided (whole_face v) (whole_full v g) e) [
    | inl a ↦ inr (λ o h. h.0 a)
    | inr out ↦ inl (record { status = status.Monomial; text = monomial_text; tail = block (whole_face v) }, (out, refl))
  ]

  is_a_face : RunEnds v.generators n.steps (whole_face v) → Passes (has_monomial v) → IsAFace v.generators (whole_face v)
  is_a_face e p = elim (face_decided (whole_face v) (whole_full v g) e) [
    | inl a ↦ a
    | inr out ↦ absurd (p (record { status = status.Monomial; text = monomial_text; tail = block (whole_face v) }) (out, refl))
  ]

  -- ---- all full faces, and the others
  full : (masks : List ℕ) × AreFullFaces v.degrees.k v.degrees.columns masks
  full = full_list v.degrees.k v.degrees.columns g.matrix.lengths

  sw : StartsWhole v full.0
  sw = starts_whole v full.0 g full.1

  others_settle : Settles (other_stops v n)
  others_settle = elim (first_or_all v.generators n.steps sw.rest) [
    | inl all ↦ inr (λ o h.
        let e = all_member (RunEnds v.generators n.steps) h.0 sw.rest all (sw.others.each h.0 h.1.holds.1.0 h.1.holds.0) in
        runs_on v n.steps h.0 e.steps e.ends h.1.holds.1.1.0 h.1.holds.1.1.1)
    | inr f ↦ (let t = stop_of v n.steps f.mask f.stops in
        inl (says t.0 (stop_text t.0 f.mask), (f.mask, first_other v n.steps sw.rest f.mask t.0 sw.others f.before t.1, (t.0, t.1, refl))))
  ]

  pub all_run : RunEnds v.generators n.steps (whole_face v) → Passes (other_stops v n) → (m : ℕ) → IsFullFace v m → RunEnds v.generators n.steps m
  all_run e p m f = elim (cases_eq m (whole_face v)) [
    | inl same ↦ subst (RunEnds v.generators n.steps) (sym same) e
    | inr other ↦ elim (first_or_all v.generators n.steps sw.rest) [
      | inl all ↦ all_member (RunEnds v.generators n.steps) m sw.rest all (sw.others.each m f other)
      | inr s ↦ (let t = stop_of v n.steps s.mask s.stops in
          absurd (p (says t.0 (stop_text t.0 s.mask)) (s.mask, first_other v n.steps sw.rest s.mask t.0 sw.others s.before t.1, (t.0, t.1, refl))))
    ]
  ]

  module _ (runs : (m : ℕ) → IsFullFace v m → RunEnds v.generators n.steps m) (a : IsAFace v.generators (whole_face v)) where
    decide : (m : ℕ) → IsFullFace v m → IsAFace v.generators m ⊎ (IsAFace v.generators m → ⊥)
    decide m f = face_decided m f (runs m f)

    wide_some : (mask : ℕ) (at : WideAt) → IsWideFault v (fault.Wide mask at) → wide_cone v (says status.Wide (wide_face_text mask at))
    wide_some mask at h = (mask, h.0, (at, h.1, refl))

    module _ (opened : HasOpening v) where
      abbrev fan : Fan
      fan = opened.fan

      abbrev first : Signature
      first = opened.first

      table_wide_settles : Settles (table_wide v n)
      table_wide_settles = elim (cases_lt (2 ^ 24) ((n.table + 64) * width_of fan)) [
        | inl more ↦ inl (says status.TableWide (table_wide_text n.table (width_of fan)), (fan, opened.opening.is_fan, more, refl))
        | inr fits ↦ inr (λ o h. (let more = subst (λ (f : Fan). 2 ^ 24 < (n.table + 64) * width_of f) (one_fan v h.0 fan h.1 opened.opening.is_fan) h.2 in omega (arith, fits, more)))
      ]

      -- ---- what is reached from the first signature
      listed : ReachExceeds (IsNext fan) first n.table ⊎ ((xs : List Signature) × IsListed (IsNext fan) first n.table xs)
      listed = listed_or_exceeds (IsNext fan) first n.table (λ s r. next_exists fan s opened.is_fan (legal_is_full fan s opened.is_fan (reached_legal fan first s opened.legal r))) (λ s x y r p q. one_next fan s x y p q)

      module _ (xs : List Signature) (l : IsListed (IsNext fan) first n.table xs) where
        fits : Passes (table_full v n)
        fits o h =
            let e = opening_along v h.0 fan h.1 first (λ f s. ReachExceeds (IsNext f) s n.table) h.2 opened.opening h.3 in
            let few = once_fits e.some xs e.once (λ i d low. l.reach.complete (get_or e.some i d) (e.reached i d low)) in
            let many = e.many in let at_most = l.few in omega (arith, few, many, at_most)

        by_cell : (s : Signature) (c : Cell) → IsCell fan s c → IsGoodSignature fan s ⊎ ((o : Outcome) × IsRefused fan s o)
        by_cell s (cell.Good c) is = inl (c, is)
        by_cell s (cell.Wide at) is = inr (says status.Wide (wide_chamber_text s at), (cell.Wide at, is, refl))

        good_or_refused : (s : Signature) → Reached (IsNext fan) first s → IsGoodSignature fan s ⊎ ((o : Outcome) × IsRefused fan s o)
        good_or_refused s r = let c = cell_exists fan s opened.is_fan (legal_is_full fan s opened.is_fan (reached_legal fan first s opened.legal r)) in by_cell s c.0 c.1

        record FirstRefused (ys : List Signature) : Type 0 where
          sig : Signature
          member : Member sig ys
          outcome : Outcome
          refused : IsRefused fan sig outcome
          before : (s : Signature) → Member s ys → IsGoodSignature fan s ⊎ UpTo sig s

        less_up : (s t : Signature) → signature_cmp s t ≡ Less → UpTo s t
        less_up s t e h = let f : Less ≡ Greater = sym e ∙ h in cc f

        self_up : (s t : Signature) → s ≡ t → UpTo s t
        self_up s t e h = let f : Equal ≡ Greater = sym (tied_itself signature_total s) ∙ ap (λ (u : Signature). signature_cmp s u) e ∙ h in cc f

        search_bad : (ys : List Signature) → Ascends (λ s t. signature_cmp s t ≡ Less) ys → ((s : Signature) → Member s ys → Reached (IsNext fan) first s) → ((s : Signature) → Member s ys → IsGoodSignature fan s) ⊎ FirstRefused ys
        search_bad [] falls reached = inl (λ s o. absurd o)
        search_bad (y ∷ ys) falls reached = by (good_or_refused y (reached y (inl refl))) (search_bad ys falls.1 (λ s o. reached s (inr o))) where
          by : IsGoodSignature fan y ⊎ ((o : Outcome) × IsRefused fan y o) → ((s : Signature) → Member s ys → IsGoodSignature fan s) ⊎ FirstRefused ys → ((s : Signature) → Member s (y ∷ ys) → IsGoodSignature fan s) ⊎ FirstRefused (y ∷ ys)
          by (inr r) rest = inr (record {
            sig = y;
            member = inl refl;
            outcome = r.0;
            refused = r.1;
            before = λ s o. elim o [ inl e ↦ inr (self_up y s e) | inr later ↦ inr (less_up y s (falls.0 s later)) ];
          })
          by (inl good) (inl all) = inl (λ s o. elim o [ inl e ↦ subst (IsGoodSignature fan) e good | inr later ↦ all s later ])
          by (inl good) (inr f) = inr (record {
            sig = f.sig;
            member = inr f.member;
            outcome = f.outcome;
            refused = f.refused;
            before = λ s o. elim o [ inl e ↦ inl (subst (IsGoodSignature fan) e good) | inr later ↦ f.before s later ];
          })

        reached_in : (s : Signature) → Member s xs → Reached (IsNext fan) first s
        reached_in s o = all_member (Reached (IsNext fan) first) s xs l.reach.sound o

        searched : ((s : Signature) → Member s xs → IsGoodSignature fan s) ⊎ FirstRefused xs
        searched = search_bad xs (ascends_of_pairs (λ (s t : Signature). signature_cmp s t ≡ Less) xs l.order) reached_in

        bad_named : (f : FirstRefused xs) → not_good v f.outcome
        bad_named f = (
          fan,
          first,
          opened.opening,
          (
            f.sig,
            record {
              holds = (reached_in f.sig f.member, (f.outcome, f.refused));
              first = λ t b. elim (f.before t (contains_member t xs (l.reach.complete t b.0))) [ inl good ↦ absurd (good_not_refused fan t b.1.0 good b.1.1) | inr up ↦ up ];
            },
            f.refused,
          ),
        )

        reach_settles : Settled (not_good v)
        reach_settles = elim searched [
          | inr f ↦ inl (f.outcome, bad_named f)
          | inl good ↦ (
              let all : AllGood fan first = λ s r. good s (contains_member s xs (l.reach.complete s r)) in
              let listing = a_listing fan first (length v.degrees.columns) xs opened.is_fan opened.legal l.reach all in
              inr (
                (λ o h. (let there = opening_along v fan h.0 first h.1 (λ f s. AllGood f s) opened.opening h.2 all in good_not_refused h.0 h.3.0 o (there h.3.0 h.3.1.holds.0) h.3.2)),
                record { fan = fan; graph = opened.graph; listing = listing.0; is = record { first = first; opening = opened.opening; listing = listing.1 }; decided = decide },
              ))
        ]

      full_settles : Settled (λ o. (table_full v n otherwise not_good v) o)
      full_settles = elim listed [
        | inl more ↦ inl (says status.Full (full_text n.table), inl (fan, first, opened.opening, more, refl))
        | inr l ↦ settled_of (table_full v n) (not_good v) (inr (fits l.0 l.1)) (λ p. reach_settles l.0 l.1)
      ]

      cones_settle : Settled (after_cones n v)
      cones_settle = settled_of (table_wide v n) (table_full v n otherwise not_good v) table_wide_settles (λ p. full_settles)

    verdicts_settle : Settled (after_verdicts n v)
    verdicts_settle = elim (wide_or_opens v g decide a) [
      | inl r ↦ inl (says status.Wide (wide_face_text r.0 r.1), inl (wide_some r.0 r.1 r.2))
      | inr r ↦ settled_of (wide_cone v) (after_cones n v) (inr r.0) (λ p. cones_settle r.1)
    ]

  -- an input is refused, or its chambers are listed
  pub refused_or_listed : Settled (refuses n v)
  refused_or_listed =
      settled_of (whole_stops v n) (after_whole n v) whole_settles (λ p.
      let e = whole_ends p in
      settled_of (has_monomial v) (other_stops v n otherwise after_verdicts n v) (monomial_settles e) (λ q.
      settled_of (other_stops v n) (after_verdicts n v) others_settle (λ r. verdicts_settle (all_run e r) (is_a_face e q))))

  -- where nothing refuses, all runs end, and of each face it is decided whether it is an a-face
  pub runs_end : Passes (refuses n v) → (m : ℕ) → IsFullFace v m → RunEnds v.generators n.steps m
  runs_end p =
      let whole : Passes (whole_stops v n) = λ u w. p u (inl w) in
      let monomial : Passes (has_monomial v) = λ u w. p u (inr (whole, inl w)) in
      all_run (whole_ends whole) (λ u w. p u (inr (whole, inr (monomial, inl w))))

  pub decided : Passes (refuses n v) → (m : ℕ) → IsFullFace v m → IsAFace v.generators m ⊎ (IsAFace v.generators m → ⊥)
  decided p m f = face_decided m f (runs_end p m f)

  -- what is answered of a listing, where each listing has an answer
  pub listed_some : (of_listing : Fan → Listing → Case) → (Passes (refuses n v) → (h : HasChambers v) → HasSome (of_listing h.fan h.listing)) → HasSome (listed_then n of_listing v)
  listed_some of_listing some = elim refused_or_listed [
    | inl r ↦ (r.0, inl r.1)
    | inr h ↦ (let s = some h.0 h.1 in (s.0, inr (h.0, (h.1.fan, h.1.listing, h.1.is, s.1))))
  ]

  pub fan_some : (output : Output) → HasSome (fan_of n output v)
  fan_some output = listed_some (writes output) (λ p h. (written output h.listing, refl))
