-- Bytes are a check text, or have one answer.
use Rattle.std.proofs.Common.{◌≡◌, ◌⊎◌, inl, inr, ℕ, ◌+◌, ◌≤◌, List, [], ◌++◌, length, take, drop, true, Result, Ok, Err, refl, sym, ap, ◌∙◌, subst, arith}
use Rattle.std.proofs.Math.Seq.{take-append_seam, drop-append_seam}
use Rattle.std.proofs.lemmas.Bool.{cases_lt}
use Rattle.std.proofs.lemmas.List.{append_cancel_left}
use Rattle.git_base.specs.declared.status.Status.TheVariants.{BadInput}
use Rattle.git_facecert.specs.declared.certificate.FaceVerdict.{FaceVerdict}
use Rattle.git_lines.specs.declared.fault.FormFault.{FormFault}
use Rattle.git_lines.specs.Lines.{RestOfText, is_ended, lines_of, text_from}
use Rattle.git_lines.proofs.Exact.{ok_is}
use Rattle.git_input.specs.Inputs.{InputValue}
use Rattle.git_text.specs.declared.fault.BadKind.{BadKind}
use Rattle.git_text.specs.declared.fault.InputFault.{InputFault}
use Rattle.git_text.specs.declared.fault.InputFault.TheVariants.{Bad, NoMemory}
use Rattle.git_text.specs.Fronts.{IsFront, IsFirstFrontFault}
use Rattle.git_text.specs.Grammar.{IsInput}
use Rattle.git_text.specs.Reading.{ReadsFront, nothing_after, variables_in, whole_text}
use Rattle.git_text.proofs.Fronts.{front_faults, front_found, front_no_fault, one_front}
use Rattle.git_text.proofs.Totality.{input_or_fault}
use Rattle.git_text.proofs.WholeTexts.{one_first_fault}
use Rattle.git_listing.specs.Limits.{FitsListing}
use Rattle.git_listing.specs.Listings.{Listing}
use Rattle.git_listing.specs.ListingReading as listing
use Rattle.git_listing.specs.ListingText.{listing_text}
use Rattle.git_listing.specs.ReadingLaws as heads
use Rattle.git_listing.proofs.ReadingLaws as listings
use Rattle.git_certtext.specs.Blocks.{Block, FitsCerts, blocks_of}
use Rattle.git_certtext.specs.CertificateText.{certificates_text}
use Rattle.git_certtext.specs.CertReading.{reading}
use Rattle.git_certtext.proofs.CertTexts.{read_back}
use Rattle.git_replies.specs.Cases.{HasOne, HasSome, Passes, says}
use Rattle.git_replies.specs.Refusals.{fault_text, long_text}
use Rattle.git_replies.proofs.CaseLaws.{one_of}
use Rattle.git_checktext.specs.declared.limits.TheConstants.{TEXT_BYTES}
use Rattle.git_checktext.specs.CheckText.{CheckText, IsCheckText, IsHead, lines_before_certs, lines_within, variables}
use Rattle.git_checktext.specs.Reads.{NamesCertsFault, NamesInputFault, NamesListingFault, no_check_text, text_too_long}
use Rattle.git_checktext.specs.Refusals.{certs_fault_text, listing_fault_text}
use Rattle.git_checktext.proofs.LineCounts.{ended_first}

-- ---- what stands at the head is one

record SameHead (v w : InputValue) (a b : ℕ) (l m : Listing) (xs ys : List ℕ) : Type 0 where
  input : v ≡ w
  used : a ≡ b
  listing : l ≡ m
  rest : xs ≡ ys

listing_there : (bytes : List ℕ) (v : InputValue) (used : ℕ) (l : Listing) (rest : List ℕ) → IsHead bytes v used l rest → heads.IsFront (drop used bytes) l
listing_there bytes v used l rest h = record { rest = rest; fits = h.fits; is = h.is }

one_head : (bytes : List ℕ) (v w : InputValue) (used used2 : ℕ) (l m : Listing) (rest rest2 : List ℕ) → IsHead bytes v used l rest → IsHead bytes w used2 m rest2 → SameHead v w used used2 l m rest rest2
one_head bytes v w used used2 l m rest rest2 h g =
    let f = one_front bytes v w used used2 h.input g.input in
    let there = subst (λ n. heads.IsFront (drop n bytes) m) (sym f.1) (listing_there bytes w used2 m rest2 g) in
    let same = listings.one_listing (drop used bytes) l m (listing_there bytes v used l rest h) there in
    let after : listing_text l ++ rest ≡ listing_text l ++ rest2 = sym h.is ∙ ap (λ n. drop n bytes) f.1 ∙ g.is ∙ ap (λ x. listing_text x ++ rest2) (sym same) in
    record { input = f.0; used = f.1; listing = same; rest = append_cancel_left (listing_text l) rest rest2 after }

pub one_text : (bytes : List ℕ) (x y : CheckText) → IsCheckText bytes x → IsCheckText bytes y → x ≡ y
one_text bytes x y h g =
    let s = one_head bytes x.input y.input h.used g.used x.listing y.listing h.rest g.rest h.head g.head in
    let c = ok_is {E = FormFault} x.certs y.certs (sym h.certs ∙ (λ i. reading (variables (s.input i)) (s.rest i)) ∙ g.certs) in
    let a = h.before_listing ∙ ap (λ n. lines_within n bytes) s.used ∙ sym g.before_listing in
    let b = h.before_certs ∙ (λ i. lines_before_certs (s.used i) bytes (s.listing i)) ∙ sym g.before_certs in
    λ i. record { input = s.input i; listing = s.listing i; certs = c i; before_listing = a i; before_certs = b i }

-- ---- where something stands, no fault is named

pub few_pass : (bytes : List ℕ) → length bytes ≤ TEXT_BYTES → Passes (text_too_long bytes)
few_pass bytes few o h = omega (arith, few, h.0)

pub front_passes : (bytes : List ℕ) (v : InputValue) (used : ℕ) → IsFront bytes v used → Passes (NamesInputFault bytes)
front_passes bytes v used f o h = front_no_fault bytes v used h.line h.column h.kind f h.first

pub head_passes : (bytes : List ℕ) (v : InputValue) (used : ℕ) (l : Listing) (rest : List ℕ) → IsHead bytes v used l rest → Passes (NamesListingFault bytes)
head_passes bytes v used l rest h o g =
    let f = one_front bytes v g.input used g.used h.input g.front in
    let first = subst (λ n. listing.IsFirstFault (drop n bytes) g.line g.kind) (sym f.1) g.first in
    listings.no_fault_of (drop used bytes) l g.line g.kind (listing_there bytes v used l rest h) first

certs_pass : (bytes : List ℕ) (x : CheckText) → IsCheckText bytes x → Passes (NamesCertsFault bytes)
certs_pass bytes x h o g =
    let s = one_head bytes x.input g.input h.used g.used x.listing g.listing h.rest g.rest h.head g.head in
    let same : ◌≡◌ {A = Result (List Block) FormFault} (Ok x.certs) (Err (record { line = g.line; column = g.first.0; kind = g.kind })) = sym h.certs ∙ (λ i. reading (variables (s.input i)) (s.rest i)) ∙ g.first.1 in
    cc same

pub text_passes : (bytes : List ℕ) (x : CheckText) → IsCheckText bytes x → Passes (no_check_text bytes)
text_passes bytes x h o (inl long) = few_pass bytes h.few o long
text_passes bytes x h o (inr (p, inl f)) = front_passes bytes x.input h.used h.head.input o f
text_passes bytes x h o (inr (p, inr (q, inl f))) = head_passes bytes x.input h.used x.listing h.rest h.head o f
text_passes bytes x h o (inr (p, inr (q, inr (s, f)))) = certs_pass bytes x h o f

-- ---- one answer

bad_text : ℕ → InputFault → List ℕ
bad_text n (Bad line column kind) = fault_text n line column kind
bad_text n NoMemory = []

pub input_one : (bytes : List ℕ) → HasOne (NamesInputFault bytes)
unfolding bad_text
input_one bytes x y a b =
    let first = (front_faults bytes a.line a.column a.kind).0 a.first in
    let second = (front_faults bytes b.line b.column b.kind).0 b.first in
    let same = one_first_fault bytes a.line a.column b.line b.column a.kind b.kind first second in
    a.is ∙ ap (λ (f : InputFault). says BadInput (bad_text (variables_in bytes) f)) same ∙ sym b.is

fault_same : {A : Type 0} (f g : FormFault) → ◌≡◌ {A = Result A FormFault} (Err f) (Err g) → f ≡ g
fault_same f g e = cc e

listing_one : (bytes : List ℕ) → HasOne (NamesListingFault bytes)
listing_one bytes x y a b =
    let f = one_front bytes a.input b.input a.used b.used a.front b.front in
    let same : ◌≡◌ {A = FormFault} (record { line = a.line; column = a.first.0; kind = a.kind }) (record { line = b.line; column = b.first.0; kind = b.kind }) =
    fault_same {A = Listing × RestOfText} _ _ (sym a.first.1 ∙ ap (λ n. listing.listing_at (text_from 1 0 (drop n bytes))) f.1 ∙ b.first.1)
    in
    a.is ∙ (λ i. says BadInput (listing_fault_text (lines_within (f.1 i) bytes + (same i).line) (same i).kind)) ∙ sym b.is

certs_one : (bytes : List ℕ) → HasOne (NamesCertsFault bytes)
certs_one bytes x y a b =
    let s = one_head bytes a.input b.input a.used b.used a.listing b.listing a.rest b.rest a.head b.head in
    let same : ◌≡◌ {A = FormFault} (record { line = a.line; column = a.first.0; kind = a.kind }) (record { line = b.line; column = b.first.0; kind = b.kind }) =
    fault_same {A = List Block} _ _ (sym a.first.1 ∙ (λ i. reading (variables (s.input i)) (s.rest i)) ∙ b.first.1)
    in
    a.is ∙ (λ i. says BadInput (certs_fault_text (lines_before_certs (s.used i) bytes (s.listing i) + (same i).line) (same i).kind)) ∙ sym b.is

pub refusal_one : (bytes : List ℕ) → HasOne (no_check_text bytes)
refusal_one bytes =
    one_of (text_too_long bytes) _ (λ x y a b. a.1 ∙ sym b.1) (λ p.
    one_of (NamesInputFault bytes) _ (input_one bytes) (λ q.
    one_of (NamesListingFault bytes) (NamesCertsFault bytes) (listing_one bytes) (λ r. certs_one bytes)))

-- ---- a text or an answer

IsReadOrRefused : List ℕ → Type 0
IsReadOrRefused bytes = ((x : CheckText) × IsCheckText bytes x) ⊎ HasSome (no_check_text bytes)

certs_read : (bytes : List ℕ) (v : InputValue) (used : ℕ) (l : Listing) (rest : List ℕ) → length bytes ≤ TEXT_BYTES → IsHead bytes v used l rest
    → (read : Result (List Block) FormFault) → reading (variables v) rest ≡ read → IsReadOrRefused bytes
unfolding IsReadOrRefused
certs_read bytes v used l rest few h (Ok bs) e =
    inl (
      record { input = v; listing = l; certs = bs; before_listing = lines_within used bytes; before_certs = lines_before_certs used bytes l },
      record { few = few; used = used; rest = rest; head = h; certs = e; before_listing = refl; before_certs = refl },
    )
certs_read bytes v used l rest few h (Err f) e =
    let o = says BadInput (certs_fault_text (lines_before_certs used bytes l + f.line) f.kind) in
    let names : NamesCertsFault bytes o = record { input = v; used = used; listing = l; rest = rest; head = h; line = f.line; kind = f.kind; first = (f.column, e); is = refl } in
    inr (o, inr (few_pass bytes few, inr (front_passes bytes v used h.input, inr (head_passes bytes v used l rest h, names))))

listing_fault_passes : (bytes : List ℕ) (v : InputValue) (used : ℕ) → length bytes ≤ TEXT_BYTES → IsFront bytes v used → IsReadOrRefused bytes
unfolding IsReadOrRefused
listing_fault_passes bytes v used few f = elim (listings.listing_or_fault (drop used bytes)) [
  | inl l ↦ (
      let h : IsHead bytes v used l.0 l.1.rest = record { input = f; fits = l.1.fits; is = l.1.is } in
      certs_read bytes v used l.0 l.1.rest few h (reading (variables v) l.1.rest) refl)
  | inr g ↦ (
      let o = says BadInput (listing_fault_text (lines_within used bytes + g.0) g.1) in
      let names : NamesListingFault bytes o = record { input = v; used = used; front = f; line = g.0; kind = g.1; first = g.2; is = refl } in
      inr (o, inr (few_pass bytes few, inr (front_passes bytes v used f, inl names))))
]

-- an input is at the head, or the head has a first fault
front_by : (bytes : List ℕ) (front : Result (InputValue × RestOfText) InputFault) (line column : ℕ) (kind : BadKind) → ReadsFront (whole_text bytes) front
    → ◌≡◌ {A = Result InputValue InputFault} (Err (Bad line column kind)) (Rattle.git_lines.specs.Reading.◌>>=◌ front nothing_after)
    → ((v : InputValue) × ((used : ℕ) × IsFront bytes v used)) ⊎ IsFirstFrontFault bytes line column kind
front_by bytes (Ok p) line column kind h e = inl (p.0, (_, front_found bytes p.0 p.1 h))
front_by bytes (Err f) line column kind h e =
    let same : f ≡ Bad line column kind = cc e in
    inr (subst (λ (g : InputFault). ReadsFront (whole_text bytes) (Err g)) same h)

pub front_or_fault : (bytes : List ℕ) → ((v : InputValue) × ((used : ℕ) × IsFront bytes v used)) ⊎ ((line : ℕ) × (column : ℕ) × (kind : BadKind) × IsFirstFrontFault bytes line column kind)
front_or_fault bytes = elim (input_or_fault bytes) [
  | inl i ↦ inl (
    i.0,
    (
      length bytes,
      record {
        lines = record { count = length (lines_of bytes); within = omega arith; are = whole bytes };
        input = subst (λ b. IsInput b i.0) (sym (Rattle.std.proofs.Math.Seq.take-length bytes)) i.1;
      },
    ),
  )
  | inr f ↦ elim (front_by bytes f.3.front f.0 f.1 f.2 f.3.reads f.3.is) [ inl x ↦ inl x | inr y ↦ inr (f.0, f.1, f.2, y) ]
]
  where
    whole : (bytes : List ℕ) → take (length bytes) bytes ≡ Rattle.std.specs.List.concat (take (length (lines_of bytes)) (lines_of bytes))
    whole bytes = Rattle.std.proofs.Math.Seq.take-length bytes ∙ sym (Rattle.git_lines.proofs.FirstLine.lines_make bytes) ∙ ap Rattle.std.specs.List.concat (sym (Rattle.std.proofs.Math.Seq.take-length (lines_of bytes)))

front_read : (bytes : List ℕ) → length bytes ≤ TEXT_BYTES → IsReadOrRefused bytes
unfolding IsReadOrRefused
front_read bytes few = elim (front_or_fault bytes) [
  | inl f ↦ listing_fault_passes bytes f.0 f.1.0 few f.1.1
  | inr f ↦ (
      let o = says BadInput (fault_text (variables_in bytes) f.0 f.1 f.2) in
      let names : NamesInputFault bytes o = record { line = f.0; column = f.1; kind = f.2; first = f.3; is = refl } in
      inr (o, inr (few_pass bytes few, inl names)))
]

pub text_or_refusal : (bytes : List ℕ) → ((x : CheckText) × IsCheckText bytes x) ⊎ HasSome (no_check_text bytes)
unfolding IsReadOrRefused
text_or_refusal bytes = elim (cases_lt TEXT_BYTES (length bytes)) [ inl long ↦ inr (says BadInput long_text, inl (long, refl)) | inr few ↦ front_read bytes few ]

-- ---- what is printed is a check text

pub printed : (front : List ℕ) (v : InputValue) (l : Listing) (vs : List FaceVerdict) → IsInput front v → is_ended front ≡ true → variables v ≤ 16
    → FitsListing l → FitsCerts (variables v) (blocks_of vs) → length (front ++ (listing_text l ++ certificates_text vs)) ≤ TEXT_BYTES
    → (x : CheckText) × IsCheckText (front ++ (listing_text l ++ certificates_text vs)) x × (x.input ≡ v) × (x.listing ≡ l) × (x.certs ≡ blocks_of vs)
printed front v l vs i e small fl fc few =
    let after = listing_text l ++ certificates_text vs in
    let bytes = front ++ after in
    let used = length front in
    let h : IsHead bytes v used l (certificates_text vs) = record {
      input = record { lines = ended_first front after e; input = subst (λ b. IsInput b v) (sym (take-append_seam front after)) i };
      fits = fl;
      is = drop-append_seam front after;
    } in (
      record { input = v; listing = l; certs = blocks_of vs; before_listing = lines_within used bytes; before_certs = lines_before_certs used bytes l },
      record { few = few; used = used; rest = certificates_text vs; head = h; certs = read_back (variables v) vs small fc; before_listing = refl; before_certs = refl },
      refl,
      refl,
      refl,
    )
