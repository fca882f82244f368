-- The parts of a check text by their places: the bytes of the input, those of the listing, and the rest.
use Rattle.std.proofs.Common.{◌≡◌, ℕ, ◌+◌, ◌-◌, ◌≤◌, ◌<◌, List, ◌++◌, length, take, drop, sym, ap, ◌∙◌, subst, inl, inr, arith}
use Rattle.std.specs.Prelude.{IfSome, Option}
use Rattle.std.proofs.lemmas.List.{drop-drop, take-append-drop, take_rest, length-drop}
use Rattle.git_base.specs.declared.status.Status.TheVariants.{BadInput}
use Rattle.git_facecert.specs.declared.certificate.FaceVerdict.{FaceVerdict}
use Rattle.git_lines.specs.declared.fault.FormKind.{FormKind}
use Rattle.git_lines.specs.Lines.{lines_of}
use Rattle.git_input.specs.Inputs.{InputValue}
use Rattle.git_text.specs.declared.fault.BadKind.{BadKind}
use Rattle.git_text.specs.Fronts.{IsFront, IsFirstFrontFault}
use Rattle.git_text.specs.Reading.{variables_in}
use Rattle.git_listing.specs.Limits.{FitsListing}
use Rattle.git_listing.specs.Listings.{Listing}
use Rattle.git_listing.specs.ListingReading as listing
use Rattle.git_listing.specs.ListingText.{listing_text}
use Rattle.git_certtext.specs.Blocks.{FitsCerts, blocks_of}
use Rattle.git_certtext.specs.CertificateText.{certificates_text}
use Rattle.git_certtext.specs.CertReading as certs
use Rattle.git_certtext.proofs.CertTexts.{read_back}
use Rattle.git_replies.specs.Cases.{says}
use Rattle.git_replies.specs.Refusals.{fault_text, long_text}
use Rattle.git_replies.specs.declared.reply.Reply as code
use Rattle.git_replies.proofs.Refused.{long_left}
use Rattle.git_checktext.specs.declared.limits.TheConstants.{TEXT_BYTES}
use Rattle.git_checktext.specs.declared.reading.TextReading.TheVariants.{Refused}
use Rattle.git_checktext.specs.CheckText.{IsCheckText, IsHead, lines_before_certs, lines_within, variables}
use Rattle.git_checktext.specs.Readings.{IsReading, IsRefusal}
use Rattle.git_checktext.specs.Refusals.{certs_fault_text, listing_fault_text}
use Rattle.git_checktext.proofs.Texts.{few_pass, front_passes, head_passes}

-- ---- the listing that is read after the input

-- the bytes of the listing, and those after it
pub spelled : (bytes after : List ℕ) (used taken : ℕ) (text : List ℕ) → after ≡ take (length bytes - used) (drop used bytes) → take taken after ≡ text → take taken (drop used bytes) ≡ text
spelled bytes after used taken text is e = ap (take taken) (sym (take_rest bytes used) ∙ sym is) ∙ e

pub head_at : (bytes : List ℕ) (v : InputValue) (used taken : ℕ) (l : Listing) → IsFront bytes v used → FitsListing l → take taken (drop used bytes) ≡ listing_text l → IsHead bytes v used l (drop (used + taken) bytes)
head_at bytes v used taken l f fits e = record {
  input = f;
  fits = fits;
  is = sym (take-append-drop taken (drop used bytes)) ∙ (λ i. e i ++ drop-drop taken used bytes i);
}

pub within_bytes : (bytes after : List ℕ) (used taken : ℕ) → after ≡ take (length bytes - used) (drop used bytes) → used ≤ length bytes → taken ≤ length after → used + taken ≤ length bytes
within_bytes bytes after used taken is within few =
    let long : length after ≡ length bytes - used = ap length (is ∙ take_rest bytes used) ∙ length-drop used bytes in
    omega (arith, long, within, few)

-- the lines before the certificates are those of the input and those of the listing
pub both_counts : (bytes : List ℕ) (used end : ℕ) (l : Listing) (a b : ℕ) → take (end - used) (drop used bytes) ≡ listing_text l → a ≡ lines_within used bytes → b ≡ length (lines_of (take (end - used) (drop used bytes)))
    → a + b ≡ lines_before_certs used bytes l
both_counts bytes used end l a b e m n = λ i. m i + (n ∙ ap (λ (bs : List ℕ). length (lines_of bs)) e) i

-- ---- the whole

module _ (bytes : List ℕ) (few : length bytes ≤ TEXT_BYTES) where
  pub text_is : (v : InputValue) (used end : ℕ) (l : Listing) (vs : List FaceVerdict) (r before_listing before_certs : ℕ) (rest : List ℕ) → IsHead bytes v used l (drop end bytes) → rest ≡ take (length bytes - end) (drop end bytes)
      → r ≡ variables v → r ≤ 16 → FitsCerts r (blocks_of vs) → rest ≡ certificates_text vs → before_listing ≡ lines_within used bytes → before_certs ≡ lines_before_certs used bytes l
      → IsCheckText bytes (record { input = v; listing = l; certs = blocks_of vs; before_listing = before_listing; before_certs = before_certs })
  text_is v used end l vs r before_listing before_certs rest h is same small fits text a b = record {
    few = few;
    used = used;
    rest = drop end bytes;
    head = h;
    certs = (λ i. certs.reading (sym same i) ((sym (take_rest bytes end) ∙ sym is ∙ text) i)) ∙ read_back r vs small fits;
    before_listing = a;
    before_certs = b;
  }

  -- ---- the answers to what is no check text

  pub input_refused : (a : code.Reply) (n line column : ℕ) (kind : BadKind) → IsFirstFrontFault bytes line column kind → n ≡ variables_in bytes → a.status ≡ BadInput → a.text.items ≡ fault_text n line column kind → IsRefusal bytes a
  input_refused a n line column kind first same status spells =
      (status, inr (few_pass bytes few, inl (record { line = line; column = column; kind = kind; first = first; is = ap (says BadInput) (spells ∙ ap (λ (m : ℕ). fault_text m line column kind) same) })))

  pub listing_refused : (a : code.Reply) (v : InputValue) (used before line : ℕ) (kind : FormKind) → IsFront bytes v used → listing.IsFirstFault (drop used bytes) line kind → before ≡ lines_within used bytes
      → a.status ≡ BadInput → a.text.items ≡ listing_fault_text (before + line) kind → IsRefusal bytes a
  listing_refused a v used before line kind f first same status spells = (
    status,
    inr (
      few_pass bytes few,
      inr (
        front_passes bytes v used f,
        inl (record { input = v; used = used; front = f; line = line; kind = kind; first = first; is = ap (says BadInput) (spells ∙ ap (λ (m : ℕ). listing_fault_text (m + line) kind) same) }),
      ),
    ),
  )

  pub certs_refused : (a : code.Reply) (v : InputValue) (used end : ℕ) (l : Listing) (r before line : ℕ) (kind : FormKind) (rest : List ℕ) → IsHead bytes v used l (drop end bytes) → rest ≡ take (length bytes - end) (drop end bytes)
      → r ≡ variables v → certs.IsFirstFault r rest line kind → before ≡ lines_before_certs used bytes l → a.status ≡ BadInput → a.text.items ≡ certs_fault_text (before + line) kind → IsRefusal bytes a
  certs_refused a v used end l r before line kind rest h is vars first same status spells = (
    status,
    inr (
      few_pass bytes few,
      inr (
        front_passes bytes v used h.input,
        inr (
          head_passes bytes v used l (drop end bytes) h,
          record {
            input = v;
            used = used;
            listing = l;
            rest = drop end bytes;
            head = h;
            line = line;
            kind = kind;
            first = subst (λ (n : ℕ). certs.IsFirstFault n (drop end bytes) line kind) vars (subst (λ (bs : List ℕ). certs.IsFirstFault r bs line kind) (is ∙ take_rest bytes end) first);
            is = ap (says BadInput) (spells ∙ ap (λ (m : ℕ). certs_fault_text (m + line) kind) same);
          },
        ),
      ),
    ),
  )

-- ---- too many bytes
pub long_is_refused : (bytes : List ℕ) (a : code.Reply) → TEXT_BYTES < length bytes → a.status ≡ BadInput → a.text.items ≡ long_text → IsRefusal bytes a
long_is_refused bytes a long status spells = (status, inl (long, ap (says BadInput) spells))

pub long_refused : (left : Option (List ℕ)) (a : code.Reply) → IfSome left (λ bs. TEXT_BYTES < length bs) → a.status ≡ BadInput → a.text.items ≡ long_text → IsReading left (Refused a)
long_refused left a long status spells = let b = long_left TEXT_BYTES left long in (b.0, b.1, long_is_refused b.0 a b.2 status spells)
