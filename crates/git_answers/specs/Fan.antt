-- The answer of `fan` by cases.
use Rattle.std.specs.Prelude.{◌≡◌, ◌≢◌, ℕ, ◌+◌, ◌*◌, ◌^◌, ◌<◌, ◌≤◌, length}
use Rattle.std.specs.declared.cmp.Ordering.TheVariants.{Greater}
use Rattle.git_base.specs.declared.status.Status.{Status}
use Rattle.git_base.specs.declared.status.Status.TheVariants.{Done, Monomial, Wide, Full, TableWide}
use Rattle.git_defs.specs.Faces.{face, IsLeastMask}
use Rattle.git_stages.specs.Wide.{IsWideAt}
use Rattle.git_stages.specs.declared.wide.WideAt.{WideAt}
use Rattle.git_ideals.specs.Faces.{IsAFace}
use Rattle.git_input.specs.Inputs.{InputValue}
use Rattle.git_machine.specs.Signatures.{Signature, signature_cmp}
use Rattle.git_machine.specs.Reach.{Reached, ReachExceeds}
use Rattle.git_orbit.specs.Orbits.{Fan, AreOrbitCones}
use Rattle.git_orbit.specs.Signatures.{IsSignature, width_of}
use Rattle.git_listing.specs.Listings.{Listing}
use Rattle.git_listing.specs.ListingText.{listing_text}
use Rattle.git_chamber.specs.Chambers.{first_germ, IsCell, IsNext}
use Rattle.git_chamber.specs.Listings.{IsListing}
use Rattle.git_chamber.specs.declared.cell.Cell.{Cell}
use Rattle.git_chamber.specs.declared.cell.Cell.TheVariants as cell
use Rattle.git_replies.specs.Cases.{Case, block, certificates, ◌otherwise◌, IsFirst, Outcome, says}
use Rattle.git_answers.specs.Verdicts.{whole_face, StopsAt, StopsWith}
use Rattle.git_replies.specs.Lines.{full_text, monomial_text, stop_text, table_wide_text, wide_chamber_text, wide_face_text}
use Rattle.git_replies.specs.Counts.{counts_text}
use Rattle.git_answers.specs.declared.output.Output.{Output}
use Rattle.git_answers.specs.declared.output.Output.TheVariants.{Plain, Certified, Counted}

-- the numbers that come with the words
pub record Options : Type 0 where
  pub table : ℕ
  pub steps : ℕ

abbrev pub options : ℕ → ℕ → Options
options table steps = record { table = table; steps = steps }

-- ---- the fan of an input

-- the distinct orbit cones of the input's full a-faces
pub record IsFanOf (v : InputValue) (fan : Fan) : Type 0 where
  pub k : fan.k ≡ v.degrees.k
  pub cones : AreOrbitCones v.degrees.k v.degrees.columns (IsAFace v.generators) fan.list

-- them, and the signature of the first germ
pub record IsOpening (v : InputValue) (fan : Fan) (first : Signature) : Type 0 where
  pub is_fan : IsFanOf v fan
  pub is_first : IsSignature fan (first_germ v.degrees.k v.degrees.columns) first

-- the columns of the mask, the least with its cone, are wide
abbrev pub IsWideFace : InputValue → ℕ → WideAt → Type 0
IsWideFace v mask at = IsLeastMask v.degrees.k v.degrees.columns (IsAFace v.generators) mask × IsWideAt v.degrees.k (face v.degrees.columns mask) at.stage at.what

-- ---- what is written

-- what is written of a listing
abbrev pub written : Output → Listing → Outcome
written Plain l = says Done (listing_text l)
written Certified l = record { status = Done; text = listing_text l; tail = certificates }
written Counted l = says Done (counts_text l)

-- what is answered of a wide signature
abbrev pub Refuses : Signature → Cell → Case
Refuses sig (cell.Good c) o = ⊥
Refuses sig (cell.Wide at) o = o ≡ says Wide (wide_chamber_text sig at)

-- the signature is refused so
abbrev pub IsRefused : Fan → Signature → Case
IsRefused fan sig o = (c : Cell) × IsCell fan sig c × Refuses sig c o

-- it is reached, and refused
abbrev pub IsBad : Fan → Signature → Signature → Type 0
IsBad fan first sig = Reached (IsNext fan) first sig × ((o : Outcome) × IsRefused fan sig o)

-- not after
abbrev pub UpTo : Signature → Signature → Type 0
UpTo s t = signature_cmp s t ≢ Greater

-- ---- the cases

-- the run of the whole face stops
abbrev pub whole_stops : InputValue → Options → Case
whole_stops v n o = (s : Status) × StopsWith v n.steps (whole_face v) s × (o ≡ says s (stop_text s (whole_face v)))

-- the ideal contains a monomial
abbrev pub has_monomial : InputValue → Case
has_monomial v o = (IsAFace v.generators (whole_face v) → ⊥) × (o ≡ record { status = Monomial; text = monomial_text; tail = block (whole_face v) })

-- the run of another full face stops: the greatest such face is named
abbrev pub other_stops : InputValue → Options → Case
other_stops v n o = (mask : ℕ) × IsFirst (λ a b. b ≤ a) (λ m. (m ≢ whole_face v) × StopsAt v n.steps m) mask × ((s : Status) × StopsWith v n.steps mask s × (o ≡ says s (stop_text s mask)))

-- a cone is wide: the least such mask is named
abbrev pub wide_cone : InputValue → Case
wide_cone v o = (mask : ℕ) × IsFirst (λ a b. a ≤ b) (λ m. (at : WideAt) × IsWideFace v m at) mask × ((at : WideAt) × IsWideFace v mask at × (o ≡ says Wide (wide_face_text mask at)))

-- the table of so many signatures and 64 more would have more than 2^24 words
abbrev pub table_wide : InputValue → Options → Case
table_wide v n o = (fan : Fan) × IsFanOf v fan × (2 ^ 24 < (n.table + 64) * width_of fan) × (o ≡ says TableWide (table_wide_text n.table (width_of fan)))

-- more signatures are reached than the table holds
abbrev pub table_full : InputValue → Options → Case
table_full v n o = (fan : Fan) × (first : Signature) × IsOpening v fan first × ReachExceeds (IsNext fan) first n.table × (o ≡ says Full (full_text n.table))

-- a reached signature is wide: the first in order is named
abbrev pub not_good : InputValue → Case
not_good v o = (fan : Fan) × (first : Signature) × IsOpening v fan first × ((sig : Signature) × IsFirst UpTo (IsBad fan first) sig × IsRefused fan sig o)

-- ---- the refusals in order

abbrev pub after_cones : Options → InputValue → Case
after_cones n v = table_wide v n otherwise (table_full v n otherwise not_good v)

abbrev pub after_verdicts : Options → InputValue → Case
after_verdicts n v = wide_cone v otherwise after_cones n v

abbrev pub after_whole : Options → InputValue → Case
after_whole n v = has_monomial v otherwise (other_stops v n otherwise after_verdicts n v)

-- why the chambers of an input aren't listed
abbrev pub refuses : Options → InputValue → Case
refuses n v = whole_stops v n otherwise after_whole n v

-- ---- the listing, and what is answered of it

-- the fan of the input, and the listing of its chambers
pub record IsListingOf (v : InputValue) (fan : Fan) (l : Listing) : Type 0 where
  pub first : Signature
  pub opening : IsOpening v fan first
  pub listing : IsListing fan first (length v.degrees.columns) l

-- they decide
abbrev pub lists : (Fan → Listing → Case) → InputValue → Case
lists of_listing v o = (fan : Fan) × (l : Listing) × IsListingOf v fan l × of_listing fan l o

-- the chambers aren't listed, or the listing decides
abbrev pub listed_then : Options → (Fan → Listing → Case) → InputValue → Case
listed_then n of_listing v = refuses n v otherwise lists of_listing v

-- the listing is written
abbrev pub writes : Output → Fan → Listing → Case
writes output fan l o = o ≡ written output l

abbrev pub fan_of : Options → Output → InputValue → Case
fan_of n output v = listed_then n (writes output) v
