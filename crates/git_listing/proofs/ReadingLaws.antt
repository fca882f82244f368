-- What holds of reading listings.
use Rattle.std.proofs.Common.{◌≡◌, ◌⊎◌, inl, inr, ℕ, List, [], ◌∷◌, ◌++◌, length, All, Option, Some, None, Result, Ok, Err, refl, sym, ap, ◌∙◌}
use Rattle.std.specs.Prelude.{IsNone}
use Rattle.std.specs.List.{AllByRecursion, concat}
use Rattle.std.proofs.lemmas.List.Elements.{All-cons, All-nil}
use Rattle.std.proofs.lemmas.List.Folds.{concat-append}
use Rattle.git_lines.specs.declared.fault.FormFault.{FormFault}
use Rattle.git_lines.specs.declared.fault.FormKind.{FormKind}
use Rattle.git_lines.specs.Lines.{RestOfText, text_from}
use Rattle.git_lines.proofs.Exact.{ok_is}
use Rattle.git_lines.proofs.FirstLine.{lines_make}
use Rattle.git_strictlines.proofs.Bytes.{text_again}
use Rattle.git_listing.specs.Limits.{FitsListing, FitsChamber, FitsFacet, FitsSide, FitsMark, IsVersion}
use Rattle.git_listing.specs.Listings.{Side, boundary, inner, Facet, Chamber, Listing, FitsVersion, IsUnmarked, IsUnmatched}
use Rattle.git_listing.specs.ListingReading.{listing_at, IsFirstFault}
use Rattle.git_listing.specs.ListingText.{listing_text}
use Rattle.git_listing.specs.ReadingLaws.{IsFront}
use Rattle.git_listing.proofs.ListingTexts.{listing_bytes, no_fault}
use Rattle.git_listing.proofs.Whole.{listing_lines, listing_spelled, listing_text_lines}

front_read : (bytes rest : List ℕ) (l : Listing) → FitsListing l → bytes ≡ listing_text l ++ rest → (after : RestOfText) × (listing_at (text_from 1 0 bytes) ≡ Ok (l, after))
front_read bytes rest l f e =
    let t = text_again listing_at listing_lines FitsListing listing_spelled listing_text_lines bytes rest l f (e ∙ ap (λ x. x ++ rest) (sym (listing_bytes l))) in
    (t.0, t.1)

pub read_back : (l : Listing) (rest : List ℕ) → FitsListing l → (after : RestOfText) × (listing_at (text_from 1 0 (listing_text l ++ rest)) ≡ Ok (l, after))
read_back l rest f = front_read (listing_text l ++ rest) rest l f refl

pub one_listing : (bytes : List ℕ) (l m : Listing) → IsFront bytes l → IsFront bytes m → l ≡ m
one_listing bytes l m h g =
    let a = front_read bytes h.rest l h.fits h.is in
    let b = front_read bytes g.rest m g.fits g.is in
    ap (λ (q : Listing × RestOfText). q.0) (ok_is {E = FormFault} (l, a.0) (m, b.0) (sym a.1 ∙ b.1))

pub no_fault_of : (bytes : List ℕ) (l : Listing) (line : ℕ) (kind : FormKind) → IsFront bytes l → IsFirstFault bytes line kind → ⊥
no_fault_of bytes l line kind h = let a = front_read bytes h.rest l h.fits h.is in no_fault bytes l a.0 line kind a.1

front_of : (bytes : List ℕ) (l : Listing) (after : RestOfText) → listing_at (text_from 1 0 bytes) ≡ Ok (l, after) → IsFront bytes l
front_of bytes l after e =
    let t = listing_spelled.takes (text_from 1 0 bytes) after l e in
    record { rest = concat after.lines; fits = t.1; is = sym (lines_make bytes) ∙ ap concat t.0 ∙ concat-append (listing_lines l) after.lines ∙ ap (λ x. x ++ concat after.lines) (listing_bytes l) }

listing_or_fault_of : (bytes : List ℕ) (read : Result (Listing × RestOfText) FormFault) → listing_at (text_from 1 0 bytes) ≡ read → ((l : Listing) × IsFront bytes l) ⊎ ((line : ℕ) × (kind : FormKind) × IsFirstFault bytes line kind)
listing_or_fault_of bytes (Ok p) e = inl (p.0, front_of bytes p.0 p.1 e)
listing_or_fault_of bytes (Err f) e = inr (f.line, f.kind, (f.column, e))

pub listing_or_fault : (bytes : List ℕ) → ((l : Listing) × IsFront bytes l) ⊎ ((line : ℕ) × (kind : FormKind) × IsFirstFault bytes line kind)
listing_or_fault bytes = listing_or_fault_of bytes (listing_at (text_from 1 0 bytes)) refl

-- ---- version 1 has no marks

unmatched : (s : Side) → FitsSide 1 s → IsUnmatched s
unmatched boundary h = tt
unmatched (inner number matched) h = h.1 refl

all_unmatched : (k : ℕ) (fs : List Facet) → AllByRecursion (FitsFacet 1 k) fs → All (λ (f : Facet). IsUnmatched f.side) fs
all_unmatched k [] h = All-nil (λ (f : Facet). IsUnmatched f.side)
all_unmatched k (f ∷ fs) h = All-cons (λ (g : Facet). IsUnmatched g.side) f fs (unmatched f.side h.0.1) (all_unmatched k fs h.1)

unmarked : (m : Option ℕ) → FitsMark 1 m → IsNone m
unmarked None h = refl
unmarked (Some cone) h = absurd (cc h.1)

all_unmarked : (k : ℕ) (cs : List Chamber) → AllByRecursion (FitsChamber 1 k) cs → All IsUnmarked cs
all_unmarked k [] h = All-nil IsUnmarked
all_unmarked k (c ∷ cs) h = All-cons IsUnmarked c cs (record { crossed = unmarked c.crossed h.0.mark; sides = all_unmatched k c.facets h.0.facets }) (all_unmarked k cs h.1)

fits_by : (version k : ℕ) (cs : List Chamber) → IsVersion version → AllByRecursion (FitsChamber version k) cs → ((version ≡ 1) × All IsUnmarked cs) ⊎ (version ≡ 2)
fits_by version k cs (inl one) h = inl (one, all_unmarked k cs (Rattle.std.proofs.Common.subst (λ v. AllByRecursion (FitsChamber v k) cs) one h))
fits_by version k cs (inr two) h = inr two

pub may_be_printed : (l : Listing) → FitsListing l → FitsVersion l
may_be_printed l f = fits_by l.version l.k l.chambers f.version f.chambers
