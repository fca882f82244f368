-- The lines of a listing joined are its text; what the reader's clauses say follows from what reading gives.
use Rattle.std.proofs.Common.{◌≡◌, ◌⊎◌, inl, inr, ℕ, ◌+◌, ◌≤◌, List, [], ◌∷◌, ◌++◌, length, map, take, Option, Some, None, Result, Ok, Err, refl, sym, ap, ◌∙◌, append_assoc}
use Rattle.std.specs.Prelude.{codes}
use Rattle.std.specs.List.{concat, flat_map}
use Rattle.std.proofs.lemmas.List.{append-nil}
use Rattle.std.proofs.lemmas.List.Folds.{concat-append}
use Rattle.git_lines.specs.declared.fault.FormFault.{FormFault}
use Rattle.git_lines.specs.declared.fault.FormKind.{FormKind}
use Rattle.git_lines.specs.Lines.{RestOfText, text_from}
use Rattle.git_lines.specs.Printing.{line_text, number_line, integers_line}
use Rattle.git_strictlines.specs.declared.fault.ReadFault.{ReadFault}
use Rattle.git_strictlines.specs.declared.fault.ReadFault.TheVariants as read
use Rattle.git_strictlines.specs.Faults.{Fails}
use Rattle.git_strictlines.specs.Spelling.{end_words}
use Rattle.git_strictlines.proofs.Bytes.{front_is, only_found, only_full}
use Rattle.git_listing.specs.declared.fault.ListingFault.{ListingFault}
use Rattle.git_listing.specs.declared.fault.ListingFault.TheVariants.{BadListing, NoMemory}
use Rattle.git_listing.specs.Faults.{listing_fault}
use Rattle.git_listing.specs.Limits.{FitsListing}
use Rattle.git_listing.specs.Listings.{Chamber, Listing}
use Rattle.git_listing.specs.ListingReading.{listing_at, IsFirstFault}
use Rattle.git_listing.specs.ListingText.{facet_text, mark_text, chamber_text, chambers_text, listing_text}
use Rattle.git_listing.proofs.ListingLines.{facet_words}
use Rattle.git_listing.proofs.Whole.{ray_words, weight_words, mark_lines, chamber_lines, chambers_lines, listing_lines, listing_spelled, listing_text_lines}

concat_map : {A : Type 0} (f : A → List ℕ) (xs : List A) → concat (map f xs) ≡ flat_map f xs
concat_map f [] = refl
concat_map f (x ∷ xs) = ap (λ l. f x ++ l) (concat_map f xs)

mark_bytes : (m : Option ℕ) → concat (mark_lines m) ≡ mark_text m
mark_bytes None = refl
mark_bytes (Some cone) = append-nil (number_line (codes "crossed") cone)

five : (a b w m f : List ℕ) → a ++ (b ++ (w ++ (m ++ f))) ≡ a ++ b ++ w ++ m ++ f
five a b w m f = simp append_assoc

chamber_bytes : (version n : ℕ) (c : Chamber) → concat (chamber_lines version n c) ≡ chamber_text version n c
chamber_bytes version n c =
    let rays = map (λ v. line_text (ray_words v)) c.rays in
    let facets = map (λ f. line_text (facet_words version f)) c.facets in
    let weight = line_text (weight_words c.weight) in
    let marks = mark_lines c.crossed in
    let after = concat-append marks facets ∙ (λ i. mark_bytes c.crossed i ++ concat_map (facet_text version) c.facets i) in
    let inside = concat-append rays (weight ∷ marks ++ facets) ∙ (λ i. concat_map (integers_line (codes "ray")) c.rays i ++ (weight ++ after i)) in
    ap (λ x. number_line (codes "chamber") n ++ x) inside
    ∙ five (number_line (codes "chamber") n) (flat_map (integers_line (codes "ray")) c.rays) weight (mark_text c.crossed) (flat_map (facet_text version) c.facets)

chambers_bytes : (version n : ℕ) (cs : List Chamber) → concat (chambers_lines version n cs) ≡ chambers_text version n cs
chambers_bytes version n [] = refl
chambers_bytes version n (c ∷ cs) = concat-append (chamber_lines version n c) (chambers_lines version (n + 1) cs) ∙ (λ i. chamber_bytes version n c i ++ chambers_bytes version (n + 1) cs i)

six : (a b c d e f : List ℕ) → a ++ (b ++ (c ++ (d ++ (e ++ f)))) ≡ (a ++ b ++ c ++ d) ++ e ++ f
six a b c d e f = simp append_assoc

pub listing_bytes : (l : Listing) → concat (listing_lines l) ≡ listing_text l
listing_bytes l =
    let last = line_text end_words in
    let chambers = chambers_lines l.version 1 l.chambers in
    let inside = concat-append chambers (last ∷ []) ∙ (λ i. chambers_bytes l.version 1 l.chambers i ++ append-nil last i) in
    let version = number_line (codes "gitfan-listing") l.version in
    let sizes = line_text (codes "grading" ∷ Rattle.std.specs.Fmt.decimal l.k ∷ Rattle.std.specs.Fmt.decimal l.r ∷ []) in
    let cones = number_line (codes "cones") l.cones in
    let count = number_line (codes "chambers") (length l.chambers) in
    ap (λ x. version ++ (sizes ++ (cones ++ (count ++ x)))) inside ∙ six version sizes cones count (chambers_text l.version 1 l.chambers) last

-- ---- the reader's clauses

pub found_is : (bytes : List ℕ) (l : Listing) (line at : ℕ) → listing_at (text_from 1 0 bytes) ≡ Ok (l, text_from line at bytes) → FitsListing l × (take at bytes ≡ listing_text l)
found_is bytes l line at e = let t = front_is listing_at listing_lines FitsListing listing_spelled bytes l line at e in (t.0, t.1 ∙ listing_bytes l)

spelled_bytes : (bytes rest : List ℕ) (l : Listing) → bytes ≡ listing_text l ++ rest → bytes ≡ concat (listing_lines l) ++ rest
spelled_bytes bytes rest l e = e ∙ ap (λ x. x ++ rest) (sym (listing_bytes l))

pub only_listing : (bytes rest : List ℕ) (l m : Listing) (line at : ℕ) → listing_at (text_from 1 0 bytes) ≡ Ok (m, text_from line at bytes) → at ≤ length bytes → FitsListing l → bytes ≡ listing_text l ++ rest
    → (m ≡ l) × (at ≡ length (listing_text l))
only_listing bytes rest l m line at e within f is =
    let t = only_found listing_at listing_lines FitsListing listing_spelled listing_text_lines bytes rest l m line at e within f (spelled_bytes bytes rest l is) in
    (t.0, t.1 ∙ ap length (listing_bytes l))

pub only_memory : (e : ReadFault) (bytes rest : List ℕ) (l : Listing) → Fails e (listing_at (text_from 1 0 bytes)) → FitsListing l → bytes ≡ listing_text l ++ rest → listing_fault e ≡ NoMemory
only_memory e bytes rest l h f is = ap listing_fault (only_full listing_at listing_lines FitsListing listing_spelled listing_text_lines e bytes rest l h f (spelled_bytes bytes rest l is))

pub fault_is : {A : Type 0} (e : ReadFault) (bytes : List ℕ) (line : ℕ) (kind : FormKind) → Fails e (listing_at (text_from 1 0 bytes)) → ◌≡◌ {A = Result A ListingFault} (Err (listing_fault e)) (Err (BadListing line kind)) → IsFirstFault bytes line kind
fault_is (read.Form f) bytes line kind h is =
    let at : f.line ≡ line = cc is in
    let of : f.kind ≡ kind = cc is in
    (f.column, h ∙ (λ i. Err (record { line = at i; column = f.column; kind = of i })))
fault_is read.NoMemory bytes line kind h is = absurd (cc is)

pub first_is : (e : ReadFault) (bytes : List ℕ) (line : ℕ) (kind : FormKind) → Fails e (listing_at (text_from 1 0 bytes)) → IsFirstFault bytes line kind → (listing_fault e ≡ BadListing line kind) ⊎ (listing_fault e ≡ NoMemory)
first_is (read.Form f) bytes line kind h is =
    let same : ◌≡◌ {A = Result (Listing × RestOfText) FormFault} (Err f) (Err (record { line = line; column = is.0; kind = kind })) = sym h ∙ is.1 in
    let fault : f ≡ record { line = line; column = is.0; kind = kind } = cc same in
    inl (ap (λ (g : FormFault). BadListing g.line g.kind) fault)
first_is read.NoMemory bytes line kind h is = inr refl

pub no_fault : (bytes : List ℕ) (l : Listing) (after : RestOfText) (line : ℕ) (kind : FormKind) → listing_at (text_from 1 0 bytes) ≡ Ok (l, after) → IsFirstFault bytes line kind → ⊥
no_fault bytes l after line kind e is =
    let same : ◌≡◌ {A = Result (Listing × RestOfText) FormFault} (Ok (l, after)) (Err (record { line = line; column = is.0; kind = kind })) = sym e ∙ is.1 in
    cc same
