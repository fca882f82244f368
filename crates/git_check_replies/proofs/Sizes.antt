-- The lines that are printed are no more than the bytes, so those of a check text can be counted.
use Rattle.std.proofs.Common.{◌≡◌, ℕ, suc, ◌+◌, ◌^◌, ◌<◌, ◌≤◌, Bool, true, false, cond, List, [], ◌∷◌, ◌++◌, length, map, take, drop, ap, ◌∙◌, arith, length-append, Ok}
use Rattle.std.specs.Prelude.{◌==◌, Option, Some, None, sum, codes}
use Rattle.std.specs.List.{flat_map}
use Rattle.std.specs.Fmt.{decimal, signed_decimal}
use Rattle.std.proofs.Math.Seq.{take-length}
use Rattle.std.proofs.lemmas.List.{length-drop, length-take}
use Rattle.std.proofs.lemmas.List.Sums.{sum_by-cons}
use Rattle.git_polytext.specs.Printing.{polynomial_text}
use Rattle.git_lines.specs.Lines.{lines_of, onto_first}
use Rattle.git_lines.specs.Printing.{integers_line, line_text, number_line, spaced}
use Rattle.git_text.proofs.Matrices.{text_is_a_grading}
use Rattle.git_grading.specs.Gradings.{IsGrading}
use Rattle.git_facecert.specs.declared.certificate.FaceCert.{FaceCert}
use Rattle.git_facecert.specs.declared.certificate.FaceCert.TheVariants.{Free, Monomial}
use Rattle.git_facecert.specs.declared.certificate.FaceVerdict.{FaceVerdict}
use Rattle.git_listing.specs.Listings.{Chamber, Listing}
use Rattle.git_listing.specs.ListingText.{chamber_text, chambers_text, facet_text, head_text, listing_text, mark_text, side_words}
use Rattle.git_certtext.specs.Blocks.{Block, FitsCerts, block_of, blocks_of, cert_of}
use Rattle.git_certtext.specs.CertificateText.{block_text, cert_text, certificates_text, polynomial_line}
use Rattle.git_certtext.proofs.CertTexts.{read_printed}
use Rattle.git_asked.specs.Asks as listed
use Rattle.git_check_faces.specs.Faces as faces
use Rattle.git_check.specs.declared.checked.Section.{Section}
use Rattle.git_check.specs.declared.checked.Section.TheVariants.{Certs, Listing as the_listing}
use Rattle.git_check_replies.specs.CheckCases.{lines_before}
use Rattle.git_checktext.specs.CheckText.{CheckText, IsCheckText, variables}

-- ---- lines of bytes

step_few : (b n : ℕ) (test : Bool) (lines : List (List ℕ)) → length lines ≤ n → length (cond test ((b ∷ []) ∷ lines) (onto_first b lines)) ≤ suc n
step_few b n true lines h = omega (arith, h)
step_few b n false [] h = omega arith
step_few b n false (l ∷ lines) h = omega (arith, h)

lines_few : (bs : List ℕ) → length (lines_of bs) ≤ length bs
lines_few [] = omega arith
lines_few (b ∷ bs) = step_few b (length bs) (b == 10) (lines_of bs) (lines_few bs)

-- ---- lines of words

some : (ws : List (List ℕ)) → 1 ≤ length (line_text ws)
some ws = let long = length-append (spaced ws) (10 ∷ []) in omega (arith, long)

each_some : {A : Type 0} (f : A → List ℕ) → ((a : A) → 1 ≤ length (f a)) → (xs : List A) → length xs ≤ length (flat_map f xs)
each_some f h [] = omega arith
each_some f h (x ∷ xs) = let long = length-append (f x) (flat_map f xs) in let here = h x in let rest = each_some f h xs in omega (arith, long, here, rest)

-- ---- a listing

mark_some : (m : Option ℕ) → listed.mark_lines m ≤ length (mark_text m)
mark_some None = omega arith
mark_some (Some cone) = some (codes "crossed" ∷ decimal cone ∷ [])

five : (a b c d e : List ℕ) → length (a ++ b ++ c ++ d ++ e) ≡ length a + length b + length c + length d + length e
five a b c d e =
    let p = length-append a b in
    let q = length-append (a ++ b) c in
    let r = length-append (a ++ b ++ c) d in
    let s = length-append (a ++ b ++ c ++ d) e in
    omega (arith, p, q, r, s)

chamber_some : (version n : ℕ) (c : Chamber) → listed.lines_in c ≤ length (chamber_text version n c)
chamber_some version n c =
    let long = five (number_line (codes "chamber") n) (flat_map (integers_line (codes "ray")) c.rays) (integers_line (codes "weight") c.weight) (mark_text c.crossed) (flat_map (facet_text version) c.facets) in
    let first = some (codes "chamber" ∷ decimal n ∷ []) in
    let rays = each_some (integers_line (codes "ray")) (λ v. some (codes "ray" ∷ map signed_decimal v)) c.rays in
    let weight = some (codes "weight" ∷ map signed_decimal c.weight) in
    let mark = mark_some c.crossed in
    let facets = each_some (facet_text version) (λ f. some (codes "facet" ∷ map signed_decimal f.normal ++ side_words version f.side)) c.facets in
    omega (arith, long, first, rays, weight, mark, facets)

chambers_some : (version n : ℕ) (cs : List Chamber) → sum (map listed.lines_in cs) ≤ length (chambers_text version n cs)
chambers_some version n [] = omega arith
chambers_some version n (c ∷ cs) =
    let long = length-append (chamber_text version n c) (chambers_text version (n + 1) cs) in
    let here = chamber_some version n c in
    let rest = chambers_some version (n + 1) cs in
    let all = sum_by-cons (λ (m : ℕ). m) (listed.lines_in c) (map listed.lines_in cs) in
    omega (arith, long, here, rest, all)

four : (a b c d : List ℕ) → length (a ++ b ++ c ++ d) ≡ length a + length b + length c + length d
four a b c d =
    let p = length-append a b in
    let q = length-append (a ++ b) c in
    let r = length-append (a ++ b ++ c) d in
    omega (arith, p, q, r)

head_some : (l : Listing) → 4 ≤ length (head_text l)
head_some l =
    let long = four (number_line (codes "gitfan-listing") l.version) (line_text (codes "grading" ∷ decimal l.k ∷ decimal l.r ∷ [])) (number_line (codes "cones") l.cones) (number_line (codes "chambers") (length l.chambers)) in
    let a = some (codes "gitfan-listing" ∷ decimal l.version ∷ []) in
    let b = some (codes "grading" ∷ decimal l.k ∷ decimal l.r ∷ []) in
    let c = some (codes "cones" ∷ decimal l.cones ∷ []) in
    let d = some (codes "chambers" ∷ decimal (length l.chambers) ∷ []) in
    omega (arith, long, a, b, c, d)

listing_some : (l : Listing) → listed.chamber_line l.chambers (length l.chambers) ≤ length (listing_text l)
listing_some l =
    let all : take (length l.chambers) l.chambers ≡ l.chambers = take-length l.chambers in
    let head = head_some l in
    let chambers = chambers_some l.version 1 l.chambers in
    let end = some (codes "end" ∷ []) in
    let p = length-append (head_text l) (chambers_text l.version 1 l.chambers) in
    let q = length-append (head_text l ++ chambers_text l.version 1 l.chambers) (line_text (codes "end" ∷ [])) in
    let s : sum (map listed.lines_in (take (length l.chambers) l.chambers)) ≡ sum (map listed.lines_in l.chambers) = ap (λ (cs : List Chamber). sum (map listed.lines_in cs)) all in
    omega (arith, head, chambers, end, p, q, s)

-- ---- certificates

cert_some : (mask : ℕ) (c : FaceCert) → faces.lines_of (cert_of c) ≤ length (cert_text mask c)
cert_some mask (Free basis) =
    let first = line_text (codes "face" ∷ decimal mask ∷ codes "free" ∷ decimal (length basis.items) ∷ []) in
    let long = length-append first (flat_map (polynomial_line (codes "g")) basis.items) in
    let here = some (codes "face" ∷ decimal mask ∷ codes "free" ∷ decimal (length basis.items) ∷ []) in
    let rest = each_some (polynomial_line (codes "g")) (λ p. some (codes "g" ∷ polynomial_text p ∷ [])) basis.items in
    omega (arith, long, here, rest)
cert_some mask (Monomial power cofactors) =
    let first = line_text (codes "face" ∷ decimal mask ∷ codes "monomial" ∷ decimal power ∷ decimal (length cofactors.items) ∷ []) in
    let long = length-append first (flat_map (polynomial_line (codes "h")) cofactors.items) in
    let here = some (codes "face" ∷ decimal mask ∷ codes "monomial" ∷ decimal power ∷ decimal (length cofactors.items) ∷ []) in
    let rest = each_some (polynomial_line (codes "h")) (λ p. some (codes "h" ∷ polynomial_text p ∷ [])) cofactors.items in
    omega (arith, long, here, rest)

blocks_some : (vs : List FaceVerdict) → sum (map faces.lines_in (blocks_of vs)) ≤ length (flat_map block_text vs)
blocks_some [] = omega arith
blocks_some (f ∷ fs) =
    let long = length-append (block_text f) (flat_map block_text fs) in
    let here = cert_some f.mask f.cert in
    let rest = blocks_some fs in
    let all = sum_by-cons (λ (m : ℕ). m) (faces.lines_in (block_of f)) (map faces.lines_in (blocks_of fs)) in
    omega (arith, long, here, rest, all)

certs_some : (vs : List FaceVerdict) → faces.face_line (blocks_of vs) (length (blocks_of vs)) ≤ length (certificates_text vs)
certs_some vs =
    let header = line_text (codes "gitfan-certs" ∷ codes "1" ∷ []) in
    let count = number_line (codes "faces") (length vs) in
    let long = four header count (flat_map block_text vs) (line_text (codes "end" ∷ [])) in
    let a = some (codes "gitfan-certs" ∷ codes "1" ∷ []) in
    let b = some (codes "faces" ∷ decimal (length vs) ∷ []) in
    let blocks = blocks_some vs in
    let end = some (codes "end" ∷ []) in
    let s : sum (map faces.lines_in (take (length (blocks_of vs)) (blocks_of vs))) ≡ sum (map faces.lines_in (blocks_of vs)) = ap (λ (bs : List Block). sum (map faces.lines_in bs)) (take-length (blocks_of vs)) in
    omega (arith, long, a, b, blocks, end, s)

-- ---- of a check text

module _ (bytes : List ℕ) (x : CheckText) (is : IsCheckText bytes x) where
  pub graded : IsGrading x.input.degrees.k x.input.degrees.columns
  graded = text_is_a_grading is.head.input.input.matrix_lines x.input.degrees is.head.input.input.matrix

  -- the listing and the certificates are among the bytes
  among : length (listing_text x.listing) + length is.rest ≤ length bytes
  among =
      let all : length (drop is.used bytes) ≡ length (listing_text x.listing ++ is.rest) = ap length is.head.is in
      let long = length-append (listing_text x.listing) is.rest in
      let cut = length-drop is.used bytes in
      omega (arith, all, long, cut)

  pub listing_short : listed.chamber_line x.listing.chambers (length x.listing.chambers) < 2 ^ 32
  listing_short = let lines = listing_some x.listing in let all = among in omega (arith, lines, all, is.few)

  module _ (vs : List FaceVerdict) (same : x.certs ≡ blocks_of vs) where
    printed : FitsCerts (variables x.input) (blocks_of vs) × (is.rest ≡ certificates_text vs)
    printed = read_printed (variables x.input) is.rest vs graded.matrix.few_columns (is.certs ∙ ap Ok same)

    pub certs_fit : FitsCerts (variables x.input) (blocks_of vs)
    certs_fit = printed.0

    pub certs_short : faces.face_line (blocks_of vs) (length (blocks_of vs)) < 2 ^ 32
    certs_short =
        let lines = certs_some vs in
        let all = among in
        let rest : length is.rest ≡ length (certificates_text vs) = ap length printed.1 in
        omega (arith, lines, all, rest, is.few)

  -- and so are the lines before them
  before_listing_few : x.before_listing < 2 ^ 32
  before_listing_few =
      let lines = lines_few (take is.used bytes) in
      let short = length-take is.used bytes in
      omega (arith, lines, short, is.before_listing, is.few)

  before_certs_few : x.before_certs < 2 ^ 32
  before_certs_few =
      let lines = lines_few (take is.used bytes) in
      let more = lines_few (listing_text x.listing) in
      let short = length-take is.used bytes in
      let all = among in
      omega (arith, lines, more, short, all, is.before_certs, is.few)

  pub before_few : (section : Section) → lines_before x section < 2 ^ 32
  before_few the_listing = before_listing_few
  before_few Certs = before_certs_few
