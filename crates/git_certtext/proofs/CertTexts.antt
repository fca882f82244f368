-- The lines of certificates joined are their text; what the reader's clauses say follows from what reading gives.
use Rattle.std.proofs.Common.{◌≡◌, ◌⊎◌, inl, inr, ℕ, zero, suc, ◌+◌, ◌-◌, ◌<◌, ◌≤◌, ◌^◌, List, [], ◌∷◌, ◌++◌, length, Result, Ok, Err, refl, sym, ap, ◌∙◌, subst, append_assoc, arith}
use Rattle.std.specs.Prelude.{codes}
use Rattle.std.specs.List.{concat, flat_map, AllByRecursion}
use Rattle.std.proofs.lemmas.List.{append-nil}
use Rattle.std.proofs.lemmas.List.Folds.{concat-append}
use Rattle.git_algebra.specs.Polynomials.{Polynomial}
use Rattle.git_facecert.specs.declared.certificate.FaceCert.{FaceCert}
use Rattle.git_facecert.specs.declared.certificate.FaceCert.TheVariants.{Monomial, Free}
use Rattle.git_facecert.specs.declared.certificate.FaceVerdict.{FaceVerdict}
use Rattle.git_lines.specs.declared.fault.FormFault.{FormFault}
use Rattle.git_lines.specs.declared.fault.FormKind.{FormKind}
use Rattle.git_lines.specs.Lines.{text_from, lines_of}
use Rattle.git_lines.specs.Printing.{line_text, number_line}
use Rattle.git_lines.specs.Reading.{nothing_at, no_line}
use Rattle.git_lines.proofs.Exact.{bind_ok, ok_is}
use Rattle.git_lines.proofs.FirstLine.{lines_make}
use Rattle.git_strictlines.specs.declared.fault.ReadFault.{ReadFault}
use Rattle.git_strictlines.specs.declared.fault.ReadFault.TheVariants as read
use Rattle.git_strictlines.specs.Faults.{Fails}
use Rattle.git_strictlines.specs.Spelling.{number_words, end_words}
use Rattle.git_strictlines.proofs.Bytes.{text_again}
use Rattle.git_certtext.specs.declared.fault.CertsFault.{CertsFault}
use Rattle.git_certtext.specs.declared.fault.CertsFault.TheVariants.{BadCerts, NoMemory}
use Rattle.git_certtext.specs.Faults.{certs_fault}
use Rattle.git_certtext.specs.Blocks.{Block, cert_of, block_of, blocks_of, FitsBlock, FitsCerts}
use Rattle.git_certtext.specs.CertificateText.{polynomial_line, cert_text, block_text, certificates_text}
use Rattle.git_certtext.specs.CertReading.{certs_at, certs_whole, reading, IsFirstFault}
use Rattle.git_certtext.proofs.CertSpelled.{polynomial_lines, cert_lines, block_lines, certs_lines, IsBlock, AreBlocks, certs_spelled, certs_text_lines}

-- ---- lines joined

concat_lines : (letter : List ℕ) (ps : List Polynomial) → concat (polynomial_lines letter ps) ≡ flat_map (polynomial_line letter) ps
concat_lines letter [] = refl
concat_lines letter (p ∷ ps) = ap (λ l. polynomial_line letter p ++ l) (concat_lines letter ps)

cert_bytes : (mask : ℕ) (c : FaceCert) → concat (cert_lines mask (cert_of c)) ≡ cert_text mask c
cert_bytes mask (Free basis) = ap (λ l. line_text (codes "face" ∷ Rattle.std.specs.Fmt.decimal mask ∷ codes "free" ∷ Rattle.std.specs.Fmt.decimal (length basis.items) ∷ []) ++ l) (concat_lines (codes "g") basis.items)
cert_bytes mask (Monomial power cofactors) =
    ap (λ l. line_text (codes "face" ∷ Rattle.std.specs.Fmt.decimal mask ∷ codes "monomial" ∷ Rattle.std.specs.Fmt.decimal power ∷ Rattle.std.specs.Fmt.decimal (length cofactors.items) ∷ []) ++ l) (concat_lines (codes "h") cofactors.items)

blocks_bytes : (vs : List FaceVerdict) → concat (flat_map block_lines (blocks_of vs)) ≡ flat_map block_text vs
blocks_bytes [] = refl
blocks_bytes (v ∷ vs) = concat-append (block_lines (block_of v)) (flat_map block_lines (blocks_of vs)) ∙ (λ i. cert_bytes v.mask v.cert i ++ blocks_bytes vs i)

same_length : (vs : List FaceVerdict) → length (blocks_of vs) ≡ length vs
same_length [] = refl
same_length (v ∷ vs) = ap suc (same_length vs)

joined : (a b c d : List ℕ) → a ++ (b ++ (c ++ d)) ≡ a ++ b ++ c ++ d
joined a b c d = simp append_assoc

pub certs_bytes : (vs : List FaceVerdict) → concat (certs_lines (blocks_of vs)) ≡ certificates_text vs
certs_bytes vs =
    let head = line_text (number_words (codes "gitfan-certs") 1) in
    let last = line_text end_words in
    let blocks = flat_map block_lines (blocks_of vs) in
    let inside = concat-append blocks (last ∷ []) ∙ (λ i. blocks_bytes vs i ++ append-nil last i) in
    (λ i. head ++ (number_line (codes "faces") (same_length vs i) ++ inside i)) ∙ one_is
  where
    one_is : line_text (number_words (codes "gitfan-certs") 1) ++ (number_line (codes "faces") (length vs) ++ (flat_map block_text vs ++ line_text end_words)) ≡ certificates_text vs
    one_is = ap (λ w. line_text (codes "gitfan-certs" ∷ w ∷ []) ++ (number_line (codes "faces") (length vs) ++ (flat_map block_text vs ++ line_text end_words))) (Rattle.std.proofs.lemmas.Fmt.decimal_digit 1 (omega arith))
        ∙ joined (line_text (codes "gitfan-certs" ∷ codes "1" ∷ [])) (number_line (codes "faces") (length vs)) (flat_map block_text vs) (line_text end_words)

-- ---- masks below a power of two

power_some : (r : ℕ) → 1 ≤ 2 ^ r
power_some zero = omega arith
power_some (suc r) = let more = power_some r in omega (arith, more)

block_fits : (r : ℕ) (b : Block) → IsBlock r (2 ^ r - 1) b → FitsBlock r b
block_fits r b h = record { some = h.some; within = omega (arith, h.some, h.within); cert = h.cert }

fits_block : (r : ℕ) (b : Block) → FitsBlock r b → IsBlock r (2 ^ r - 1) b
fits_block r b h = record { some = h.some; within = omega (arith, h.within); cert = h.cert }

each : {A : Type 0} (P Q : A → Type 0) → ((a : A) → P a → Q a) → (xs : List A) → AllByRecursion P xs → AllByRecursion Q xs
each P Q f [] h = tt
each P Q f (x ∷ xs) h = (f x h.0, each P Q f xs h.1)

blocks_fit : (r : ℕ) (bs : List Block) → AreBlocks r (2 ^ r - 1) bs → FitsCerts r bs
blocks_fit r bs h = record { few = h.few; each = each (IsBlock r (2 ^ r - 1)) (FitsBlock r) (block_fits r) bs h.each }

fit_blocks : (r : ℕ) (bs : List Block) → FitsCerts r bs → AreBlocks r (2 ^ r - 1) bs
fit_blocks r bs h = record { few = h.few; each = each (FitsBlock r) (IsBlock r (2 ^ r - 1)) (fits_block r) bs h.each }

-- ---- the whole text

nothing_left : (line : ℕ) (ls : List (List ℕ)) (u : Unit {0}) → nothing_at line ls ≡ Ok u → ls ≡ []
nothing_left line [] u e = refl
nothing_left line (l ∷ ls) u e = absurd (cc e)

nothing_more : (line : ℕ) (ls : List (List ℕ)) → ls ≡ [] → nothing_at line ls ≡ Ok tt
nothing_more line ls e = ap (nothing_at line) e

-- what is read is the text of the blocks
pub whole_is : (r : ℕ) → r ≤ 16 → 2 ^ r - 1 < 10 ^ 18 → (bytes : List ℕ) (bs : List Block) → reading r bytes ≡ Ok bs → FitsCerts r bs × (bytes ≡ concat (certs_lines bs))
unfolding certs_whole no_line
whole_is r small few bytes bs e =
    let c = bind_ok (certs_at r (2 ^ r - 1) (text_from 1 0 bytes)) _ bs e in
    let z = bind_ok (no_line c.0.1) _ bs c.2 in
    let p = ok_is c.0.0 bs z.2 in
    let t = (certs_spelled r (2 ^ r - 1) small few).takes (text_from 1 0 bytes) c.0.1 c.0.0 c.1 in
    let none = nothing_left c.0.1.line c.0.1.lines z.0 z.1 in
    let lines : lines_of bytes ≡ certs_lines c.0.0 = t.0 ∙ ap (λ x. certs_lines c.0.0 ++ x) none ∙ append-nil (certs_lines c.0.0) in
    subst (λ x. FitsCerts r x × (bytes ≡ concat (certs_lines x))) p (blocks_fit r c.0.0 t.1, sym (lines_make bytes) ∙ ap concat lines)

-- the text of blocks within the limits is read as they
pub whole_again : (r : ℕ) → r ≤ 16 → 2 ^ r - 1 < 10 ^ 18 → (bytes : List ℕ) (bs : List Block) → FitsCerts r bs → bytes ≡ concat (certs_lines bs) → reading r bytes ≡ Ok bs
unfolding certs_whole no_line
whole_again r small few bytes bs f e =
    let last = 2 ^ r - 1 in
    let t = text_again (certs_at r last) certs_lines (AreBlocks r last) (certs_spelled r last small few) (certs_text_lines r last small few) bytes [] bs (fit_blocks r bs f) (e ∙ sym (append-nil (concat (certs_lines bs)))) in
    rw (t.1, nothing_more t.0.line t.0.lines t.2) refl

-- ---- the reader's clauses

pub found_is : (r : ℕ) → r ≤ 16 → 2 ^ r - 1 < 10 ^ 18 → (bytes : List ℕ) (vs : List FaceVerdict) → reading r bytes ≡ Ok (blocks_of vs) → FitsCerts r (blocks_of vs) × (bytes ≡ certificates_text vs)
found_is r small few bytes vs e = let t = whole_is r small few bytes (blocks_of vs) e in (t.0, t.1 ∙ certs_bytes vs)

pub again_is : (r : ℕ) → r ≤ 16 → 2 ^ r - 1 < 10 ^ 18 → (bytes : List ℕ) (vs : List FaceVerdict) → FitsCerts r (blocks_of vs) → bytes ≡ certificates_text vs → reading r bytes ≡ Ok (blocks_of vs)
again_is r small few bytes vs f e = whole_again r small few bytes (blocks_of vs) f (e ∙ sym (certs_bytes vs))

pub same_blocks : (r : ℕ) (bytes : List ℕ) (bs cs : List Block) → reading r bytes ≡ Ok bs → reading r bytes ≡ Ok cs → bs ≡ cs
same_blocks r bytes bs cs e h = ok_is bs cs (sym e ∙ h)

pub only_memory : (e : ReadFault) (r : ℕ) (bytes : List ℕ) (bs : List Block) → Fails e (reading r bytes) → reading r bytes ≡ Ok bs → certs_fault e ≡ NoMemory
only_memory (read.Form f) r bytes bs h is = absurd (cc (sym h ∙ is))
only_memory read.NoMemory r bytes bs h is = refl

pub fault_is : {A : Type 0} (e : ReadFault) (r : ℕ) (bytes : List ℕ) (line : ℕ) (kind : FormKind) → Fails e (reading r bytes) → ◌≡◌ {A = Result A CertsFault} (Err (certs_fault e)) (Err (BadCerts line kind)) → IsFirstFault r bytes line kind
fault_is (read.Form f) r bytes line kind h is =
    let at : f.line ≡ line = cc is in
    let of : f.kind ≡ kind = cc is in
    (f.column, h ∙ (λ i. Err (record { line = at i; column = f.column; kind = of i })))
fault_is read.NoMemory r bytes line kind h is = absurd (cc is)

pub first_is : (e : ReadFault) (r : ℕ) (bytes : List ℕ) (line : ℕ) (kind : FormKind) → Fails e (reading r bytes) → IsFirstFault r bytes line kind → (certs_fault e ≡ BadCerts line kind) ⊎ (certs_fault e ≡ NoMemory)
first_is (read.Form f) r bytes line kind h is =
    let same : ◌≡◌ {A = Result (List Block) FormFault} (Err f) (Err (record { line = line; column = is.0; kind = kind })) = sym h ∙ is.1 in
    let fault : f ≡ record { line = line; column = is.0; kind = kind } = cc same in
    inl (ap (λ (g : FormFault). BadCerts g.line g.kind) fault)
first_is read.NoMemory r bytes line kind h is = inr refl

pub no_fault : (r : ℕ) (bytes : List ℕ) (bs : List Block) (line : ℕ) (kind : FormKind) → reading r bytes ≡ Ok bs → IsFirstFault r bytes line kind → ⊥
no_fault r bytes bs line kind e is =
    let same : ◌≡◌ {A = Result (List Block) FormFault} (Ok bs) (Err (record { line = line; column = is.0; kind = kind })) = sym e ∙ is.1 in
    cc same

-- the greatest mask is that of all variables
pub fails_here : (e : ReadFault) (r last : ℕ) (bytes : List ℕ) → last ≡ 2 ^ r - 1 → Fails e (certs_whole r last (text_from 1 0 bytes)) → Fails e (reading r bytes)
fails_here e r last bytes same h = subst (λ n. Fails e (certs_whole r n (text_from 1 0 bytes))) same h

-- ---- laws

power_more : (a b : ℕ) → 2 ^ a ≤ 2 ^ (a + b)
power_more a zero = let same : a + 0 ≡ a = omega arith in omega (arith, ap (λ n. 2 ^ n) same)
power_more a (suc b) =
    let more = power_more a b in
    let next : a + suc b ≡ suc (a + b) = omega arith in
    omega (arith, more, ap (λ n. 2 ^ n) next)

-- masks of at most sixteen variables
few_masks : (r : ℕ) → r ≤ 16 → 2 ^ r - 1 < 10 ^ 18
few_masks r h =
    let same : r + (16 - r) ≡ 16 = omega (arith, h) in
    let most : 2 ^ r ≤ 2 ^ 16 = subst (λ n. 2 ^ r ≤ 2 ^ n) same (power_more r (16 - r)) in
    omega (arith, most)

pub read_back : (r : ℕ) (vs : List FaceVerdict) → r ≤ 16 → FitsCerts r (blocks_of vs) → reading r (certificates_text vs) ≡ Ok (blocks_of vs)
read_back r vs small f = again_is r small (few_masks r small) (certificates_text vs) vs f refl

pub read_printed : (r : ℕ) (bytes : List ℕ) (vs : List FaceVerdict) → r ≤ 16 → reading r bytes ≡ Ok (blocks_of vs) → FitsCerts r (blocks_of vs) × (bytes ≡ certificates_text vs)
read_printed r bytes vs small e = found_is r small (few_masks r small) bytes vs e
