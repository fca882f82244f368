-- The terms of a line, and the factors of a term, one after the other, as a loop reads them.
use Rattle.std.proofs.Common.{◌≡◌, ℕ, ◌+◌, List, [], ◌∷◌, ◌++◌, length, length-append, Result, Ok, Err, refl, sym, ap, ◌∙◌, append_assoc, append-nil}
use Rattle.git_lines.specs.Parts.{Part}
use Rattle.git_lines.specs.Reading.{◌>>=◌}
use Rattle.git_algebra.specs.Exponents.{Exponents}
use Rattle.git_algebra.specs.Sums.{Sum}
use Rattle.git_polytext.specs.declared.fault.PolynomialFault.{PolynomialFault}
use Rattle.git_polytext.specs.declared.fault.PolynomialFault.TheVariants.{Form, Variable, NoMemory}
use Rattle.git_polytext.specs.Reading.{Fails, term_parts, term_part, power_parts, power_signs, signs_of}

-- what was read before goes before what is still read
abbrev pub after : Sum → Result Sum PolynomialFault → Result Sum PolynomialFault
after front read = read >>= λ x. Ok (front ++ x)

pub starts : (read : Result Sum PolynomialFault) → after [] read ≡ read
starts (Ok x) = refl
starts (Err f) = refl

regroup : (front : Sum) (a : Exponents × ℕ) (read : Result Sum PolynomialFault) → after front (read >>= λ x. Ok (a ∷ x)) ≡ after (front ++ a ∷ []) read
regroup front a (Ok x) = ap (λ l. Ok l) (simp append_assoc)
regroup front a (Err f) = refl

pub goes_on : (r line : ℕ) (front : Sum) (all ps : List Part) (p : Part) (t : Exponents × ℕ) (total : Result Sum PolynomialFault)
    → all ≡ p ∷ ps → term_part r line (length front) p ≡ Ok t → after front (term_parts r line (length front) all) ≡ total
    → after (front ++ t ∷ []) (term_parts r line (length (front ++ t ∷ [])) ps) ≡ total
unfolding term_parts
goes_on r line front all ps p t total e h so_far =
    let count : length (front ++ t ∷ []) ≡ length front + 1 = simp length-append in
    let one : after front (term_parts r line (length front) all) ≡ after (front ++ t ∷ []) (term_parts r line (length front + 1) ps) = rw (e, h) (regroup front t (term_parts r line (length front + 1) ps)) in
    rw count (sym one ∙ so_far)

pub stops : (r line : ℕ) (front : Sum) (all ps : List Part) (p : Part) (e : PolynomialFault) (total : Result Sum PolynomialFault)
    → all ≡ p ∷ ps → term_part r line (length front) p ≡ Err e → after front (term_parts r line (length front) all) ≡ total → total ≡ Err e
unfolding term_parts
stops r line front all ps p e total is h so_far =
    let one : after front (term_parts r line (length front) all) ≡ Err e = rw (is, h) refl in
    sym so_far ∙ one

pub is_done : (r line : ℕ) (front : Sum) (all : List Part) (total : Result Sum PolynomialFault)
    → all ≡ [] → after front (term_parts r line (length front) all) ≡ total → total ≡ Ok front
unfolding term_parts
is_done r line front all total is so_far =
    let one : after front (term_parts r line (length front) all) ≡ Ok front = rw is (ap (λ l. Ok l) (append-nil front)) in
    sym so_far ∙ one

-- a fault of reading is the reader's
pub fails_by : {Y : Type 0} (e : PolynomialFault) (read : Result Y PolynomialFault) → read ≡ Err e → Fails e read
fails_by NoMemory read h = tt
fails_by (Form f) read h = h
fails_by (Variable line column) read h = h

-- ---- the factors of a term

pub factor_stops : (r line start : ℕ) (m : Exponents) (all ps : List Part) (p : Part) (e : PolynomialFault) (total : Result Exponents PolynomialFault)
    → all ≡ p ∷ ps → power_signs r start m (signs_of line p) ≡ Err e → power_parts r line start m all ≡ total → total ≡ Err e
unfolding power_parts
factor_stops r line start m all ps p e total is h so_far =
    let one : power_parts r line start m all ≡ Err e = rw (is, h) refl in
    sym so_far ∙ one

pub factor_goes_on : (r line start : ℕ) (m more : Exponents) (all ps : List Part) (p : Part) (total : Result Exponents PolynomialFault)
    → all ≡ p ∷ ps → power_signs r start m (signs_of line p) ≡ Ok more → power_parts r line start m all ≡ total → power_parts r line start more ps ≡ total
unfolding power_parts
factor_goes_on r line start m more all ps p total is h so_far =
    let one : power_parts r line start m all ≡ power_parts r line start more ps = rw (is, h) refl in
    sym one ∙ so_far

pub factors_done : (r line start : ℕ) (m : Exponents) (all : List Part) (total : Result Exponents PolynomialFault)
    → all ≡ [] → power_parts r line start m all ≡ total → total ≡ Ok m
unfolding power_parts
factors_done r line start m all total is so_far =
    let one : power_parts r line start m all ≡ Ok m = rw is refl in
    sym so_far ∙ one
