-- The terms of a polynomial, one after the other, as a loop reads them.
use Rattle.std.proofs.Common.{◌≡◌, ℕ, zero, suc, ◌-◌, ◌<◌, ◌≤◌, Bool, true, List, [], ◌∷◌, ◌++◌, length, All, Result, Ok, Err, refl, sym, ap, ◌∙◌, subst, append_assoc, append-nil, arith}
use Rattle.std.specs.List.{AllByRecursion}
use Rattle.git_lines.specs.declared.fault.FormKind.{FormKind}
use Rattle.git_lines.specs.declared.fault.FormKind.TheVariants.{Syntax}
use Rattle.git_lines.specs.Reading.{◌>>=◌}
use Rattle.git_algebra.specs.Exponents.{Exponents}
use Rattle.git_algebra.specs.Order.{rank}
use Rattle.git_algebra.specs.Sums.{Sum}
use Rattle.git_algebra.specs.Polynomials.{Polynomial, Proper, RanksBelow, normal}
use Rattle.git_algebra.specs.Operations.{zero_polynomial, term_of, plus}
use Rattle.git_algebra.proofs.Normal.{terms-normal, normal_of}
use Rattle.git_strictpoly.specs.declared.reading.StrictFault.{StrictFault}
use Rattle.git_strictpoly.specs.declared.reading.StrictFault.TheVariants.{Form, NoMemory}
use Rattle.git_strictpoly.specs.Strict.{later_term, with_term, signed, term_front, terms_after, terms_front, sum_front, strict_polynomial}
use Rattle.std.specs.Prelude.{codes, IfOk, MatchResult}
use Rattle.git_lines.proofs.Exact.{ok_is}
use Rattle.git_polytext.specs.Printing.{polynomial_text}
use Rattle.git_strictpoly.specs.Laws.{FitsPoly}
use Rattle.git_strictpoly.proofs.Sums.{texts_are_printed, printed_is_read}
use Rattle.std.specs.Str.{bytes_eq}
use Rattle.git_strictpoly.specs.Giving.{after, Fails, GivesSum, GivesStrict}

pub loop_done : (n r : ℕ) (before : Exponents) (s : List ℕ) (front : Sum) (total : Result Sum FormKind) → length s ≤ 0 → after front (terms_after n r before s) ≡ total → total ≡ Ok front
unfolding terms_after
loop_done zero r before [] front total none e = sym e ∙ ap (λ x. Ok x) (append-nil front)
loop_done (suc n) r before [] front total none e = sym e ∙ ap (λ x. Ok x) (append-nil front)
loop_done n r before (b ∷ s) front total none e = absurd (omega (arith, none))

pub loop_spent : (n r : ℕ) (before : Exponents) (s : List ℕ) (front : Sum) (total : Result Sum FormKind) → 0 < length s → n ≡ 0 → after front (terms_after n r before s) ≡ total → total ≡ Err Syntax
unfolding terms_after
loop_spent zero r before [] front total some none e = absurd (omega (arith, some))
loop_spent zero r before (b ∷ s) front total some none e = sym e
loop_spent (suc n) r before s front total some none e = absurd (omega (arith, none))

pub loop_stops : (n r : ℕ) (before : Exponents) (s : List ℕ) (front : Sum) (total : Result Sum FormKind) (kind : FormKind) → 0 < length s → 0 < n → later_term r before s ≡ Err kind
    → after front (terms_after n r before s) ≡ total → total ≡ Err kind
unfolding terms_after
loop_stops zero r before s front total kind some left h e = absurd (omega (arith, left))
loop_stops (suc n) r before [] front total kind some left h e = absurd (omega (arith, some))
loop_stops (suc n) r before (b ∷ s) front total kind some left h e =
    let one : after front (terms_after (suc n) r before (b ∷ s)) ≡ Err kind = rw h refl in
    sym e ∙ one

regroup : (front : Sum) (t : Exponents × ℕ) (read : Result Sum FormKind) → after front (read >>= with_term t) ≡ after (front ++ t ∷ []) read
regroup front t (Ok x) = ap (λ l. Ok l) (sym (append_assoc front (t ∷ []) x))
regroup front t (Err k) = refl

pub loop_goes_on : (n r : ℕ) (before : Exponents) (s : List ℕ) (front : Sum) (total : Result Sum FormKind) (t : Exponents × ℕ) (u : List ℕ) → 0 < length s → 0 < n → later_term r before s ≡ Ok (t, u)
    → after front (terms_after n r before s) ≡ total → after (front ++ t ∷ []) (terms_after (n - 1) r t.0 u) ≡ total
unfolding terms_after
loop_goes_on zero r before s front total t u some left h e = absurd (omega (arith, left))
loop_goes_on (suc n) r before [] front total t u some left h e = absurd (omega (arith, some))
loop_goes_on (suc n) r before (b ∷ s) front total t u some left h e =
    let same : suc n - 1 ≡ n = omega arith in
    let one : after front (terms_after (suc n) r before (b ∷ s)) ≡ after (front ++ t ∷ []) (terms_after n r t.0 u) = rw h (regroup front t (terms_after n r t.0 u)) in
    ap (λ k. after (front ++ t ∷ []) (terms_after k r t.0 u)) same ∙ sym one ∙ e

-- ---- a term at the end

pub all_above : (m before : Exponents) (p : Sum) → rank m < rank before → AllByRecursion (λ t. rank before ≤ rank t.0) p → All (λ t. rank m < rank t.0) p
all_above m before [] below all = λ k d h. absurd (omega (arith, h))
all_above m before (t ∷ p) below all = go (all_above m before p below all.1)
  where
    go : All (λ t. rank m < rank t.0) p → All (λ t. rank m < rank t.0) (t ∷ p)
    go ih zero d h = omega (arith, below, all.0)
    go ih (suc k) d h = ih k d (omega (arith, h))

ranks_with : (n : ℕ) (m : Exponents) (c : ℕ) (p : Sum) → rank m < n → RanksBelow n p → RanksBelow n (p ++ (m, c) ∷ [])
ranks_with n m c [] h u = (h, tt)
ranks_with n m c (t ∷ p) h u = (u.0, ranks_with n m c p h u.1)

proper_with : (m before : Exponents) (c : ℕ) (p : Sum) → 0 < c → c < 32003 → rank m < rank before → AllByRecursion (λ t. rank before ≤ rank t.0) p → Proper p → Proper (p ++ (m, c) ∷ [])
proper_with m before c [] some small below all u = (some, small, tt, tt)
proper_with m before c (t ∷ p) some small below all u = (u.0, u.1, ranks_with (rank t.0) m c p (omega (arith, below, all.0)) u.2, proper_with m before c p some small below all.1 u.3)

single : (m : Exponents) (c : ℕ) → 0 < c → c < 32003 → Proper ((m, c) ∷ [])
single m c some small = (some, small, tt, tt)

pub term_terms : (p : Polynomial) (m : Exponents) (c : ℕ) → 0 < c → c < 32003 → p ≡ term_of m c → p.terms ≡ (m, c) ∷ []
unfolding term_of
term_terms p m c some small e = ap (λ (q : Polynomial). q.terms) e ∙ terms-normal ((m, c) ∷ []) (single m c some small)

pub plus_terms : (p q : Polynomial) (m before : Exponents) (c : ℕ) → 0 < c → c < 32003 → rank m < rank before → AllByRecursion (λ t. rank before ≤ rank t.0) p.terms → q ≡ plus p (term_of m c) → q.terms ≡ p.terms ++ (m, c) ∷ []
unfolding plus
plus_terms p q m before c some small below all e =
    ap (λ (z : Polynomial). z.terms) e
    ∙ ap (λ (x : Sum). (normal (p.terms ++ x)).terms) (term_terms (term_of m c) m c some small refl)
    ∙ terms-normal (p.terms ++ (m, c) ∷ []) (proper_with m before c p.terms some small below all p.proper)

pub all_with : (m before : Exponents) (c : ℕ) (p : Sum) → rank m < rank before → AllByRecursion (λ t. rank before ≤ rank t.0) p → AllByRecursion (λ t. rank m ≤ rank t.0) (p ++ (m, c) ∷ [])
all_with m before c [] below all = (omega arith, tt)
all_with m before c (t ∷ p) below all = (omega (arith, below, all.0), all_with m before c p below all.1)

-- ---- the whole

pub strict_from_sum : (r : ℕ) (text : List ℕ) (result : Result Polynomial StrictFault) → GivesSum result (sum_front r text) → GivesStrict result (strict_polynomial r text)
unfolding strict_polynomial
strict_from_sum r text (Ok p) e = rw e (ap (λ q. Ok q) (normal_of p))
strict_from_sum r text (Err (Form kind)) e = rw e refl
strict_from_sum r text (Err NoMemory) e = tt

pub sum_zero : (r : ℕ) (text : List ℕ) (p : Polynomial) → bytes_eq text (codes "0") ≡ true → p ≡ zero_polynomial → sum_front r text ≡ Ok p.terms
unfolding zero_polynomial normal
sum_zero r text p h e = rw h (ap (λ (q : Polynomial). Ok q.terms) (sym e))

pub first_goes_on : (r : ℕ) (negative : Bool) (s : List ℕ) (m : Exponents) (size : ℕ) (u : List ℕ) (begun : Sum) (result : Result Polynomial StrictFault) → term_front r s ≡ Ok ((m, size), u) → begun ≡ (m, signed negative size) ∷ []
    → GivesSum result (after begun (terms_after (length u) r m u)) → GivesSum result (terms_front r negative s)
unfolding terms_front
first_goes_on r negative s m size u begun result h is g =
    let read : terms_front r negative s ≡ after ((m, signed negative size) ∷ []) (terms_after (length u) r m u) = rw h refl in
    subst (GivesSum result) (ap (λ x. after x (terms_after (length u) r m u)) is ∙ sym read) g

fault_by : (r : ℕ) (text : List ℕ) (p : Polynomial) (e : StrictFault) → Fails e (strict_polynomial r text) → strict_polynomial r text ≡ Ok p → e ≡ NoMemory
fault_by r text p (Form kind) read again = absurd (cc (read, again))
fault_by r text p NoMemory read again = refl

pub found_by : (r : ℕ) (text : List ℕ) (result : Result Polynomial StrictFault) → r ≤ 16 → GivesStrict result (strict_polynomial r text) → IfOk result (λ p. (text ≡ polynomial_text p) × FitsPoly r p)
found_by r text (Ok p) small e = texts_are_printed r text p small e
found_by r text (Err f) small e = tt

pub only_by : (r : ℕ) (text : List ℕ) (result : Result Polynomial StrictFault) (p : Polynomial) → r ≤ 16 → GivesStrict result (strict_polynomial r text) → text ≡ polynomial_text p → FitsPoly r p → MatchResult result (λ q. q ≡ p) (λ e. e ≡ NoMemory)
only_by r text (Ok q) p small e is fits = ok_is q p (sym e ∙ ap (strict_polynomial r) is ∙ printed_is_read r p small fits)
only_by r text (Err f) p small e is fits = fault_by r text p f e (ap (strict_polynomial r) is ∙ printed_is_read r p small fits)
