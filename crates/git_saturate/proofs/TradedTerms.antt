-- Terms, polynomials and lists whose extra variable is traded, one after the other.
use Rattle.std.proofs.Common.{ℕ, zero, suc, ◌+◌, ◌-◌, ◌<◌, ◌≤◌, ◌≡◌, refl, List, [], ◌∷◌, ◌++◌, All, map, length, get_or, take, drop, add-one, append_assoc, append-nil, Option, Some, None, sym, ◌∙◌, ap, subst, arith, inl, inr}
use Rattle.std.specs.Prelude.{◌≢◌, max, slice_get}
use Rattle.std.proofs.lemmas.Bool.{cases_eq}
use Rattle.std.proofs.Math.Seq.{drop-cons}
use Rattle.std.proofs.lemmas.List.{take_more}
use Rattle.git_algebra.specs.Exponents.{Exponents, exponent, times, quotient, power, variable_power, Divides}
use Rattle.git_algebra.specs.Sums.{Sum}
use Rattle.git_algebra.specs.Polynomials.{Polynomial}
use Rattle.git_algebra.specs.Operations.{zero_polynomial, restricted, lead_of}
use Rattle.git_algebra.proofs.Monomials.{same_exponents, exponent-quotient, exponent_same, exponent_other, divides_exactly}
use Rattle.git_ideals.specs.Extra.{extra, without_extra, traded}
use Rattle.git_ideals.proofs.ExtraExponents.{without_there, without_elsewhere}
use Rattle.git_ideals.proofs.Divisions.{zero_has_no_lead}
use Rattle.git_basis.proofs.Numbers.{top_of}
use Rattle.git_saturate.specs.Starts.{kept_by, nonzero_part}
use Rattle.git_saturate.specs.Traded.{greatest_extra, greatest_extra_of, spread_here, spread}
use Rattle.git_reduce.proofs.TermMaps.{take_next}

-- the extra variable's power divides, and the quotient is without it
pub extra_divides : (a : Exponents) → Divides (variable_power 16 (extra a)) a
extra_divides a = (divides_exactly (variable_power 16 (extra a)) a).1 (λ i h. elim (cases_eq i 16) [
  | inl is ↦ omega (arith, exponent_same 16 (extra a) (omega arith), ap (exponent (variable_power 16 (extra a))) is, ap (exponent a) is)
  | inr other ↦ omega (arith, exponent_other 16 (extra a) i (λ e. other (sym e)))
])

pub without_is : (a : Exponents) → quotient a (variable_power 16 (extra a)) ≡ without_extra a
without_is a = same_exponents _ _ (λ i h. elim (cases_eq i 16) [
  | inl is ↦ omega (arith, exponent-quotient a (variable_power 16 (extra a)) i, exponent_same 16 (extra a) (omega arith), ap (exponent (variable_power 16 (extra a))) is, ap (exponent a) is, without_there a, ap (exponent (without_extra a)) is)
  | inr other ↦ omega (arith, exponent-quotient a (variable_power 16 (extra a)) i, exponent_other 16 (extra a) i (λ e. other (sym e)), without_elsewhere a i h other)
])

pub traded_from : (e a : Exponents) (n : ℕ) (front product : Exponents) → front ≡ quotient a (variable_power 16 (extra a)) → product ≡ power e (n - extra a) → times front product ≡ traded e n a
unfolding traded
traded_from e a n front product f p = λ i. times ((f ∙ without_is a) i) (p i)

-- greatest exponents
greatest-append : (p : Sum) (t : Exponents × ℕ) → greatest_extra (p ++ t ∷ []) ≡ max (greatest_extra p) (extra t.0)
greatest-append [] t = omega arith
greatest-append (u ∷ p) t = omega (arith, greatest-append p t)

pub one_more_greatest : (p : Sum) (i : ℕ) (t : Exponents × ℕ) (now next : ℕ) → now ≡ greatest_extra (take i p) → slice_get p i ≡ Some t → next ≡ max (extra t.0) now → next ≡ greatest_extra (take (i + 1) p)
one_more_greatest p i t now next e at is = omega (arith, e, is, ap greatest_extra (take_next p i t at), greatest-append (take i p) t)

greatest_of-append : (ps : List Polynomial) (p : Polynomial) → greatest_extra_of (ps ++ p ∷ []) ≡ max (greatest_extra_of ps) (greatest_extra p.terms)
greatest_of-append [] p = omega arith
greatest_of-append (q ∷ ps) p = omega (arith, greatest_of-append ps p)

pub one_more_of_all : (ps : List Polynomial) (i : ℕ) (p : Polynomial) (now next : ℕ) → now ≡ greatest_extra_of (take i ps) → p ≡ get_or ps i p → i < length ps → next ≡ max (greatest_extra p.terms) now → next ≡ greatest_extra_of (take (i + 1) ps)
one_more_of_all ps i p now next e at h is =
    omega (arith, e, is, ap greatest_extra_of (take_more ps i p h ∙ ap (λ (x : Polynomial). take i ps ++ x ∷ []) (sym at)), greatest_of-append (take i ps) p)

-- cofactors put back at their places
pub record IsSpread (mask : ℕ) (generators hs out : List Polynomial) (place next : ℕ) : Type 0 where
  pub whole : out ++ spread mask (drop place generators) (drop next hs) ≡ spread mask generators hs
  pub count : next + length (nonzero_part (map (restricted mask) (drop place generators))) ≡ length hs

next_dropped : (fs : List Polynomial) (i : ℕ) (f : Polynomial) → f ≡ get_or fs i f → i < length fs → drop i fs ≡ f ∷ drop (i + 1) fs
next_dropped fs i f e h = drop-cons fs i f h ∙ (λ k. sym e k ∷ drop (sym (add-one i) k) fs)

pub spread_none : (mask : ℕ) (fs hs out more : List Polynomial) (i next : ℕ) (f r z : Polynomial) → IsSpread mask fs hs out i next → f ≡ get_or fs i f → i < length fs → r ≡ restricted mask f → r ≡ zero_polynomial → z ≡ zero_polynomial → more ≡ out ++ z ∷ [] → IsSpread mask fs hs more (i + 1) next
spread_none mask fs hs out more i next f r z s e h is none zero_is m =
    let no : lead_of (restricted mask f) ≡ None = ap lead_of (sym is ∙ none) ∙ zero_has_no_lead in
    let rest = next_dropped fs i f e h in
    record {
      whole =
          (λ k. (m ∙ ap (λ (x : Polynomial). out ++ x ∷ []) zero_is) k ++ spread mask (drop (i + 1) fs) (drop next hs))
          ∙ append_assoc out (zero_polynomial ∷ []) (spread mask (drop (i + 1) fs) (drop next hs))
          ∙ ap (λ (o : Option (Exponents × ℕ)). out ++ spread_here o (drop next hs) (spread mask (drop (i + 1) fs))) (sym no)
          ∙ ap (λ (gs : List Polynomial). out ++ spread mask gs (drop next hs)) (sym rest)
          ∙ s.whole;
      count = ap (λ (o : Option (Exponents × ℕ)). next + length (kept_by o (restricted mask f) (nonzero_part (map (restricted mask) (drop (i + 1) fs))))) (sym no)
          ∙ ap (λ (gs : List Polynomial). next + length (nonzero_part (map (restricted mask) gs))) (sym rest)
          ∙ s.count;
    }

-- there is a next cofactor
pub spread_some_within : (mask : ℕ) (fs hs out : List Polynomial) (i next : ℕ) (f r : Polynomial) → IsSpread mask fs hs out i next → f ≡ get_or fs i f → i < length fs → r ≡ restricted mask f → r ≢ zero_polynomial → next < length hs
spread_some_within mask fs hs out i next f r s e h is some =
    let top = top_of (restricted mask f) (λ z. some (is ∙ z)) in
    omega (arith, s.count, ap (λ (gs : List Polynomial). length (nonzero_part (map (restricted mask) gs))) (next_dropped fs i f e h), ap (λ (o : Option (Exponents × ℕ)). length (kept_by o (restricted mask f) (nonzero_part (map (restricted mask) (drop (i + 1) fs))))) top)

pub spread_some : (mask : ℕ) (fs hs out more : List Polynomial) (i next : ℕ) (f r c : Polynomial) → IsSpread mask fs hs out i next → f ≡ get_or fs i f → i < length fs → r ≡ restricted mask f → r ≢ zero_polynomial → c ≡ get_or hs next c → more ≡ out ++ c ∷ [] → IsSpread mask fs hs more (i + 1) (next + 1)
spread_some mask fs hs out more i next f r c s e h is some at m =
    let top = top_of (restricted mask f) (λ z. some (is ∙ z)) in
    let rest = next_dropped fs i f e h in
    let left = next_dropped hs next c at (spread_some_within mask fs hs out i next f r s e h is some) in
    record {
      whole =
          ap (λ (xs : List Polynomial). xs ++ spread mask (drop (i + 1) fs) (drop (next + 1) hs)) m
          ∙ append_assoc out (c ∷ []) (spread mask (drop (i + 1) fs) (drop (next + 1) hs))
          ∙ ap (λ (o : Option (Exponents × ℕ)). out ++ spread_here o (c ∷ drop (next + 1) hs) (spread mask (drop (i + 1) fs))) (sym top)
          ∙ (λ k. out ++ spread mask (sym rest k) (sym left k))
          ∙ s.whole;
      count = omega (arith, s.count, ap (λ (gs : List Polynomial). length (nonzero_part (map (restricted mask) gs))) rest, ap (λ (o : Option (Exponents × ℕ)). length (kept_by o (restricted mask f) (nonzero_part (map (restricted mask) (drop (i + 1) fs))))) top);
    }

drop_all : (fs : List Polynomial) (i : ℕ) → length fs ≤ i → drop i fs ≡ []
drop_all [] zero h = refl
drop_all [] (suc i) h = refl
drop_all (f ∷ fs) zero h = absurd (omega arith)
drop_all (f ∷ fs) (suc i) h = drop_all fs i (omega arith)

pub all_spread_out : (mask : ℕ) (fs hs out : List Polynomial) (i next : ℕ) → IsSpread mask fs hs out i next → length fs ≤ i → out ≡ spread mask fs hs
all_spread_out mask fs hs out i next s h = sym (append-nil out) ∙ ap (λ (gs : List Polynomial). out ++ spread mask gs (drop next hs)) (sym (drop_all fs i h)) ∙ s.whole

-- the traded polynomial at a place
pub traded_at : (g : Polynomial → Polynomial) (ps : List Polynomial) (k : ℕ) (p c : Polynomial) → p ≡ get_or ps k p → k < length ps → c ≡ g p → c ≡ get_or (map g ps) k c
traded_at g [] k p c e h is = absurd (omega arith)
traded_at g (q ∷ ps) zero p c e h is = is ∙ ap g e
traded_at g (q ∷ ps) (suc k) p c e h is = traded_at g ps k p c e (omega arith) is

pub low_at : (P : Polynomial → Type 0) (ps : List Polynomial) (k : ℕ) (p : Polynomial) → All P ps → p ≡ get_or ps k p → k < length ps → P p
low_at P ps k p all e h = subst P (sym e) (all k p h)
