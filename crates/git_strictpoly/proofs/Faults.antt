-- The kinds of faults, and that the fuel is never spent.
use Rattle.std.proofs.Common.{◌≡◌, ℕ, zero, suc, ◌+◌, ◌≤◌, ◌⊎◌, inl, inr, Bool, true, false, cond, List, [], ◌∷◌, length, length-append, Option, Some, None, Result, Ok, Err, refl, sym, ap, ◌∙◌, arith}
use Rattle.std.specs.Prelude.{codes, nat_le, nat_lt, not, ◌&&◌, ◌||◌}
use Rattle.git_lines.specs.Numbers.{value_of, natural_once}
use Rattle.git_algebra.specs.Order.{rank}
use Rattle.std.specs.Str.{bytes_eq}
use Rattle.git_lines.specs.declared.fault.FormKind.{FormKind}
use Rattle.git_lines.specs.declared.fault.FormKind.TheVariants.{Syntax, Range}
use Rattle.git_lines.specs.Reading.{◌>>=◌}
use Rattle.git_lines.proofs.Exact.{bind_ok, ok_is}
use Rattle.git_algebra.specs.Exponents.{Exponents}
use Rattle.git_strictpoly.specs.Strict.{guard, begins, after_first, byte_front, signed, starts_digit, digits_front, after_digits, is_index, some_number, number_front, index_front, bracket_front, variable_front, caret_front, exponent_front, power_front, with_power, powers_after, sized_front, unsized_front, term_front, sign_front, later_term, with_term, terms_after, terms_front, strict_polynomial}
use Rattle.git_strictpoly.proofs.Powers.{place_small, power_is}
use Rattle.git_strictpoly.proofs.TermsRead.{size_text, term_is}
use Rattle.git_strictpoly.specs.declared.limits.TheConstants.{TEXT_DEGREE, LARGEST_SIZE, POWER_STEPS}

abbrev IsKind : FormKind → Type 0
IsKind k = (k ≡ Syntax) ⊎ (k ≡ Range)

record Known {A : Type 0} (o : Result A FormKind) : Type 0 where
  known : (k : FormKind) → o ≡ Err k → IsKind k

fine : {A : Type 0} (x : A) → Known {A = A} (Ok x)
fine x = record { known = λ k e. absurd (cc e) }

fault : {A : Type 0} (k : FormKind) → IsKind k → Known {A = A} (Err k)
fault {A} k (inl h) = record { known = λ j e. inl (let q : ◌≡◌ {A = Result A FormKind} (Err k) (Err j) = e in let same : k ≡ j = cc q in sym same ∙ h) }
fault {A} k (inr h) = record { known = λ j e. inr (let q : ◌≡◌ {A = Result A FormKind} (Err k) (Err j) = e in let same : k ≡ j = cc q in sym same ∙ h) }

bind : {A B : Type 0} (r : Result A FormKind) (f : A → Result B FormKind) → Known r → ((x : A) → Known (f x)) → Known (r >>= f)
bind (Ok x) f h g = g x
bind (Err k) f h g = fault k (h.known k refl)

form : (b : Bool) → Known (guard b Syntax)
form true = fine tt
form false = fault Syntax (inl refl)

range : (b : Bool) → Known (guard b Range)
range true = fine tt
range false = fault Range (inr refl)

choice : {A : Type 0} (b : Bool) (r s : Result A FormKind) → Known r → Known s → Known (cond b r s)
choice true r s h k = h
choice false r s h k = k

some_known : (o : Option ℕ) → Known (some_number o)
some_known None = fault Syntax (inl refl)
some_known (Some n) = fine n

byte_known : (b : ℕ) (s : List ℕ) → Known (byte_front b s)
byte_known b s = bind _ _ (form (begins b s)) (λ _. fine _)

number_known : (limit least : ℕ) (s : List ℕ) → Known (number_front limit least s)
unfolding number_front
number_known limit least s = bind _ _ (some_known (natural_once (digits_front s))) (λ n. bind _ _ (form (nat_le (length (digits_front s)) limit && nat_le least n)) (λ _. fine n))

index_known : (r : ℕ) (s : List ℕ) → Known (index_front r s)
unfolding index_front
index_known r s = bind _ _ (form (is_index (digits_front s))) (λ _. bind _ _ (range (nat_le (length (digits_front s)) 4 && nat_le (value_of (digits_front s)) r)) (λ _. fine (value_of (digits_front s))))

bracket_known : (r : ℕ) (s : List ℕ) → Known (bracket_front r s)
unfolding bracket_front
bracket_known r s = bind _ _ (byte_known 84 s) (λ a. bind _ _ (byte_known 40 a) (λ b. bind _ _ (index_known r b) (λ i. bind _ _ (byte_known 41 (after_digits b)) (λ _. fine _))))

variable_known : (r : ℕ) (s : List ℕ) → Known (variable_front r s)
variable_known r s = choice (begins 121 s) _ _ (fine _) (bracket_known r s)

caret_known : (s : List ℕ) → Known (caret_front s)
unfolding caret_front
caret_known s = bind _ _ (number_known 8 2 s) (λ _. fine _)

exponent_known : (s : List ℕ) → Known (exponent_front s)
exponent_known s = choice (begins 94 s) _ _ (caret_known (after_first s)) (fine _)

power_known : (r low d : ℕ) (s : List ℕ) → Known (power_front r low d s)
unfolding power_front
power_known r low d s = bind _ _ (variable_known r s) (λ v. bind _ _ (form (nat_le low v.0)) (λ _. bind _ _ (exponent_known v.1) (λ e. bind _ _ (range (nat_le (d + e.0) TEXT_DEGREE)) (λ _. fine _))))

powers_known : (n r low d : ℕ) (s : List ℕ) → Known (powers_after n r low d s)
unfolding powers_after
powers_known zero r low d s = fault Syntax (inl refl)
powers_known (suc n) r low d s = choice (begins 42 s) _ _ (bind _ _ (power_known r low d (after_first s)) (λ p. bind _ _ (powers_known n r (p.0.0 + 1) (d + p.0.1) p.1) (λ _. fine _))) (fine _)

sized_known : (r : ℕ) (s : List ℕ) → Known (sized_front r s)
unfolding sized_front
sized_known r s = bind _ _ (number_known 5 1 s) (λ n. bind _ _ (form (nat_le n LARGEST_SIZE && (not (begins 42 (after_digits s)) || nat_le 2 n))) (λ _. bind _ _ (powers_known POWER_STEPS r 0 0 (after_digits s)) (λ _. fine _)))

unsized_known : (r : ℕ) (s : List ℕ) → Known (unsized_front r s)
unfolding unsized_front
unsized_known r s = bind _ _ (power_known r 0 0 s) (λ v. bind _ _ (powers_known POWER_STEPS r (v.0.0 + 1) v.0.1 v.1) (λ _. fine _))

term_known : (r : ℕ) (s : List ℕ) → Known (term_front r s)
term_known r s = choice (starts_digit s) _ _ (sized_known r s) (unsized_known r s)

sign_known : (s : List ℕ) → Known (sign_front s)
sign_known s = bind _ _ (form (begins 43 s || begins 45 s)) (λ _. fine _)

later_known : (r : ℕ) (before : Exponents) (s : List ℕ) → Known (later_term r before s)
unfolding later_term
later_known r before s = bind _ _ (sign_known s) (λ _. bind _ _ (term_known r (after_first s)) (λ t. bind _ _ (form (nat_lt (rank t.0.0) (rank before))) (λ _. fine _)))

terms_known : (n r : ℕ) (before : Exponents) (s : List ℕ) → Known (terms_after n r before s)
unfolding terms_after
terms_known zero r before [] = fine []
terms_known zero r before (b ∷ s) = fault Syntax (inl refl)
terms_known (suc n) r before [] = fine []
terms_known (suc n) r before (b ∷ s) = bind _ _ (later_known r before (b ∷ s)) (λ t. bind _ _ (terms_known n r t.0.0 t.1) (λ _. fine _))

first_known : (r : ℕ) (negative : Bool) (s : List ℕ) → Known (terms_front r negative s)
unfolding terms_front
first_known r negative s = bind _ _ (term_known r s) (λ t. bind _ _ (terms_known (length t.1) r t.0.0 t.1) (λ _. fine _))

pub faults_known : (r : ℕ) (text : List ℕ) (kind : FormKind) → strict_polynomial r text ≡ Err kind → (kind ≡ Syntax) ⊎ (kind ≡ Range)
unfolding strict_polynomial
faults_known r text kind e =
    (bind _ _ (choice (bytes_eq text (codes "0")) _ _ (fine _) (choice (begins 45 text) _ _ (first_known r true (after_first text)) (first_known r false text))) (λ _. fine _)).known kind e

-- ---- fuel

later_shorter : (r : ℕ) → r ≤ 16 → (before : Exponents) (b : ℕ) (s : List ℕ) (t : (Exponents × ℕ) × List ℕ) → later_term r before (b ∷ s) ≡ Ok t → length t.1 ≤ length s
unfolding later_term
later_shorter r small before b s t e =
    let g = bind_ok (sign_front (b ∷ s)) _ t e in
    let x = bind_ok (term_front r s) _ t g.2 in
    let w = bind_ok (guard (nat_lt (rank x.0.0.0) (rank before)) Syntax) _ t x.2 in
    let p = ok_is ((x.0.0.0, signed g.0 x.0.0.1), x.0.1) t w.2 in
    let text = (term_is r small s x.0.0.0 x.0.0.1 x.0.1 x.1).0 in
    omega (arith, ap length text, length-append (size_text x.0.0.1 x.0.0.0) x.0.1, ap (λ z. length z.1) p)

pub terms_fuel : (n r : ℕ) → r ≤ 16 → (before : Exponents) (s : List ℕ) → length s ≤ n → terms_after (suc n) r before s ≡ terms_after n r before s
unfolding terms_after
terms_fuel zero r small before [] h = refl
terms_fuel zero r small before (b ∷ s) h = absurd (omega (arith, h))
terms_fuel (suc n) r small before [] h = refl
terms_fuel (suc n) r small before (b ∷ s) h = by (terms_fuel n r small) (later_term r before (b ∷ s)) refl
  where
    by : ((before : Exponents) (s : List ℕ) → length s ≤ n → terms_after (suc n) r before s ≡ terms_after n r before s) → (o : Result ((Exponents × ℕ) × List ℕ) FormKind) → later_term r before (b ∷ s) ≡ o
        → (o >>= λ t. (terms_after (suc n) r t.0.0 t.1 >>= with_term t.0)) ≡ (o >>= λ t. (terms_after n r t.0.0 t.1 >>= with_term t.0))
    by ih (Ok t) e = ap (λ x. x >>= with_term t.0) (ih t.0.0 t.1 (omega (arith, h, later_shorter r small before b s t e)))
    by ih (Err k) e = refl

-- the places ascend to 16
pub powers_fuel : (n r : ℕ) → r ≤ 16 → (low d : ℕ) (s : List ℕ) → d ≤ TEXT_DEGREE → 17 ≤ n + low → powers_after (suc (suc n)) r low d s ≡ powers_after (suc n) r low d s
unfolding powers_after
powers_fuel zero r small low d s fits h = go (begins 42 s) (power_front r low d (after_first s)) refl
  where
    go : (star : Bool) (o : Result ((ℕ × ℕ) × List ℕ) FormKind) → power_front r low d (after_first s) ≡ o
        → cond star (o >>= λ p. (powers_after 1 r (p.0.0 + 1) (d + p.0.1) p.1 >>= with_power p.0)) (Ok ([], s)) ≡ cond star (o >>= λ p. (powers_after 0 r (p.0.0 + 1) (d + p.0.1) p.1 >>= with_power p.0)) (Ok ([], s))
    go true (Ok p) e = let x = power_is r low d small (after_first s) p.0 p.1 e in absurd (omega (arith, h, x.1, place_small r p.0.0 small x.2))
    go true (Err k) e = refl
    go false o e = refl
powers_fuel (suc n) r small low d s fits h = go (powers_fuel n r small) (begins 42 s) (power_front r low d (after_first s)) refl
  where
    go : ((low d : ℕ) (s : List ℕ) → d ≤ TEXT_DEGREE → 17 ≤ n + low → powers_after (suc (suc n)) r low d s ≡ powers_after (suc n) r low d s) → (star : Bool) (o : Result ((ℕ × ℕ) × List ℕ) FormKind) → power_front r low d (after_first s) ≡ o
        → cond star (o >>= λ p. (powers_after (suc (suc n)) r (p.0.0 + 1) (d + p.0.1) p.1 >>= with_power p.0)) (Ok ([], s)) ≡ cond star (o >>= λ p. (powers_after (suc n) r (p.0.0 + 1) (d + p.0.1) p.1 >>= with_power p.0)) (Ok ([], s))
    go ih true (Ok p) e =
        let x = power_is r low d small (after_first s) p.0 p.1 e in
        ap (λ z. z >>= with_power p.0) (ih (p.0.0 + 1) (d + p.0.1) p.1 x.4 (omega (arith, h, x.1)))
    go ih true (Err k) e = refl
    go ih false o e = refl
