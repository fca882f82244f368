-- What the first steps read is what stands in front.
use Rattle.std.proofs.Common.{◌≡◌, ℕ, ◌^◌, ◌<◌, ◌≤◌, Bool, true, false, cond, List, [], ◌∷◌, ◌++◌, length, ◌&&◌, Option, Some, None, Result, Ok, refl, sym, ap, ◌∙◌, arith}
use Rattle.std.specs.Prelude.{nat_le, ◌==◌, pos, unsigned_abs}
use Rattle.std.specs.Option.{option_map}
use Rattle.std.specs.List.{list_all}
use Rattle.std.specs.Fmt.{decimal}
use Rattle.std.proofs.lemmas.Bool.{and_parts, eqb-true}
use Rattle.std.proofs.lemmas.Bool.Decides.{nat_tests}
use Rattle.git_lines.specs.declared.fault.FormKind.{FormKind}
use Rattle.git_lines.specs.declared.fault.FormKind.TheVariants.{Syntax}
use Rattle.git_lines.specs.Numbers.{is_digit, natural_once, integer_once}
use Rattle.git_lines.specs.Reading.{◌>>=◌}
use Rattle.git_lines.proofs.Exact.{bind_ok, ok_is}
use Rattle.git_lines.proofs.NumberLemmas.{natural_once_is, decimal_digits, integer_is_read_back_once}
use Rattle.git_strictpoly.specs.Strict.{guard, begins, after_first, byte_front, starts_digit, digits_front, after_digits, some_number, number_front}

pub bind_again : {A B E : Type 0} (r : Result A E) (f : A → Result B E) (x : A) (y : Result B E) → r ≡ Ok x → f x ≡ y → (r >>= f) ≡ y
bind_again r f x y e h = ap (λ q. q >>= f) e ∙ h

pub guard_is : (b : Bool) (kind : FormKind) (u : Unit {0}) → guard b kind ≡ Ok u → b ≡ true
guard_is true kind u e = refl
guard_is false kind u e = absurd (cc e)

pub guard_again : (b : Bool) (kind : FormKind) → b ≡ true → guard b kind ≡ Ok tt
guard_again b kind h = ap (λ c. guard c kind) h

pub le_is : (a b : ℕ) → nat_le a b ≡ true → a ≤ b
le_is a b h = grind (arith, nat_tests)

pub le_again : (a b : ℕ) → a ≤ b → nat_le a b ≡ true
le_again a b h = grind (arith, nat_tests)

-- ---- bytes

pub begins_is : (b : ℕ) (s : List ℕ) → begins b s ≡ true → s ≡ b ∷ after_first s
begins_is b [] h = absurd (cc h)
begins_is b (c ∷ s) h = ap (λ x. x ∷ s) (eqb-true c b h)

pub byte_is : (b : ℕ) (s t : List ℕ) → byte_front b s ≡ Ok t → s ≡ b ∷ t
byte_is b s t e =
    let g = bind_ok (guard (begins b s) Syntax) _ t e in
    begins_is b s (guard_is (begins b s) Syntax g.0 g.1) ∙ ap (λ x. b ∷ x) (ok_is (after_first s) t g.2)

pub digits_are : (s : List ℕ) → s ≡ digits_front s ++ after_digits s
digits_are [] = refl
digits_are (b ∷ s) = by (digits_are s) (is_digit b)
  where
    by : s ≡ digits_front s ++ after_digits s → (test : Bool) → b ∷ s ≡ cond test (b ∷ digits_front s) [] ++ cond test (after_digits s) (b ∷ s)
    by ih true = ap (λ x. b ∷ x) ih
    by ih false = refl

pub digits_again : (ds t : List ℕ) → list_all is_digit ds ≡ true → starts_digit t ≡ false → (digits_front (ds ++ t) ≡ ds) × (after_digits (ds ++ t) ≡ t)
digits_again [] [] h n = (refl, refl)
digits_again [] (b ∷ t) h n = (rw n refl, rw n refl)
digits_again (d ∷ ds) t h n =
    let p = and_parts (is_digit d) (list_all is_digit ds) h in
    let more = digits_again ds t p.1 n in
    (rw (p.0) (ap (λ x. d ∷ x) more.0), rw (p.0) more.1)

-- ---- numbers

digit_is_no_minus : (b : ℕ) → is_digit b ≡ true → (b == 45) ≡ false
digit_is_no_minus b h = grind (arith, nat_tests)

once_of : (o : Option ℕ) (n : ℕ) → option_map pos o ≡ Some (pos n) → o ≡ Some n
once_of None n e = absurd (cc e)
once_of (Some m) n e = let same : pos m ≡ pos n = cc e in ap (λ k. Some (unsigned_abs k)) same

-- digits that are an integer in its one spelling are a number in it
once_by : (ds : List ℕ) (n : ℕ) → list_all is_digit ds ≡ true → integer_once ds ≡ Some (pos n) → natural_once ds ≡ Some n
once_by [] n digits e = absurd (cc e)
once_by (b ∷ ds) n digits e =
    let plain : (b == 45) ≡ false = digit_is_no_minus b (and_parts (is_digit b) (list_all is_digit ds) digits).0 in
    let read : integer_once (b ∷ ds) ≡ option_map pos (natural_once (b ∷ ds)) = rw plain refl in
    once_of (natural_once (b ∷ ds)) n (sym read ∙ e)

once_again : (n : ℕ) → n < 10 ^ 18 → natural_once (decimal n) ≡ Some n
once_again n h = once_by (decimal n) n (decimal_digits n h) (integer_is_read_back_once (pos n) h)

some_is : (o : Option ℕ) (n : ℕ) → some_number o ≡ Ok n → o ≡ Some n
some_is None n e = absurd (cc e)
some_is (Some m) n e = ap (λ x. Some x) (ok_is m n e)

pub both : (a b : Bool) → a ≡ true → b ≡ true → (a && b) ≡ true
both a b ea eb = rw (ea, eb) refl

pub number_is : (limit least : ℕ) (s : List ℕ) (n : ℕ) → number_front limit least s ≡ Ok n → (s ≡ decimal n ++ after_digits s) × (least ≤ n)
unfolding number_front
number_is limit least s n e =
    let a = bind_ok (some_number (natural_once (digits_front s))) _ n e in
    let b = bind_ok (guard (nat_le (length (digits_front s)) limit && nat_le least a.0) Syntax) _ n a.2 in
    let same : a.0 ≡ n = ok_is a.0 n b.2 in
    let p = and_parts (nat_le (length (digits_front s)) limit) (nat_le least a.0) (guard_is _ Syntax b.0 b.1) in
    let once = natural_once_is (digits_front s) a.0 (some_is (natural_once (digits_front s)) a.0 a.1) in
    (digits_are s ∙ ap (λ ds. ds ++ after_digits s) (once ∙ ap decimal same), omega (arith, le_is least a.0 p.1, same))

pub number_again : (limit least n : ℕ) (t : List ℕ) → n < 10 ^ 18 → length (decimal n) ≤ limit → least ≤ n → starts_digit t ≡ false
    → (number_front limit least (decimal n ++ t) ≡ Ok n) × (after_digits (decimal n ++ t) ≡ t)
unfolding number_front
number_again limit least n t small few some quiet =
    let d = digits_again (decimal n) t (decimal_digits n small) quiet in
    let once : natural_once (digits_front (decimal n ++ t)) ≡ Some n = ap natural_once d.0 ∙ once_again n small in
    let within : nat_le (length (digits_front (decimal n ++ t))) limit ≡ true = ap (λ ds. nat_le (length ds) limit) d.0 ∙ le_again (length (decimal n)) limit few in
    let test = both (nat_le (length (digits_front (decimal n ++ t))) limit) (nat_le least n) within (le_again least n some) in
    (bind_again _ _ n _ (ap some_number once) (bind_again _ _ tt _ (guard_again _ Syntax test) refl), d.1)
