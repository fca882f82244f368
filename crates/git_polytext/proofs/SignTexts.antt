-- The signs of printed factors.
use Rattle.std.proofs.Common.{◌≡◌, ◌≢◌, ℕ, ◌+◌, ◌^◌, ◌<◌, ◌≤◌, Bool, true, false, cond, List, [], ◌∷◌, ◌++◌, length, refl, sym, ap, ◌∙◌, subst, append_assoc, append-nil, arith}
use Rattle.std.specs.Prelude.{◌==◌, codes}
use Rattle.std.specs.List.{list_all}
use Rattle.std.specs.Fmt.{decimal}
use Rattle.std.proofs.lemmas.Bool.{and_parts, eqb-true, ne_eqb}
use Rattle.std.proofs.lemmas.Bool.Decides.{nat_tests}
use Rattle.std.proofs.lemmas.Fmt.{length-decimal-le, decimal_nonempty}
use Rattle.git_lines.specs.declared.tokens.Joining.TheVariants.{Signs}
use Rattle.git_lines.specs.Tokens.{stays, goes_on, tokens_by, joins_in, texts}
use Rattle.git_lines.specs.Numbers.{is_digit}
use Rattle.git_lines.proofs.FirstToken.{step_last, step_more}
use Rattle.git_lines.proofs.NumberLemmas.{decimal_value, decimal_digits}
use Rattle.git_lines.proofs.WordLemmas.{texts_grown}
use Rattle.git_polytext.specs.Pieces.{signs}
use Rattle.git_polytext.specs.Grammar.{IsNumber, IsExponent, IsPower, IsCoefficient}
use Rattle.git_polytext.specs.Printing.{variable_text, power_text}
use Rattle.git_polytext.proofs.Columns.{tokens_same}

-- ---- sign by sign

sign_last : (b : ℕ) (bytes : List ℕ) → b ≢ 32 → goes_on (joins_in Signs) b bytes ≡ false → signs (b ∷ bytes) ≡ (b ∷ []) ∷ signs bytes
sign_last b bytes other ends = ap texts (step_last (joins_in Signs) 1 b bytes other ends) ∙ ap (λ us. (b ∷ []) ∷ us) (tokens_same (joins_in Signs) (1 + 1) 1 bytes)

sign_more : (b : ℕ) (bytes t : List ℕ) (us : List (List ℕ)) → b ≢ 32 → goes_on (joins_in Signs) b bytes ≡ true → signs bytes ≡ t ∷ us → signs (b ∷ bytes) ≡ (b ∷ t) ∷ us
sign_more b bytes t us other joined e =
    ap texts (step_more (joins_in Signs) 1 b bytes other joined) ∙ texts_grown 1 b (tokens_by (joins_in Signs) (1 + 1) bytes) t us (tokens_same (joins_in Signs) (1 + 1) 1 bytes ∙ e)

digit_is_no_space : (b : ℕ) → is_digit b ≡ true → b ≢ 32
digit_is_no_space b h e = grind (arith, nat_tests)

digits_join : (b c : ℕ) → is_digit b ≡ true → is_digit c ≡ true → stays (joins_in Signs) b c ≡ true
digits_join b c h k = grind (arith, nat_tests)

-- digits before what joins to none
number_then : (b : ℕ) (t rest : List ℕ) → list_all is_digit (b ∷ t) ≡ true → ((d : ℕ) → is_digit d ≡ true → goes_on (joins_in Signs) d rest ≡ false) → signs ((b ∷ t) ++ rest) ≡ (b ∷ t) ∷ signs rest
number_then b [] rest h end = let d = (and_parts (is_digit b) true h).0 in sign_last b rest (digit_is_no_space b d) (end b d)
number_then b (c ∷ t) rest h end =
    let p = and_parts (is_digit b) (list_all is_digit (c ∷ t)) h in
    let q = and_parts (is_digit c) (list_all is_digit t) p.1 in
    sign_more b ((c ∷ t) ++ rest) (c ∷ t) (signs rest) (digit_is_no_space b p.0) (digits_join b c p.0 q.0) (number_then c t rest p.1 end)

number_at : (t rest : List ℕ) → 0 < length t → list_all is_digit t ≡ true → ((d : ℕ) → is_digit d ≡ true → goes_on (joins_in Signs) d rest ≡ false) → signs (t ++ rest) ≡ t ∷ signs rest
number_at [] rest some h end = absurd (omega (arith, some))
number_at (b ∷ t) rest some h end = number_then b t rest h end

number_is : (limit n : ℕ) → 0 < limit → limit ≤ 18 → n < 10 ^ limit → n < 10 ^ 18 → IsNumber limit (decimal n) n
number_is limit n some few h k = record { all = decimal_digits n k; few = length-decimal-le limit n some h (omega arith); value = decimal_value n k }

digits_alone : (n : ℕ) → n < 10 ^ 18 → signs (decimal n) ≡ decimal n ∷ []
digits_alone n h = ap signs (sym (append-nil (decimal n))) ∙ number_at (decimal n) [] (decimal_nonempty n (omega arith)) (decimal_digits n h) (λ d k. refl)

pub coefficient_written : (n : ℕ) → n < 10 ^ 18 → IsCoefficient (decimal n) n
coefficient_written n h = record { digits = decimal n; is = digits_alone n h; number_is = number_is 18 n (omega arith) (omega arith) h h }

-- ---- a power

close_ends : (d : ℕ) (rest : List ℕ) → is_digit d ≡ true → goes_on (joins_in Signs) d (41 ∷ rest) ≡ false
close_ends d rest h = grind (arith, nat_tests)

joins_none : (b c : ℕ) → is_digit b ≡ false → (b == 84) ≡ false → stays (joins_in Signs) b c ≡ false
joins_none b c h k = grind (arith, nat_tests)

alone : (b : ℕ) (rest : List ℕ) → is_digit b ≡ false → (b == 84) ≡ false → goes_on (joins_in Signs) b rest ≡ false
alone b [] h k = refl
alone b (c ∷ rest) h k = joins_none b c h k

bracket_first : (rest : List ℕ) → signs (84 ∷ 40 ∷ rest) ≡ codes "T(" ∷ signs rest
bracket_first rest = sign_more 84 (40 ∷ rest) (40 ∷ []) (signs rest) (omega arith) refl (sign_last 40 rest (omega arith) (alone 40 rest refl refl))

exponent_written : (e : ℕ) → e < 10 ^ 4 → (unit : Bool) → (e == 1) ≡ unit → IsExponent (signs (cond unit [] (codes "^" ++ decimal e))) e
exponent_written e h true t = eqb-true e 1 t
exponent_written e h false t =
    let all : signs (94 ∷ decimal e) ≡ codes "^" ∷ decimal e ∷ [] = sign_last 94 (decimal e) (omega arith) (alone 94 (decimal e) refl refl) ∙ ap (λ us. codes "^" ∷ us) (digits_alone e (omega (arith, h))) in
    subst (λ l. IsExponent l e) (sym all) (refl, number_is 4 e (omega arith) (omega arith) h (omega (arith, h)))

variable_is : (i : ℕ) → i < 16 → variable_text i ≡ codes "T(" ++ decimal (i + 1) ++ codes ")"
variable_is i h = let inner : (i == 16) ≡ false = ne_eqb i 16 (λ e. omega (arith, e, h)) in rw inner refl

pub power_written : (r : ℕ) (v : ℕ × ℕ) → v.0 < r → r ≤ 16 → v.1 < 10 ^ 4 → IsPower r (power_text v) v
power_written r v within few small =
    let exponent_text : List ℕ = cond (v.1 == 1) [] (codes "^" ++ decimal v.1) in
    let regroup : (codes "T(" ++ decimal (v.0 + 1) ++ codes ")") ++ exponent_text ≡ 84 ∷ 40 ∷ (decimal (v.0 + 1) ++ (41 ∷ exponent_text)) = simp append_assoc in
    let text : power_text v ≡ 84 ∷ 40 ∷ (decimal (v.0 + 1) ++ (41 ∷ exponent_text)) = ap (λ l. l ++ exponent_text) (variable_is v.0 (omega (arith, within, few))) ∙ regroup in
    let number = number_at (decimal (v.0 + 1)) (41 ∷ exponent_text) (decimal_nonempty (v.0 + 1) (omega (arith, within, few))) (decimal_digits (v.0 + 1) (omega (arith, within, few))) (λ d h. close_ends d exponent_text h) in
    let close = sign_last 41 exponent_text (omega arith) (alone 41 exponent_text refl refl) in
    record {
      digits = decimal (v.0 + 1);
      index = v.0 + 1;
      exponent = signs exponent_text;
      are = ap signs text ∙ bracket_first (decimal (v.0 + 1) ++ (41 ∷ exponent_text)) ∙ ap (λ us. codes "T(" ∷ us) (number ∙ ap (λ us. decimal (v.0 + 1) ∷ us) close);
      index_is = number_is 4 (v.0 + 1) (omega arith) (omega arith) (omega (arith, within, few)) (omega (arith, within, few));
      first = omega arith;
      last = omega (arith, within);
      place = omega arith;
      exponent_is = exponent_written v.1 small (v.1 == 1) refl;
    }
