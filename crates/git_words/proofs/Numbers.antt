-- A word stands for one number at most, and options hold one value at most.
use Rattle.std.proofs.Common.{◌≡◌, ◌∙◌, ℕ, ◌≤◌, List, length, Option, Some, None, Bool, true, false, inl, inr, refl, sym, ap, arith}
use Rattle.std.specs.Option.{option_to_list}
use Rattle.std.specs.Prelude.{nat_le, ◌&&◌}
use Rattle.std.specs.List.{list_all}
use mathlib.Core.Bool.{cond}
use Rattle.std.proofs.lemmas.Bool.{and_parts}
use Rattle.std.proofs.lemmas.Str.Parse.{digits_value_short}
use Rattle.git_lines.specs.Numbers.{natural, is_natural, is_digit, value_of}
use Rattle.git_lines.proofs.NumberLemmas.{own}
use Rattle.git_words.specs.Words.{IsNumberWord, IsNumberIn, IsGiven, flag}

number_once : (o : Option ℕ) (m n : ℕ) → o ≡ Some m → o ≡ Some n → m ≡ n
number_once o m n p q = cc

pub one_number : (u w : List ℕ) (m n : ℕ) → u ≡ w → IsNumberWord u m → IsNumberWord w n → m ≡ n
one_number u w m n e a b = number_once (natural w) m n (ap natural (sym e) ∙ a.value) b.value

pub one_number_in : (least most : ℕ) (u w : List ℕ) (m n : ℕ) → u ≡ w → IsNumberIn least most u m → IsNumberIn least most w n → m ≡ n
one_number_in least most u w m n e a b = one_number u w m n e a.number b.number

-- ---- what an option is given

pub one_given : {A : Type 0} (values : List A) (default a b : A) → IsGiven values default a → IsGiven values default b → a ≡ b
one_given values default a b (inl p) (inl q) = p.1 ∙ sym q.1
one_given values default a b (inl p) (inr q) = absurd (cc (p.0, q))
one_given values default a b (inr p) (inl q) = absurd (cc (p, q.0))
one_given values default a b (inr p) (inr q) = cc

-- what was given can be held
pub held : {A : Type 0} (values : List A) (default a : A) → IsGiven values default a → (o : Option A) × (option_to_list o ≡ values)
held values default a (inl p) = (None, sym p.0)
held values default a (inr p) = (Some a, sym p)

pub short_option : {A : Type 0} (o : Option A) → length (option_to_list o) ≤ 1
short_option None = omega arith
short_option (Some a) = omega arith

pub short_flag : (b : Bool) → length (flag b) ≤ 1
short_flag true = omega arith
short_flag false = omega arith

-- ---- nine digits stand for less than 10^9

few_if : (test : Bool) (digits : List ℕ) (v n : ℕ) → (test ≡ true → v ≤ 999999999) → cond test (Some v) None ≡ Some n → n ≤ 999999999
few_if true digits v n few e = let same : v ≡ n = cc e in let k = few refl in omega (arith, same, k)
few_if false digits v n few e = absurd (cc e)

pub few_digits : (word : List ℕ) (n : ℕ) → IsNumberWord word n → n ≤ 999999999
few_digits word n h = few_if (is_natural word) word (value_of word) n (λ is. small is) h.value where
  small : is_natural word ≡ true → value_of word ≤ 999999999
  small is =
      let digits = (and_parts (nat_le 1 (length word) && nat_le (length word) 18) (list_all is_digit word) is).1 in
      let k = digits_value_short own word 9 digits h.short in
      omega (arith, k)
