-- Ideals of sums: cofactors whose products with the generators sum to the element, up to the values of sums.
use Rattle.std.specs.Prelude.{ℕ, ◌≡◌, refl, List, [], ◌∷◌, ◌++◌, map}
use Rattle.std.proofs.Common.{arith}
use Rattle.git_algebra.specs.Exponents.{Exponents}
use Rattle.git_algebra.specs.Sums.{Sum, value, product, unit, Alike}
use Rattle.git_algebra.proofs.Values.{value-append}
use Rattle.git_algebra.proofs.Congruence.{mod_is, alike_refl, alike_sym, alike_trans, alike-append, alike-product_right, alike_assoc, alike_distrib_left, alike_distrib_right, alike_unit}

abbrev pub sum_combination : List Sum → List Sum → Sum
sum_combination [] fs = []
sum_combination (h ∷ hs) [] = []
sum_combination (h ∷ hs) (f ∷ fs) = product h f ++ sum_combination hs fs

pub record SumInIdeal (fs : List Sum) (p : Sum) : Type 0 where
  pub cofactors : List Sum
  pub sums : Alike (sum_combination cofactors fs) p

abbrev pub AllSumsIn : List Sum → List Sum → Type 0
AllSumsIn gs [] = Unit {0}
AllSumsIn gs (f ∷ fs) = SumInIdeal gs f × AllSumsIn gs fs

pub ideal_alike : {fs : List Sum} {p q : Sum} → SumInIdeal fs p → Alike p q → SumInIdeal fs q
ideal_alike h e = record { cofactors = h.cofactors; sums = alike_trans h.sums e }

pub ideal_zero : (fs : List Sum) → SumInIdeal fs []
ideal_zero fs = record { cofactors = []; sums = alike_refl [] }

-- cofactors added by places
added : List Sum → List Sum → List Sum
added [] ks = ks
added (h ∷ hs) [] = h ∷ hs
added (h ∷ hs) (k ∷ ks) = (h ++ k) ∷ added hs ks

alike_nil_right : (p : Sum) → Alike (p ++ []) p
alike_nil_right p = record { values = λ f. mod_is (omega (arith, value-append f p [])) }

alike_shuffle : (p q r s : Sum) → Alike ((p ++ q) ++ (r ++ s)) ((p ++ r) ++ (q ++ s))
alike_shuffle p q r s = record { values = λ f. mod_is (omega (arith, value-append f (p ++ q) (r ++ s), value-append f p q, value-append f r s, value-append f (p ++ r) (q ++ s), value-append f p r, value-append f q s)) }

sum_combination-added : (fs hs ks : List Sum) → Alike (sum_combination (added hs ks) fs) (sum_combination hs fs ++ sum_combination ks fs)
unfolding added
sum_combination-added fs [] ks = alike_refl _
sum_combination-added [] (h ∷ hs) [] = alike_refl _
sum_combination-added (f ∷ fs) (h ∷ hs) [] = alike_sym (alike_nil_right _)
sum_combination-added [] (h ∷ hs) (k ∷ ks) = alike_refl _
sum_combination-added (f ∷ fs) (h ∷ hs) (k ∷ ks) =
    alike_trans (alike-append (alike_distrib_left h k f) (sum_combination-added fs hs ks))
    (alike_shuffle (product h f) (product k f) (sum_combination hs fs) (sum_combination ks fs))

pub ideal-append : {fs : List Sum} {p q : Sum} → SumInIdeal fs p → SumInIdeal fs q → SumInIdeal fs (p ++ q)
ideal-append {fs} h k = record { cofactors = added h.cofactors k.cofactors; sums = alike_trans (sum_combination-added fs h.cofactors k.cofactors) (alike-append h.sums k.sums) }

value-product_nil : (f : Exponents → ℕ) (q : Sum) → value f [] ≡ value f (product q [])
value-product_nil f [] = refl
value-product_nil f (t ∷ q) = value-product_nil f q

sum_combination-scaled : (q : Sum) (fs hs : List Sum) → Alike (sum_combination (map (product q) hs) fs) (product q (sum_combination hs fs))
sum_combination-scaled q fs [] = record { values = λ f. mod_is (value-product_nil f q) }
sum_combination-scaled q [] (h ∷ hs) = record { values = λ f. mod_is (value-product_nil f q) }
sum_combination-scaled q (f ∷ fs) (h ∷ hs) =
    alike_trans (alike-append (alike_assoc q h f) (sum_combination-scaled q fs hs))
    (alike_sym (alike_distrib_right q (product h f) (sum_combination hs fs)))

pub ideal-product : {fs : List Sum} (q : Sum) {p : Sum} → SumInIdeal fs p → SumInIdeal fs (product q p)
ideal-product {fs} q h = record { cofactors = map (product q) h.cofactors; sums = alike_trans (sum_combination-scaled q fs h.cofactors) (alike-product_right q h.sums) }

-- what is in the ideal of elements of an ideal is in it
pub ideal_trans : {gs : List Sum} (fs : List Sum) {p : Sum} → AllSumsIn gs fs → SumInIdeal fs p → SumInIdeal gs p
ideal_trans {gs} fs all h = ideal_alike (combined fs h.cofactors all) h.sums
  where
    combined : (fs hs : List Sum) → AllSumsIn gs fs → SumInIdeal gs (sum_combination hs fs)
    combined fs [] all = ideal_zero gs
    combined [] (h ∷ hs) all = ideal_zero gs
    combined (f ∷ fs) (h ∷ hs) all = ideal-append (ideal-product h all.0) (combined fs hs all.1)

pub ideal_here : (f : Sum) (fs : List Sum) → SumInIdeal (f ∷ fs) f
ideal_here f fs = record { cofactors = unit ∷ []; sums = alike_trans (alike_nil_right _) (alike_unit f) }

pub ideal_there : (f : Sum) (fs : List Sum) {p : Sum} → SumInIdeal fs p → SumInIdeal (f ∷ fs) p
ideal_there f fs h = record { cofactors = [] ∷ h.cofactors; sums = h.sums }

pub all_there : (g : Sum) (gs fs : List Sum) → AllSumsIn gs fs → AllSumsIn (g ∷ gs) fs
all_there g gs [] all = tt
all_there g gs (k ∷ fs) all = (ideal_there g gs all.0, all_there g gs fs all.1)

pub all_self : (fs : List Sum) → AllSumsIn fs fs
all_self [] = tt
all_self (f ∷ fs) = (ideal_here f fs, all_there f fs fs (all_self fs))
