-- The sum of a list of terms is that of its two halves.
use Rattle.std.proofs.Common.{◌≡◌, ℕ, List, [], ◌∷◌, ◌++◌, length, get_or, take, drop, sym, ap, ◌∙◌, arith}
use Rattle.std.proofs.lemmas.List.{map-append, take-append-drop}
use Rattle.git_algebra.specs.Polynomials.{Polynomial, normal}
use Rattle.git_algebra.specs.Operations.{zero_polynomial, term_of, plus}
use Rattle.git_algebra.proofs.Congruence.{alike-append}
use Rattle.git_algebra.proofs.Normal.{normal_alike, same_normal}
use Rattle.git_polytext.specs.declared.terms.Term.{Term}
use Rattle.git_polytext.specs.Views.{term_of as pair_of, sum_of}

pub none_summed : (ts : List Term) (p : Polynomial) → length ts ≡ 0 → p ≡ zero_polynomial → p ≡ normal (sum_of ts)
unfolding zero_polynomial
none_summed [] p none e = e
none_summed (t ∷ ts) p none e = absurd (omega (arith, none))

pub one_summed : (ts : List Term) (p : Polynomial) (x : Term) → length ts ≡ 1 → x ≡ get_or ts 0 x → p ≡ term_of x.mono x.number → p ≡ normal (sum_of ts)
unfolding term_of
one_summed [] p x one is e = absurd (omega (arith, one))
one_summed (t ∷ []) p x one is e = e ∙ ap (λ (y : Term). normal ((y.mono, y.number) ∷ [])) is
one_summed (t ∷ u ∷ ts) p x one is e = absurd (omega (arith, one))

pub both_summed : (ts : List Term) (n : ℕ) (front back p : Polynomial) → front ≡ normal (sum_of (take n ts)) → back ≡ normal (sum_of (drop n ts)) → p ≡ plus front back → p ≡ normal (sum_of ts)
unfolding plus
both_summed ts n front back p f b e =
    e ∙ (λ i. normal ((f i).terms ++ (b i).terms))
    ∙ same_normal (alike-append (normal_alike (sum_of (take n ts))) (normal_alike (sum_of (drop n ts))))
    ∙ ap normal (sym (map-append pair_of (take n ts) (drop n ts)) ∙ ap sum_of (take-append-drop n ts))
