-- Lists of the program's terms, and their sums.
use Rattle.std.proofs.Common.{zero, suc, ℕ, ◌+◌, ◌<◌, ◌≤◌, ◌≡◌, refl, List, [], ◌∷◌, ◌++◌, length, get_or, take, drop, sym, ap, ◌∙◌, add-one, arith, Some, None}
use Rattle.std.specs.Prelude.{slice_get}
use Rattle.std.proofs.Math.Seq.{drop-cons}
use Rattle.std.proofs.lemmas.List.{take_more}
use Rattle.git_algebra.specs.Exponents.{degree}
use Rattle.git_algebra.specs.Polynomials.{Proper, Polynomial, normal}
use Rattle.git_algebra.specs.Operations.{first_term, greatest_degree}
use Rattle.git_algebra.proofs.Normal.{terms_is}
use Rattle.git_poly.specs.declared.term.Term.{Term}
use Rattle.git_poly.specs.Terms.{sum_of}

pub length-sum_of : (ts : List Term) → length (sum_of ts) ≡ length ts
length-sum_of [] = refl
length-sum_of (t ∷ ts) = ap suc (length-sum_of ts)

pub sum_of-append : (ts us : List Term) → sum_of (ts ++ us) ≡ sum_of ts ++ sum_of us
sum_of-append [] us = refl
sum_of-append (t ∷ ts) us = λ i. (t.mono, t.number) ∷ sum_of-append ts us i

-- the terms from a place on
pub next_term : (ts : List Term) (i : ℕ) (x : Term) → x ≡ get_or ts i x → i < length ts → sum_of (drop i ts) ≡ (x.mono, x.number) ∷ sum_of (drop (i + 1) ts)
next_term ts i x e h = ap sum_of (drop-cons ts i x h ∙ (λ k. sym e k ∷ drop (sym (add-one i) k) ts))

pub none_left : (ts : List Term) (i : ℕ) → length ts ≤ i → sum_of (drop i ts) ≡ []
none_left [] zero h = refl
none_left [] (suc i) h = refl
none_left (t ∷ ts) zero h = absurd (omega arith)
none_left (t ∷ ts) (suc i) h = none_left ts i (omega arith)

pub one_more_taken : (ts : List Term) (i : ℕ) (x : Term) → x ≡ get_or ts i x → i < length ts → sum_of (take (i + 1) ts) ≡ sum_of (take i ts) ++ ((x.mono, x.number) ∷ [])
one_more_taken ts i x e h = ap sum_of (take_more ts i x h ∙ ap (λ (y : Term). take i ts ++ y ∷ []) (sym e)) ∙ sum_of-append (take i ts) (x ∷ [])

-- the term at a place
pub term_of_sum : (ts : List Term) (i : ℕ) (x : Term) → x ≡ get_or ts i x → i < length ts → slice_get (sum_of ts) i ≡ Some (x.mono, x.number)
term_of_sum [] i x e h = absurd (omega arith)
term_of_sum (t ∷ ts) zero x e h = ap (λ (y : Term). Some (y.mono, y.number)) (sym e)
term_of_sum (t ∷ ts) (suc i) x e h = term_of_sum ts i x e (omega arith)

-- the terms of the polynomial that a list holds, also through a slice of it
pub held_terms : (ts us : List Term) (p : Polynomial) → Proper (sum_of ts) → normal (sum_of ts) ≡ p → us ≡ ts → p.terms ≡ sum_of us
held_terms ts us p u e same = terms_is (sum_of ts) p u e ∙ ap sum_of (sym same)

-- no term has a greater degree than the greatest
pub degree_within : (ts : List Term) (i : ℕ) (x : Term) → x ≡ get_or ts i x → i < length ts → degree x.mono ≤ greatest_degree (sum_of ts)
degree_within [] i x e h = absurd (omega arith)
degree_within (t ∷ ts) zero x e h = omega (arith, ap (λ (y : Term). degree y.mono) e)
degree_within (t ∷ ts) (suc i) x e h = omega (arith, degree_within ts i x e (omega arith))

pub all_taken : (ts : List Term) (n : ℕ) → length ts ≤ n → sum_of (take n ts) ≡ sum_of ts
all_taken [] zero h = refl
all_taken [] (suc n) h = refl
all_taken (t ∷ ts) zero h = absurd (omega arith)
all_taken (t ∷ ts) (suc n) h = λ i. (t.mono, t.number) ∷ all_taken ts n (omega arith) i

-- the first term, through a slice
pub first_some : (ts us : List Term) (x : Term) → us ≡ ts → Some x ≡ slice_get us 0 → first_term (sum_of ts) ≡ Some (x.mono, x.number)
first_some ts us x same e = from ts (e ∙ ap (λ (vs : List Term). slice_get vs 0) same)
  where
    from : (ts : List Term) → Some x ≡ slice_get ts 0 → first_term (sum_of ts) ≡ Some (x.mono, x.number)
    from [] e = cc
    from (t ∷ ts) e = let here : x ≡ t = cc in ap (λ (y : Term). Some (y.mono, y.number)) (sym here)

pub first_none : (ts us : List Term) → us ≡ ts → None ≡ slice_get us 0 → ts ≡ []
first_none ts us same e = from ts (e ∙ ap (λ (vs : List Term). slice_get vs 0) same)
  where
    from : (ts : List Term) → None ≡ slice_get ts 0 → ts ≡ []
    from [] e = refl
    from (t ∷ ts) e = cc
