-- A certificate has an answer: each of its conditions holds or fails, and so there is a first that fails, or none.
use Rattle.std.proofs.Common.{ℕ, zero, suc, ◌+◌, ◌<◌, ◌≤◌, ◌≡◌, refl, List, [], ◌∷◌, length, map, Option, Some, None, Bool, true, false, IsTrue, sym, ◌∙◌, ap, subst, arith, inl, inr, ◌⊎◌, All}
use Rattle.std.specs.Prelude.{◌≢◌}
use Rattle.std.proofs.lemmas.Bool.{cases_lt, cases_eq}
use Rattle.std.proofs.lemmas.List.Elements.{All-nil, All-cons}
use Rattle.git_algebra.specs.Exponents.{Exponents, one, power, in_face}
use Rattle.git_algebra.specs.Order.{rank}
use Rattle.git_algebra.specs.Sums.{Sum}
use Rattle.git_algebra.specs.Polynomials.{Polynomial}
use Rattle.git_algebra.specs.Operations.{zero_polynomial, minus, restricted, lead_of, total_degree, IsInFace}
use Rattle.git_algebra.proofs.Ranks.{rank_injective}
use Rattle.git_ideals.specs.Ideals.{combination, monomial, clearing}
use Rattle.git_ideals.specs.Division.{member, DividesToZero, PairsDivide}
use Rattle.git_ideals.specs.Faces.{face_monomial}
use Rattle.git_ideals.specs.Laws.{HasDivision}
use Rattle.git_ideals.proofs.Buchberger.{no_lead}
use Rattle.git_ideals.proofs.Divisions.{to_zero, zero_has_no_lead}
use Rattle.git_ideals.proofs.Existence.{has_division}
use Rattle.git_ideals.proofs.SPolynomials.{s_of, s_of_is, one_s_polynomial}
use Rattle.git_facecert.specs.declared.certificate.FaceCert.{FaceCert}
use Rattle.git_facecert.specs.declared.certificate.FaceCert.TheVariants.{Monomial, Free}
use Rattle.git_facecert.specs.declared.certificate.Place.TheVariants.{Member, Generator, Clear, Pair, Product}
use Rattle.git_facecert.specs.declared.certificate.Accepted.{Accepted}
use Rattle.git_facecert.specs.declared.certificate.Accepted.TheVariants.{Yes, No}
use Rattle.git_facecert.specs.Certificates.{IsCofactor, IsMember}
use Rattle.git_facecert.specs.Answers.{FirstLacks, PairDivides, FirstPartner, FirstPairLacks, SumFails, GeneratorsPass, IsMonomialAnswer, IsFreeAnswer}
use Rattle.git_facecert.specs.Laws.{SomeAnswer}
use Rattle.git_facecert.proofs.Combinations.{zero_difference}
use Rattle.git_facecert.proofs.Pairs.{one_partner, one_first, first_pair_is, all_pairs}

abbrev Decided : Type 0 → Type 0
Decided P = P ⊎ (P → ⊥)

both : (P Q : Type 0) → Decided P → Decided Q → Decided (P × Q)
both P Q (inl p) (inl q) = inl (p, q)
both P Q (inl p) (inr fails) = inr (λ h. fails h.1)
both P Q (inr fails) q = inr (λ h. fails h.0)

opposite : (P : Type 0) → Decided P → Decided (P → ⊥)
opposite P (inl p) = inr (λ fails. fails p)
opposite P (inr fails) = inl fails

-- the first of a list that lacks a property, or all have it
first_or_all : (P : Polynomial → Type 0) → ((p : Polynomial) → Decided (P p)) → (ps : List Polynomial) → All P ps ⊎ ((n : ℕ) × FirstLacks P ps n)
first_or_all P decide [] = inl (All-nil P)
first_or_all P decide (p ∷ ps) = by (decide p) (first_or_all P decide ps)
  where
    before : (place : ℕ) → P p → ((k : ℕ) → k < place → P (member ps k)) → (k : ℕ) → k < suc place → P (member (p ∷ ps) k)
    before place holds early zero h = holds
    before place holds early (suc k) h = early k (omega arith)

    by : Decided (P p) → All P ps ⊎ ((n : ℕ) × FirstLacks P ps n) → All P (p ∷ ps) ⊎ ((n : ℕ) × FirstLacks P (p ∷ ps) n)
    by (inr fails) rest = inr (1, record { place = 0; number = omega arith; within = omega arith; lacks = fails; before = λ k h. absurd (omega arith) })
    by (inl holds) (inl all) = inl (All-cons P p ps holds all)
    by (inl holds) (inr f) = inr (suc f.0, record { place = suc f.1.place; number = omega (arith, f.1.number); within = omega (arith, f.1.within); lacks = f.1.lacks; before = before f.1.place holds f.1.before })

-- polynomials
is_zero : (p : Polynomial) → Decided (p ≡ zero_polynomial)
is_zero p = by (lead_of p) refl
  where
    by : (o : Option (Exponents × ℕ)) → lead_of p ≡ o → Decided (p ≡ zero_polynomial)
    by None e = inl (no_lead p e)
    by (Some t) e = inr (λ z. let two : None ≡ Some t = sym zero_has_no_lead ∙ ap lead_of (sym z) ∙ e in cc)

are_same : (p q : Polynomial) → Decided (p ≡ q)
are_same p q = by (is_zero (minus p q))
  where
    by : Decided (minus p q ≡ zero_polynomial) → Decided (p ≡ q)
    by (inl z) = inl ((zero_difference p q).0 z)
    by (inr fails) = inr (λ e. fails ((zero_difference p q).1 e))

terms_in : (mask : ℕ) (s : Sum) → Decided (All (λ t. IsTrue (in_face mask t.0)) s)
terms_in mask [] = inl (All-nil (λ (t : Exponents × ℕ). IsTrue (in_face mask t.0)))
terms_in mask (t ∷ s) = by (in_face mask t.0) refl (terms_in mask s)
  where
    by : (b : Bool) → in_face mask t.0 ≡ b → Decided (All (λ u. IsTrue (in_face mask u.0)) s) → Decided (All (λ u. IsTrue (in_face mask u.0)) (t ∷ s))
    by true e (inl all) = inl (All-cons (λ (u : Exponents × ℕ). IsTrue (in_face mask u.0)) t s e all)
    by true e (inr fails) = inr (λ all. fails (λ k d h. all (suc k) d (omega arith)))
    by false e rest = inr (λ all. let here : in_face mask t.0 ≡ true = all 0 t (omega arith) in let two : true ≡ false = sym here ∙ e in cc)

is_low : (p : Polynomial) (n : ℕ) → Decided (total_degree p ≤ n)
is_low p n = elim (cases_lt n (total_degree p)) [
  | inl more ↦ inr (λ h. omega arith)
  | inr low ↦ inl low
]

is_unit : (p : Polynomial) → Decided ((c : ℕ) → lead_of p ≢ Some (one, c))
is_unit p = by (lead_of p) refl
  where
    by : (o : Option (Exponents × ℕ)) → lead_of p ≡ o → Decided ((c : ℕ) → lead_of p ≢ Some (one, c))
    by None e = inl (λ c at. let two : None ≡ Some (one, c) = sym e ∙ at in cc)
    by (Some t) e = elim (cases_eq (rank t.0) (rank one)) [
      | inl same ↦ inr (λ none. none t.1 (e ∙ (λ i. Some (rank_injective t.0 one same i, t.1))))
      | inr other ↦ inl (λ c at. let two : Some t ≡ Some (one, c) = sym e ∙ at in let is : t ≡ (one, c) = cc in other (ap (λ (u : Exponents × ℕ). rank u.0) is))
    ]

is_cofactor : (mask : ℕ) (h : Polynomial) → Decided (IsCofactor mask h)
is_cofactor mask h = by (both (IsInFace mask h) (total_degree h ≤ 33554432) (terms_in mask h.terms) (is_low h 33554432))
  where
    by : Decided (IsInFace mask h × (total_degree h ≤ 33554432)) → Decided (IsCofactor mask h)
    by (inl holds) = inl (record { variables = holds.0; small = holds.1 })
    by (inr fails) = inr (λ c. fails (c.variables, c.small))

is_member : (mask : ℕ) (g : Polynomial) → Decided (IsMember mask g)
is_member mask g = by (both (g ≢ zero_polynomial) (IsInFace (mask + 65536) g) (opposite (g ≡ zero_polynomial) (is_zero g)) (terms_in (mask + 65536) g.terms)) (both ((c : ℕ) → lead_of g ≢ Some (one, c)) (total_degree g ≤ 33554432) (is_unit g) (is_low g 33554432))
  where
    by : Decided ((g ≢ zero_polynomial) × IsInFace (mask + 65536) g) → Decided (((c : ℕ) → lead_of g ≢ Some (one, c)) × (total_degree g ≤ 33554432)) → Decided (IsMember mask g)
    by (inl a) (inl b) = inl (record { nonzero = a.0; variables = a.1; no_unit = b.0; small = b.1 })
    by (inl a) (inr fails) = inr (λ m. fails (m.no_unit, m.small))
    by (inr fails) b = inr (λ m. fails (m.nonzero, m.variables))

-- divisions
divides : (members : List Polynomial) (f : Polynomial) → Decided (DividesToZero members f)
divides members f = by (has_division members f)
  where
    by : HasDivision members f → Decided (DividesToZero members f)
    by d = at (is_zero d.rest)
      where
        at : Decided (d.rest ≡ zero_polynomial) → Decided (DividesToZero members f)
        at (inl z) = inl ((to_zero members f d.quotients d.rest d.is_division).1 z)
        at (inr fails) = inr (λ h. fails ((to_zero members f d.quotients d.rest d.is_division).0 h))

pair : (members : List Polynomial) (i j : ℕ) → Decided (PairDivides members i j)
pair members i j = by (lead_of (member members i)) (lead_of (member members j)) refl refl
  where
    by : (o u : Option (Exponents × ℕ)) → lead_of (member members i) ≡ o → lead_of (member members j) ≡ u → Decided (PairDivides members i j)
    by None u a b = inl (λ s h. absurd (let two : None ≡ Some h.lead = sym a ∙ h.is_lead in cc))
    by (Some t) None a b = inl (λ s h. absurd (let two : None ≡ Some h.other = sym b ∙ h.is_other in cc))
    by (Some t) (Some u) a b = at (divides members (s_of (member members i) (member members j) t u))
      where
        at : Decided (DividesToZero members (s_of (member members i) (member members j) t u)) → Decided (PairDivides members i j)
        at (inl holds) = inl (λ s h. subst (DividesToZero members) (one_s_polynomial (member members i) (member members j) (s_of (member members i) (member members j) t u) s (s_of_is (member members i) (member members j) t u a b) h) holds)
        at (inr fails) = inr (λ all. fails (all (s_of (member members i) (member members j) t u) (s_of_is (member members i) (member members j) t u a b)))

-- the first partner of a member below a bound, or all pass
partner : (members : List Polynomial) (i n : ℕ) → n ≤ length members → ((l : ℕ) → i < l → l < n → PairDivides members i l) ⊎ ((j : ℕ) × FirstPartner members i j)
partner members i zero h = inl (λ l a b. absurd (omega arith))
partner members i (suc n) h = by (partner members i n (omega arith)) (cases_lt i n) (pair members i n)
  where
    by : ((l : ℕ) → i < l → l < n → PairDivides members i l) ⊎ ((j : ℕ) × FirstPartner members i j) → (i < n) ⊎ (n ≤ i) → Decided (PairDivides members i n) → ((l : ℕ) → i < l → l < suc n → PairDivides members i l) ⊎ ((j : ℕ) × FirstPartner members i j)
    by (inr f) order decided = inr f
    by (inl all) (inr late) decided = inl (λ l a b. absurd (omega arith))
    by (inl all) (inl early) (inl holds) = inl (λ l a b. one_partner members i n all holds l a (omega arith))
    by (inl all) (inl early) (inr fails) = inr (n, record { order = early; within = omega arith; lacks = fails; before = all })

-- the first pair with its first place below a bound, or all pass
pairs : (members : List Polynomial) (n : ℕ) → ((k m : ℕ) → k < n → k < m → m < length members → PairDivides members k m) ⊎ ((i : ℕ) × (j : ℕ) × FirstPairLacks members i j)
pairs members zero = inl (λ k m a b c. absurd (omega arith))
pairs members (suc n) = by (pairs members n) (partner members n (length members) (omega arith))
  where
    by : ((k m : ℕ) → k < n → k < m → m < length members → PairDivides members k m) ⊎ ((i : ℕ) × (j : ℕ) × FirstPairLacks members i j) → ((l : ℕ) → n < l → l < length members → PairDivides members n l) ⊎ ((j : ℕ) × FirstPartner members n j)
        → ((k m : ℕ) → k < suc n → k < m → m < length members → PairDivides members k m) ⊎ ((i : ℕ) × (j : ℕ) × FirstPairLacks members i j)
    by (inr f) last = inr f
    by (inl all) (inl last) = inl (λ k m a b c. one_first members n all last k m (omega arith) b c)
    by (inl all) (inr f) = inr (n + 1, f.0 + 1, first_pair_is members n f.0 all f.1)

-- the two kinds of certificates
some_monomial : (generators : List Polynomial) (mask exponent : ℕ) (cofactors : List Polynomial) → (a : Accepted) × IsMonomialAnswer generators mask exponent cofactors a
some_monomial generators mask exponent cofactors = elim (cases_eq (length cofactors) (length generators)) [
  | inl even ↦ lines even (first_or_all (IsCofactor mask) (is_cofactor mask) cofactors)
  | inr other ↦ (No Product, λ e. absurd (other e))
]
  where
    product : length cofactors ≡ length generators → All (IsCofactor mask) cofactors → Decided (combination cofactors (map (restricted mask) generators) ≡ monomial (power (face_monomial mask) exponent)) → (exponent ≤ 1048576) ⊎ (1048576 < exponent) → (a : Accepted) × IsMonomialAnswer generators mask exponent cofactors a
    product even all (inl sum) (inl small) = (Yes, record { one_each = even; cofactors_are = all; small = small; sum = sum })
    product even all (inl sum) (inr large) = (No Product, λ e. (all, λ small. absurd (omega arith)))
    product even all (inr fails) size = (No Product, λ e. (all, λ small. fails))

    lines : length cofactors ≡ length generators → All (IsCofactor mask) cofactors ⊎ ((n : ℕ) × FirstLacks (IsCofactor mask) cofactors n) → (a : Accepted) × IsMonomialAnswer generators mask exponent cofactors a
    lines even (inr f) = (No (Member f.0), (even, f.1))
    lines even (inl all) = product even all (are_same (combination cofactors (map (restricted mask) generators)) (monomial (power (face_monomial mask) exponent))) (elim (cases_lt 1048576 exponent) [ inl large ↦ inr large | inr small ↦ inl small ])

some_free : (generators : List Polynomial) (mask : ℕ) (members : List Polynomial) → (a : Accepted) × IsFreeAnswer generators mask members a
some_free generators mask members = first (first_or_all (IsMember mask) (is_member mask) members)
  where
    last : GeneratorsPass generators mask members → DividesToZero members (clearing (face_monomial mask)) → ((k m : ℕ) → k < length members → k < m → m < length members → PairDivides members k m) ⊎ ((i : ℕ) × (j : ℕ) × FirstPairLacks members i j) → (a : Accepted) × IsFreeAnswer generators mask members a
    last pass clear (inl all) = (Yes, record { members_are = pass.0; generators_divide = pass.1; clearing_divides = clear; pairs_divide = all_pairs members (length members) (omega arith) all })
    last pass clear (inr f) = (No (Pair f.0 f.1), (pass, clear, f.2))

    third : GeneratorsPass generators mask members → Decided (DividesToZero members (clearing (face_monomial mask))) → (a : Accepted) × IsFreeAnswer generators mask members a
    third pass (inr fails) = (No Clear, (pass, fails))
    third pass (inl clear) = last pass clear (pairs members (length members))

    second : All (IsMember mask) members → All (λ f. DividesToZero members (restricted mask f)) generators ⊎ ((n : ℕ) × FirstLacks (λ f. DividesToZero members (restricted mask f)) generators n) → (a : Accepted) × IsFreeAnswer generators mask members a
    second all (inr f) = (No (Generator f.0), (all, f.1))
    second all (inl pass) = third (all, pass) (divides members (clearing (face_monomial mask)))

    first : All (IsMember mask) members ⊎ ((n : ℕ) × FirstLacks (IsMember mask) members n) → (a : Accepted) × IsFreeAnswer generators mask members a
    first (inr f) = (No (Member f.0), f.1)
    first (inl all) = second all (first_or_all (λ f. DividesToZero members (restricted mask f)) (λ f. divides members (restricted mask f)) generators)

pub some_answer : SomeAnswer
some_answer generators mask (Monomial exponent cofactors) = some_monomial generators mask exponent cofactors.items
some_answer generators mask (Free members) = some_free generators mask members.items
