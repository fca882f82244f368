-- The lines of the generators: reading is the grammar, and what is read may be the generators of an ideal.
use Rattle.std.proofs.Common.{◌≡◌, ℕ, zero, suc, ◌+◌, ◌-◌, ◌≤◌, ◌%◌, List, [], ◌∷◌, ◌++◌, length, Option, Some, None, Ok, Err, refl, sym, ap, ◌∙◌, subst, arith}
use Rattle.std.specs.Prelude.{All, pos}
use Rattle.std.proofs.lemmas.List.Elements.{All-nil, All-cons}
use Rattle.std.proofs.lemmas.Int.{ints}
use Rattle.std.specs.declared.cmp.Ordering.{Ordering}
use Rattle.std.specs.declared.cmp.Ordering.TheVariants.{Less, Equal, Greater}
use Rattle.std.specs.Ordering.{nat_cmp}
use Rattle.git_algebra.specs.Exponents.{Exponents}
use Rattle.git_algebra.specs.Order.{rank}
use Rattle.git_algebra.specs.Sums.{Sum}
use Rattle.git_algebra.specs.Polynomials.{Polynomial, normal, normal_list, put, put_by, entry}
use Rattle.git_grading.specs.Gradings.{Degrees}
use Rattle.git_poly.specs.Degrees.{IsHomogeneous, AreGradedBy}
use Rattle.git_lines.specs.Lines.{RestOfText, contents}
use Rattle.git_lines.specs.Reading.{lift}
use Rattle.git_lines.specs.Grammar.{Together, IsInteger}
use Rattle.git_lines.proofs.Exact.{bind_ok, lift_ok, ok_is, ReadsLine, times_take, times_again}
use Rattle.git_polytext.specs.Grammar.{IsPolynomialLine}
use Rattle.git_polytext.specs.Reading.{polynomial_line}
use Rattle.git_polytext.proofs.ExactLines.{line_takes, line_again}
use Rattle.git_polytext.proofs.Graded.{lines_graded}
use Rattle.git_text.specs.declared.fault.BadKind.TheVariants.{Homogeneous}
use Rattle.git_text.specs.declared.fault.InputFault.TheVariants.{Bad}
use Rattle.git_text.specs.Faults.{form_bad, polynomial_bad, as_input}
use Rattle.git_input.specs.Inputs.{InputValue, AreGenerators}
use Rattle.git_text.specs.Grammar.{IsIdeal, IsEnd, IsGenerator}
use Rattle.git_text.specs.OneDegree.{apart}
use Rattle.git_text.specs.Laws.{AreApartAsRead}
use Rattle.git_text.specs.Reading.{homogeneous_by, generator_line, form_by, ideal_line, end_line, generators_at, rest_at}
use Rattle.git_text.proofs.OneDegree.{found, not_both}
use Rattle.git_text.proofs.ExactText.{next_steps, ideal_take, ideal_again, end_take, end_again}

-- ---- one line

none_mixed : (d : Degrees) (p : Polynomial) (line number : ℕ) (o : Option (Exponents × Exponents)) (u : Unit {0}) → AreApartAsRead d p o → homogeneous_by line number o ≡ Ok u
    → IsHomogeneous d.k d.columns p
none_mixed d p line number None u h e = h
none_mixed d p line number (Some pair) u h e = absurd (cc e)

no_pair : (d : Degrees) (p : Polynomial) (line number : ℕ) (o : Option (Exponents × Exponents)) → AreApartAsRead d p o → IsHomogeneous d.k d.columns p
    → homogeneous_by line number o ≡ Ok tt
no_pair d p line number None h one = refl
no_pair d p line number (Some pair) h one = absurd (not_both d p pair.0 pair.1 one h)

pub generator_reads : (d : Degrees) (before : ℕ) → length d.columns ≤ 16 → ReadsLine (generator_line d before) (IsGenerator d)
unfolding generator_line
generator_reads d before few = record {
  takes = λ n l p e.
      let a = bind_ok (lift polynomial_bad (polynomial_line (length d.columns) n l)) _ p e in
      let b = bind_ok (homogeneous_by n (n - before) (apart d a.0.terms)) _ p a.2 in
      let is = line_takes (length d.columns) n l a.0 (lift_ok polynomial_bad _ _ a.1) in
      let one = none_mixed d a.0 n (n - before) (apart d a.0.terms) b.0 (found d a.0) b.1 in
      subst (IsGenerator d l) (ok_is a.0 p b.2) (record { is = is; homogeneous = one });
  again = λ n l p h.
      rw (line_again (length d.columns) n l p few h.is, no_pair d p n (n - before) (apart d p.terms) (found d p) h.homogeneous) refl;
}

-- as the code reads it
pub generator_is : (d : Degrees) (r before n : ℕ) (l : List ℕ) (p : Polynomial) → r ≡ length d.columns → polynomial_line r n l ≡ Ok p → apart d p.terms ≡ None
    → generator_line d before n l ≡ Ok p
unfolding generator_line
generator_is d r before n l p size read none = let e : polynomial_line (length d.columns) n l ≡ Ok p = ap (λ k. polynomial_line k n l) (sym size) ∙ read in rw (e, none) refl

pub generator_mixed : (d : Degrees) (r before n : ℕ) (l : List ℕ) (p : Polynomial) (pair : Exponents × Exponents) → r ≡ length d.columns → polynomial_line r n l ≡ Ok p
    → apart d p.terms ≡ Some pair → generator_line d before n l ≡ Err (Bad n 1 (Homogeneous (n - before) pair.0 pair.1))
unfolding generator_line
generator_mixed d r before n l p pair size read some = let e : polynomial_line (length d.columns) n l ≡ Ok p = ap (λ k. polynomial_line k n l) (sym size) ∙ read in rw (e, some) refl

-- ---- the lines after the matrix

pub record AreRead (d : Degrees) (s after : RestOfText) (ps : List Polynomial) : Type 0 where
  pub ideal : List ℕ
  pub polynomials : List (List ℕ)
  pub lines : contents s ≡ ideal ∷ polynomials ++ contents after
  pub ideal_is : IsIdeal ideal (length ps)
  pub polynomials_are : Together (IsGenerator d) polynomials ps

pub generators_take : (d : Degrees) (s after : RestOfText) (ps : List Polynomial) → length d.columns ≤ 16 → generators_at d s ≡ Ok (ps, after) → AreRead d s after ps
unfolding generators_at
generators_take d s after ps few e =
    let a = bind_ok (as_input (form_by ideal_line s)) _ (ps, after) e in
    let t = ideal_take s a.0.1 a.0.0 (lift_ok form_bad _ _ a.1) in
    let g = times_take _ _ _ (next_steps _ _ (generator_reads d s.line few)) a.0.0 a.0.1 after ps a.2 in
    record { ideal = t.0; polynomials = g.0; lines = t.1 ∙ ap (λ l. t.0 ∷ l) g.1; ideal_is = subst (IsIdeal t.0) (sym g.3) t.2; polynomials_are = g.2 }

pub generators_again : (d : Degrees) (s : RestOfText) (ideal : List ℕ) (polynomials rest : List (List ℕ)) (ps : List Polynomial) → length d.columns ≤ 16
    → contents s ≡ ideal ∷ polynomials ++ rest → IsIdeal ideal (length ps) → Together (IsGenerator d) polynomials ps
    → (after : RestOfText) × (generators_at d s ≡ Ok (ps, after)) × (contents after ≡ rest)
unfolding generators_at
generators_again d s ideal polynomials rest ps few e i h =
    let a = ideal_again s ideal (polynomials ++ rest) (length ps) e i in
    let g = times_again _ _ _ (next_steps _ _ (generator_reads d s.line few)) polynomials rest ps a.0 a.2 h in
    (g.0, rw (a.1, g.1) refl, g.2)

pub record IsRestRead (d : Degrees) (s after : RestOfText) (v : InputValue) : Type 0 where
  pub ideal : List ℕ
  pub polynomials : List (List ℕ)
  pub end : List ℕ
  pub degrees : v.degrees ≡ d
  pub lines : contents s ≡ ideal ∷ polynomials ++ (end ∷ contents after)
  pub ideal_is : IsIdeal ideal (length v.generators)
  pub polynomials_are : Together (IsGenerator d) polynomials v.generators
  pub end_is : IsEnd end

pub rest_takes : (d : Degrees) (s after : RestOfText) (v : InputValue) → length d.columns ≤ 16 → rest_at d s ≡ Ok (v, after) → IsRestRead d s after v
unfolding rest_at
rest_takes d s after v few e =
    let a = bind_ok (generators_at d s) _ (v, after) e in
    let b = bind_ok (as_input (form_by end_line a.0.1)) _ (v, after) a.2 in
    let p = ok_is (record { degrees = d; generators = a.0.0 }, b.0.1) (v, after) b.2 in
    let g = generators_take d s a.0.1 a.0.0 few a.1 in
    let z = end_take a.0.1 b.0.1 b.0.0 (lift_ok form_bad _ _ b.1) in
    subst (λ (q : InputValue × RestOfText). IsRestRead d s q.1 q.0) p (record {
      ideal = g.ideal;
      polynomials = g.polynomials;
      end = z.0;
      degrees = refl;
      lines = g.lines ∙ ap (λ l. g.ideal ∷ g.polynomials ++ l) z.1;
      ideal_is = g.ideal_is;
      polynomials_are = g.polynomials_are;
      end_is = z.2;
    })

pub rest_again : (d : Degrees) (s : RestOfText) (ideal : List ℕ) (polynomials : List (List ℕ)) (end : List ℕ) (rest : List (List ℕ)) (ps : List Polynomial) → length d.columns ≤ 16
    → contents s ≡ ideal ∷ polynomials ++ (end ∷ rest) → IsIdeal ideal (length ps) → Together (IsGenerator d) polynomials ps → IsEnd end
    → (after : RestOfText) × (rest_at d s ≡ Ok (record { degrees = d; generators = ps }, after)) × (contents after ≡ rest)
unfolding rest_at
rest_again d s ideal polynomials end rest ps few e i h z =
    let g = generators_again d s ideal polynomials (end ∷ rest) ps few e i h in
    let w = end_again g.0 end rest g.2 z in
    (w.0, rw (g.1, w.1) refl, w.2)

-- ---- what is read may be the generators of an ideal

length-entry : (m : Exponents) (c : ℕ) (s : Sum) → length (entry m c s) ≤ length s + 1
length-entry m zero s = omega arith
length-entry m (suc c) s = omega arith

length-put : (m : Exponents) (c : ℕ) (s : Sum) → length (put m c s) ≤ length s + 1
length-put m c [] = length-entry m (c % 32003) []
length-put m c (t ∷ s) = by (nat_cmp (rank m) (rank t.0)) (length-put m c s)
  where
    by : (r : Ordering) → length (put m c s) ≤ length s + 1 → length (put_by r m c t.0 t.1 s (put m c s)) ≤ length (t ∷ s) + 1
    by Less h = omega (arith, h)
    by Equal h = let e = length-entry m ((c + t.1) % 32003) s in omega (arith, e)
    by Greater h = let e = length-entry m (c % 32003) (t ∷ s) in omega (arith, e)

length-normal : (s : Sum) → length (normal_list s) ≤ length s
length-normal [] = omega arith
length-normal (t ∷ s) = let h = length-put t.0 t.1 (normal_list s) in let g = length-normal s in omega (arith, h, g)

pub length-terms : (s : Sum) → length (normal s).terms ≤ length s
unfolding normal
length-terms s = length-normal s

short_line : (r : ℕ) (line : List ℕ) (p : Polynomial) → IsPolynomialLine r line p → length p.terms ≤ 200
short_line r line p h = let n = length-terms h.terms in let same : length p.terms ≡ length (normal h.terms).terms = ap (λ (q : Polynomial). length q.terms) h.sum in omega (arith, n, same, h.few)

each_is : (d : Degrees) (P : Polynomial → Type 0) → ((line : List ℕ) (p : Polynomial) → IsGenerator d line p → P p) → (lines : List (List ℕ)) (ps : List Polynomial) → Together (IsGenerator d) lines ps → All P ps
each_is d P one lines [] h = All-nil P
each_is d P one [] (p ∷ ps) h = absurd h
each_is d P one (line ∷ lines) (p ∷ ps) h = All-cons P p ps (one line p h.0) (each_is d P one lines ps h.1)

few_of : (token : List ℕ) (m : ℕ) → IsInteger (pos 0) (pos 64) token (pos m) → m ≤ 64
few_of token m i = omega (arith, ints, i.below)

pub are_generators : (d : Degrees) (ideal : List ℕ) (lines : List (List ℕ)) (ps : List Polynomial) → IsIdeal ideal (length ps) → Together (IsGenerator d) lines ps → AreGenerators d ps
are_generators d ideal lines ps i h = record {
  few = few_of i.count (length ps) i.count_is;
  short = each_is d (λ p. length p.terms ≤ 200) (λ line p g. short_line (length d.columns) line p g.is) lines ps h;
  graded = each_is d (AreGradedBy d.columns) (λ line p g. lines_graded d.columns line p g.is) lines ps h;
  homogeneous = each_is d (IsHomogeneous d.k d.columns) (λ line p g. g.homogeneous) lines ps h;
}

pub generators_read : (d : Degrees) (s after : RestOfText) (ps : List Polynomial) → length d.columns ≤ 16 → generators_at d s ≡ Ok (ps, after) → AreGenerators d ps
generators_read d s after ps few e = let g = generators_take d s after ps few e in are_generators d g.ideal g.polynomials ps g.ideal_is g.polynomials_are
