-- Reading never wants memory: it gives a value or a fault with its place.
use Rattle.std.proofs.Common.{refl, ◌≡◌, ℕ, zero, suc, ◌-◌, List, length, Option, Some, None, Result, Ok, Err}
use Rattle.std.specs.Prelude.{ℤ, pos}
use Rattle.std.proofs.Math.IntN.{neg_ℤ}
use Rattle.git_algebra.specs.Exponents.{Exponents}
use Rattle.git_grading.specs.Gradings.{Degrees}
use Rattle.git_lines.specs.declared.fault.FormFault.{FormFault}
use Rattle.git_lines.specs.Lines.{RestOfText}
use Rattle.git_lines.specs.Reading.{◌>>=◌, lift, times, next_line, line_by, integer_token, no_token, no_line}
use Rattle.git_lines.specs.Tokens.{RestOfLine, rest_of_line}
use Rattle.git_polytext.specs.declared.fault.PolynomialFault.{PolynomialFault}
use Rattle.git_polytext.specs.declared.fault.PolynomialFault.TheVariants as polynomial
use Rattle.git_polytext.specs.Reading.{polynomial_line}
use Rattle.git_polytext.specs.Laws.{IsFaultOf}
use Rattle.git_polytext.proofs.FaultKinds.{line_tells}
use Rattle.git_text.specs.declared.fault.InputFault.{InputFault}
use Rattle.git_text.specs.declared.fault.InputFault.TheVariants.{Bad, NoMemory}
use Rattle.git_text.specs.Faults.{form_bad, polynomial_bad, as_input}
use Rattle.git_text.specs.Reading.{row_line, generator_line, homogeneous_by, form_by, next_by, ideal_line, end_line, sizes_at, rows_at, columns_at, matrix_at, generators_at, rest_at, nothing_after}
use Rattle.git_text.specs.OneDegree.{apart}
use Rattle.git_input.specs.Inputs.{InputValue}

abbrev pub Placed : {A : Type 0} → Result A InputFault → Type 0
Placed (Ok x) = Unit {0}
Placed (Err NoMemory) = ⊥
Placed (Err (Bad line column kind)) = Unit {0}

pub placed_then : {A B : Type 0} (r : Result A InputFault) (f : A → Result B InputFault) → Placed r → ((x : A) → Placed (f x)) → Placed (r >>= f)
placed_then (Ok x) f h g = g x
placed_then (Err (Bad line column kind)) f h g = tt
placed_then (Err NoMemory) f h g = h

placed_form : {A : Type 0} (r : Result A FormFault) → Placed (as_input r)
placed_form (Ok x) = tt
placed_form (Err f) = tt

placed_polynomial : {A : Type 0} (line size : ℕ) (r : Result A PolynomialFault) → ((e : PolynomialFault) → r ≡ Err e → IsFaultOf line size e) → Placed (lift polynomial_bad r)
placed_polynomial line size (Ok x) h = tt
placed_polynomial line size (Err (polynomial.Form f)) h = tt
placed_polynomial line size (Err (polynomial.Variable at column)) h = tt
placed_polynomial line size (Err polynomial.NoMemory) h = h polynomial.NoMemory refl

placed_times : {A S : Type 0} (step : S → Result (A × S) InputFault) → ((s : S) → Placed (step s)) → (n : ℕ) (s : S) → Placed (times step n s)
unfolding times
placed_times step h zero s = tt
placed_times step h (suc n) s = placed_then (step s) _ (h s) (λ first. placed_then (times step n first.1) _ (placed_times step h n first.1) (λ others. tt))

placed_next : {A : Type 0} (read : ℕ → List ℕ → Result A InputFault) → ((n : ℕ) (l : List ℕ) → Placed (read n l)) → (s : RestOfText) → Placed (next_by read s)
unfolding line_by
placed_next read h s = placed_then (lift form_bad (next_line s)) _ (placed_form (next_line s)) (λ l. placed_then (read l.0.number l.0.text) _ (h l.0.number l.0.text) (λ a. tt))

row_placed : (r n : ℕ) (l : List ℕ) → Placed (row_line r n l)
unfolding row_line
row_placed r n l =
    placed_then (as_input (entries_of r n l)) _ (placed_form (entries_of r n l)) (λ entries. placed_then (as_input (no_token entries.1)) _ (placed_form (no_token entries.1)) (λ b. tt))
  where
    entries_of : ℕ → ℕ → List ℕ → Result (List ℤ × RestOfLine) FormFault
    entries_of r n l = times (integer_token (neg_ℤ (pos 1000)) (pos 1000)) r (rest_of_line n l)

columns_placed : (k r : ℕ) (s : RestOfText) → Placed (columns_at k r s)
unfolding columns_at
columns_placed k r s = placed_then (rows_at k r s) _ (placed_times (next_by (row_line r)) (placed_next (row_line r) (row_placed r)) k s) (λ rows. tt)

pub matrix_placed : (s : RestOfText) → Placed (matrix_at s)
unfolding matrix_at
matrix_placed s = placed_then (as_input (sizes_at s)) _ (placed_form (sizes_at s)) (λ sizes. placed_then (columns_at sizes.0.0 sizes.0.1 sizes.1) _ (columns_placed sizes.0.0 sizes.0.1 sizes.1) (λ columns. tt))

homogeneous_placed : (line number : ℕ) (o : Option (Exponents × Exponents)) → Placed (homogeneous_by line number o)
homogeneous_placed line number None = tt
homogeneous_placed line number (Some pair) = tt

generator_placed : (d : Degrees) (before n : ℕ) (l : List ℕ) → Placed (generator_line d before n l)
unfolding generator_line
generator_placed d before n l =
    placed_then (lift polynomial_bad (polynomial_line (length d.columns) n l)) _ (placed_polynomial n (length l) (polynomial_line (length d.columns) n l) (line_tells (length d.columns) n l))
    (λ p. placed_then (homogeneous_by n (n - before) (apart d p.terms)) _ (homogeneous_placed n (n - before) (apart d p.terms)) (λ one. tt))

generators_placed : (d : Degrees) (s : RestOfText) → Placed (generators_at d s)
unfolding generators_at
generators_placed d s =
    placed_then (as_input (form_by ideal_line s)) _ (placed_form (form_by ideal_line s)) (λ count. placed_times (next_by (generator_line d s.line)) (placed_next (generator_line d s.line) (generator_placed d s.line)) count.0 count.1)

pub rest_placed : (d : Degrees) (s : RestOfText) → Placed (rest_at d s)
unfolding rest_at
rest_placed d s = placed_then (generators_at d s) _ (generators_placed d s) (λ g. placed_then (as_input (form_by end_line g.1)) _ (placed_form (form_by end_line g.1)) (λ last. tt))

pub nothing_placed : (front : InputValue × RestOfText) → Placed (nothing_after front)
unfolding nothing_after
nothing_placed front = placed_then (as_input (no_line front.1)) _ (placed_form (no_line front.1)) (λ nothing. tt)
