-- Faults of an input, and what a function of the code gives where memory may run out.
use Rattle.std.specs.Prelude.{◌≡◌, Result, Ok, Err}
use Rattle.git_lines.specs.declared.fault.FormFault.{FormFault}
use Rattle.git_lines.specs.declared.fault.FormKind.{FormKind}
use Rattle.git_lines.specs.declared.fault.FormKind.TheVariants as form
use Rattle.git_lines.specs.Reading.{lift}
use Rattle.git_polytext.specs.declared.fault.PolynomialFault.{PolynomialFault}
use Rattle.git_polytext.specs.declared.fault.PolynomialFault.TheVariants as polynomial
use Rattle.git_text.specs.declared.fault.BadKind.{BadKind}
use Rattle.git_text.specs.declared.fault.BadKind.TheVariants.{Header, Number, Count, Range, Syntax, Variable, Truncated, Trailing}
use Rattle.git_text.specs.declared.fault.InputFault.{InputFault}
use Rattle.git_text.specs.declared.fault.InputFault.TheVariants.{Bad, NoMemory}

abbrev pub kind_of : FormKind → BadKind
kind_of form.Header = Header
kind_of form.Number = Number
kind_of form.Count = Count
kind_of form.Range = Range
kind_of form.Syntax = Syntax
kind_of form.Truncated = Truncated
kind_of form.Trailing = Trailing

-- a fault of form as one of an input
abbrev pub form_bad : FormFault → InputFault
form_bad f = Bad f.line f.column (kind_of f.kind)

-- a fault of a polynomial's line as one of an input
abbrev pub polynomial_bad : PolynomialFault → InputFault
polynomial_bad (polynomial.Form f) = form_bad f
polynomial_bad (polynomial.Variable line column) = Bad line column Variable
polynomial_bad polynomial.NoMemory = NoMemory

abbrev pub as_input : {A : Type 0} → Result A FormFault → Result A InputFault
as_input read = lift form_bad read

-- the fault is want of memory, or the one that reading has
abbrev pub Fails : {Y : Type 0} → InputFault → Result Y InputFault → Type 0
Fails NoMemory read = Unit {0}
Fails (Bad line column kind) read = read ≡ Err (Bad line column kind)

-- what a function of the code gives, seen by view, is what reading gives, unless memory runs out
abbrev pub GivesUnlessFull : {X Y : Type 0} → (X → Y) → Result X InputFault → Result Y InputFault → Type 0
GivesUnlessFull view (Ok x) read = read ≡ Ok (view x)
GivesUnlessFull view (Err e) read = Fails e read

-- so it is where what reading gives is known by what holds of it
abbrev pub FailsUnlessFull : {Y : Type 0} → InputFault → (Result Y InputFault → Type 0) → Type 0
FailsUnlessFull NoMemory reads = Unit {0}
FailsUnlessFull (Bad line column kind) reads = reads (Err (Bad line column kind))

abbrev pub FitsUnlessFull : {X Y : Type 0} → (X → Y) → Result X InputFault → (Result Y InputFault → Type 0) → Type 0
FitsUnlessFull view (Ok x) reads = reads (Ok (view x))
FitsUnlessFull view (Err e) reads = FailsUnlessFull e reads
