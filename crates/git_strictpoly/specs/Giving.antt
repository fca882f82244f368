-- What the code gives is what reading gives, unless memory runs out.
use Rattle.std.specs.Prelude.{◌≡◌, ◌++◌, Result, Ok, Err}
use Rattle.git_lines.specs.declared.fault.FormKind.{FormKind}
use Rattle.git_lines.specs.Reading.{◌>>=◌}
use Rattle.git_algebra.specs.Sums.{Sum}
use Rattle.git_algebra.specs.Polynomials.{Polynomial}
use Rattle.git_strictpoly.specs.declared.reading.StrictFault.{StrictFault}
use Rattle.git_strictpoly.specs.declared.reading.StrictFault.TheVariants.{Form, NoMemory}

-- what was read before goes before what is still read
abbrev pub after : Sum → Result Sum FormKind → Result Sum FormKind
after front read = read >>= λ x. Ok (front ++ x)

abbrev pub Fails : {Y : Type 0} → StrictFault → Result Y FormKind → Type 0
Fails (Form kind) read = read ≡ Err kind
Fails NoMemory read = Unit {0}

abbrev pub GivesSum : Result Polynomial StrictFault → Result Sum FormKind → Type 0
GivesSum (Ok p) read = read ≡ Ok p.terms
GivesSum (Err e) read = Fails e read

abbrev pub GivesStrict : Result Polynomial StrictFault → Result Polynomial FormKind → Type 0
GivesStrict (Ok p) read = read ≡ Ok p
GivesStrict (Err e) read = Fails e read
