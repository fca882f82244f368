-- What a function of the code gives where memory may run out.
use Rattle.std.specs.Prelude.{◌≡◌, Result, Ok, Err}
use Rattle.git_lines.specs.declared.fault.FormFault.{FormFault}
use Rattle.git_strictlines.specs.declared.fault.ReadFault.{ReadFault}
use Rattle.git_strictlines.specs.declared.fault.ReadFault.TheVariants.{Form, NoMemory}

-- the fault is want of memory, or the one that reading has
abbrev pub Fails : {Y : Type 0} → ReadFault → Result Y FormFault → Type 0
Fails (Form f) read = read ≡ Err f
Fails NoMemory read = Unit {0}

-- what a function gives, seen by view, is what reading gives, unless memory runs out
abbrev pub GivesUnlessFull : {X Y : Type 0} → (X → Y) → Result X ReadFault → Result Y FormFault → Type 0
GivesUnlessFull view (Ok x) read = read ≡ Ok (view x)
GivesUnlessFull view (Err e) read = Fails e read
