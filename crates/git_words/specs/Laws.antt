-- Laws of words and commands.
use Rattle.std.specs.Prelude.{◌≡◌, ◌⊎◌, ℕ, ◌≤◌, List}
use Rattle.git_words.specs.declared.commands.TheConstants.{WORKERS, TABLE, STEPS}
use Rattle.git_words.specs.declared.commands.Sample.{Sample}
use Rattle.git_words.specs.declared.commands.Sample.TheVariants.{Points, Plucker}
use Rattle.git_words.specs.declared.commands.Command.{Command}
use Rattle.git_words.specs.declared.commands.Command.TheVariants.{Fan, Faces, Make, AllCones, Locate, Bunch}
use Rattle.git_words.specs.Words.{IsCommand}

-- words spell one command at most
abbrev pub OneCommand : Type 0
OneCommand = (words : List (List ℕ)) (c d : Command) → IsCommand words c → IsCommand words d → c ≡ d

-- words spell a command or none
abbrev pub CommandOrNone : Type 0
CommandOrNone = (words : List (List ℕ)) → ((c : Command) × IsCommand words c) ⊎ ((c : Command) → IsCommand words c → ⊥)

abbrev pub IsSampleInRange : Sample → Type 0
IsSampleInRange (Points n seed) = (3 ≤ n) × (n ≤ 16) × (seed ≤ 999999999)
IsSampleInRange (Plucker n) = (4 ≤ n) × (n ≤ 5)

-- the numbers are within the limits
abbrev pub IsInRange : Command → Type 0
IsInRange (Fan workers table steps certs) = (1 ≤ workers) × (workers ≤ WORKERS) × (1 ≤ table) × (table ≤ TABLE) × (1 ≤ steps) × (steps ≤ STEPS)
IsInRange (Faces steps) = (1 ≤ steps) × (steps ≤ STEPS)
IsInRange (Make sample run) = IsSampleInRange sample
IsInRange (AllCones table steps) = (1 ≤ table) × (table ≤ TABLE) × (1 ≤ steps) × (steps ≤ STEPS)
IsInRange (Locate table steps) = (1 ≤ table) × (table ≤ TABLE) × (1 ≤ steps) × (steps ≤ STEPS)
IsInRange (Bunch table steps) = (1 ≤ table) × (table ≤ TABLE) × (1 ≤ steps) × (steps ≤ STEPS)

-- the numbers of a command that is spelled are within the limits
abbrev pub CommandsAreInRange : Type 0
CommandsAreInRange = (words : List (List ℕ)) (c : Command) → IsCommand words c → IsInRange c
