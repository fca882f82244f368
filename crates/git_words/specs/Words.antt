-- The words of the command line, and the command that they spell.
use Rattle.std.specs.Prelude.{◌≡◌, ◌≢◌, ◌⊎◌, ℕ, ◌≤◌, Bool, true, false, List, [], ◌∷◌, ◌++◌, length, codes, map, Some, None}
use Rattle.std.specs.Borrow.{Bor}
use Rattle.std.specs.Option.{option_to_list}
use Rattle.git_lines.specs.Numbers.{natural}
use Rattle.git_words.specs.declared.commands.TheConstants.{WORKERS, TABLE, STEPS, WORKERS_UNSET, TABLE_UNSET, STEPS_UNSET}
use Rattle.git_words.specs.declared.commands.Sample.{Sample}
use Rattle.git_words.specs.declared.commands.Sample.TheVariants.{Points, Plucker}
use Rattle.git_words.specs.declared.commands.Command.{Command}
use Rattle.git_words.specs.declared.commands.Command.TheVariants.{Fan, Faces, Make, AllCones, Locate, Bunch}
use Rattle.git_words.specs.declared.settings.Setting.{Setting}
use Rattle.git_words.specs.declared.settings.Setting.TheVariants.{Workers, Table, Steps, Certs}
use Rattle.git_words.specs.declared.options.Options.{Options}

-- the words as bytes
abbrev pub words_of : List (Bor (List ℕ)) → List (List ℕ)
words_of words = map (λ w. w.now) words

-- one to nine digits that stand for n; zeros may stand in front
pub record IsNumberWord (word : List ℕ) (n : ℕ) : Type 0 where
  pub short : length word ≤ 9
  pub value : natural word ≡ Some n

-- such a number within a range
pub record IsNumberIn (least most : ℕ) (word : List ℕ) (n : ℕ) : Type 0 where
  pub number : IsNumberWord word n
  pub enough : least ≤ n
  pub few : n ≤ most

-- ---- options

-- the words begin with an option's name and a word for its value, apart or joined by `=`
abbrev pub Names : List ℕ → List ℕ → List (List ℕ) → List (List ℕ) → Type 0
Names name word words rest = (words ≡ name ∷ word ∷ rest) ⊎ (words ≡ (name ++ (codes "=" ++ word)) ∷ rest)

-- the words begin with an option's name and its number, from 1 up
pub record NamesNumber (name : List ℕ) (most n : ℕ) (words rest : List (List ℕ)) : Type 0 where
  pub word : List ℕ
  pub names : Names name word words rest
  pub number : IsNumberIn 1 most word n

-- the words begin with a setting
abbrev pub Begins : Setting → List (List ℕ) → List (List ℕ) → Type 0
Begins (Workers n) words rest = NamesNumber (codes "--workers") WORKERS n words rest
Begins (Table n) words rest = NamesNumber (codes "--table") TABLE n words rest
Begins (Steps n) words rest = NamesNumber (codes "--steps") STEPS n words rest
Begins Certs words rest = words ≡ codes "--certs" ∷ rest

-- the words are these settings, one after the other
abbrev pub AreSettings : List Setting → List (List ℕ) → Type 0
AreSettings [] words = words ≡ []
AreSettings (s ∷ settings) words = (rest : List (List ℕ)) × Begins s words rest × AreSettings settings rest

-- what a setting gives to each option
abbrev pub workers_of : Setting → List ℕ
workers_of (Workers n) = n ∷ []
workers_of (Table n) = []
workers_of (Steps n) = []
workers_of Certs = []

abbrev pub table_of : Setting → List ℕ
table_of (Workers n) = []
table_of (Table n) = n ∷ []
table_of (Steps n) = []
table_of Certs = []

abbrev pub steps_of : Setting → List ℕ
steps_of (Workers n) = []
steps_of (Table n) = []
steps_of (Steps n) = n ∷ []
steps_of Certs = []

abbrev pub certs_of : Setting → List Bool
certs_of (Workers n) = []
certs_of (Table n) = []
certs_of (Steps n) = []
certs_of Certs = true ∷ []

-- what several settings give to an option
abbrev pub given : {A : Type 0} → (Setting → List A) → List Setting → List A
given gives [] = []
given gives (s ∷ settings) = gives s ++ given gives settings

-- an option stands once, with its value, or not at all, and then has its default
abbrev pub IsGiven : {A : Type 0} → List A → A → A → Type 0
IsGiven values default value = ((values ≡ []) × (value ≡ default)) ⊎ (values ≡ value ∷ [])

-- ---- commands

-- the words after `fan`
pub record IsFan (words : List (List ℕ)) (workers table steps : ℕ) (certs : Bool) : Type 0 where
  pub settings : List Setting
  pub are : AreSettings settings words
  pub gives_workers : IsGiven (given workers_of settings) WORKERS_UNSET workers
  pub gives_table : IsGiven (given table_of settings) TABLE_UNSET table
  pub gives_steps : IsGiven (given steps_of settings) STEPS_UNSET steps
  pub gives_certs : IsGiven (given certs_of settings) false certs

-- the words after `faces`: `--steps` alone may stand there
pub record IsFaces (words : List (List ℕ)) (steps : ℕ) : Type 0 where
  pub settings : List Setting
  pub are : AreSettings settings words
  pub no_workers : given workers_of settings ≡ []
  pub no_table : given table_of settings ≡ []
  pub no_certs : given certs_of settings ≡ []
  pub gives_steps : IsGiven (given steps_of settings) STEPS_UNSET steps

-- the words after a question about the chambers: `--table` and `--steps` alone may stand there
pub record IsQuestion (words : List (List ℕ)) (table steps : ℕ) : Type 0 where
  pub settings : List Setting
  pub are : AreSettings settings words
  pub no_workers : given workers_of settings ≡ []
  pub no_certs : given certs_of settings ≡ []
  pub gives_table : IsGiven (given table_of settings) TABLE_UNSET table
  pub gives_steps : IsGiven (given steps_of settings) STEPS_UNSET steps

-- the words that name a sample
abbrev pub NamesSample : List (List ℕ) → Sample → Type 0
NamesSample words (Points n seed) = (first second : List ℕ) × (words ≡ codes "points" ∷ first ∷ second ∷ []) × IsNumberIn 3 16 first n × IsNumberWord second seed
NamesSample words (Plucker n) = (word : List ℕ) × (words ≡ codes "plucker" ∷ word ∷ []) × IsNumberIn 4 5 word n

-- `--run` stands last or not at all
abbrev pub run_words : Bool → List (List ℕ)
run_words true = codes "--run" ∷ []
run_words false = []

-- the words after `make`
pub record IsMake (words : List (List ℕ)) (sample : Sample) (run : Bool) : Type 0 where
  pub front : List (List ℕ)
  pub are : words ≡ front ++ run_words run
  pub names : NamesSample front sample

-- the words that stand after the command's own
abbrev pub IsCommandAfter : Command → List (List ℕ) → Type 0
IsCommandAfter (Fan workers table steps certs) rest = IsFan rest workers table steps certs
IsCommandAfter (Faces steps) rest = IsFaces rest steps
IsCommandAfter (Make sample run) rest = IsMake rest sample run
IsCommandAfter (AllCones table steps) rest = IsQuestion rest table steps
IsCommandAfter (Locate table steps) rest = IsQuestion rest table steps
IsCommandAfter (Bunch table steps) rest = IsQuestion rest table steps

abbrev pub command_word : Command → List ℕ
command_word (Fan workers table steps certs) = codes "fan"
command_word (Faces steps) = codes "faces"
command_word (Make sample run) = codes "make"
command_word (AllCones table steps) = codes "cones"
command_word (Locate table steps) = codes "locate"
command_word (Bunch table steps) = codes "bunch"

-- the words spell the command
pub record IsCommand (words : List (List ℕ)) (command : Command) : Type 0 where
  pub rest : List (List ℕ)
  pub begin : words ≡ command_word command ∷ rest
  pub after : IsCommandAfter command rest

-- ---- options that are kept while words are read

-- a flag as what it gives
abbrev pub flag : Bool → List Bool
flag true = true ∷ []
flag false = []

-- with some options set, the words set the others so that all are these
pub record Adds (before : Options) (words : List (List ℕ)) (after : Options) : Type 0 where
  pub settings : List Setting
  pub are : AreSettings settings words
  pub workers : option_to_list after.workers ≡ option_to_list before.workers ++ given workers_of settings
  pub table : option_to_list after.table ≡ option_to_list before.table ++ given table_of settings
  pub steps : option_to_list after.steps ≡ option_to_list before.steps ++ given steps_of settings
  pub certs : flag after.certs ≡ flag before.certs ++ given certs_of settings

-- one setting more
pub record AddsOne (before : Options) (setting : Setting) (after : Options) : Type 0 where
  pub workers : option_to_list after.workers ≡ option_to_list before.workers ++ workers_of setting
  pub table : option_to_list after.table ≡ option_to_list before.table ++ table_of setting
  pub steps : option_to_list after.steps ≡ option_to_list before.steps ++ steps_of setting
  pub certs : flag after.certs ≡ flag before.certs ++ certs_of setting

-- an option that is set already is set by the setting
abbrev pub IsTwice : Options → Setting → Type 0
IsTwice options setting =
    (2 ≤ length (option_to_list options.workers ++ workers_of setting)) ⊎ ((2 ≤ length (option_to_list options.table ++ table_of setting))
    ⊎ ((2 ≤ length (option_to_list options.steps ++ steps_of setting)) ⊎ (2 ≤ length (flag options.certs ++ certs_of setting))))

-- an option other than the steps is set
abbrev pub SetsMore : Options → Type 0
SetsMore options = (options.workers ≢ None) ⊎ ((options.table ≢ None) ⊎ (options.certs ≡ true))

-- an option of `fan` alone is set
abbrev pub SetsForFan : Options → Type 0
SetsForFan options = (options.workers ≢ None) ⊎ (options.certs ≡ true)
