-- What a seat keeps beside its view: the numbers of its spare records, and its hand.
use Rattle.std.specs.Prelude.{ℕ, List, [], ◌∷◌, Option, Some, None}
use Rattle.git_table.specs.declared.answers.Taken.{Taken}
use Rattle.git_table.specs.declared.answers.Taken.TheVariants as taken
use Rattle.git_table.specs.declared.answers.Hinted.{Hinted}
use Rattle.git_table.specs.declared.answers.Hinted.TheVariants as hinted

abbrev pub option_list : Option ℕ → List ℕ
option_list None = []
option_list (Some n) = n ∷ []

abbrev pub front_number : List ℕ → Option ℕ
front_number [] = None
front_number (n ∷ ns) = Some n

-- the hand after a take, and after a hint was taken
abbrev pub hand_taken : Taken → Option ℕ
hand_taken (taken.Work id) = Some id
hand_taken taken.NotYet = None
hand_taken taken.Quiet = None
hand_taken taken.Halted = None

abbrev pub hand_hinted : Hinted → Option ℕ
hand_hinted (hinted.Work id) = Some id
hand_hinted hinted.Gone = None
