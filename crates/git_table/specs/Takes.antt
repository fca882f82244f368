-- What a take says. Its own looks are those in front of the old ones.
use Rattle.std.specs.Prelude.{◌≡◌, ◌≢◌, ◌↔◌, ℕ, ◌+◌, ◌<◌, ◌≤◌, List, [], ◌∷◌, ◌++◌, Some, Bool, IsTrue}
use Rattle.git_visits.specs.declared.view.Known.{Known}
use Rattle.git_visits.specs.declared.view.Post.{Post}
use Rattle.git_visits.specs.declared.view.Post.TheVariants.{Held}
use Rattle.git_table.specs.declared.answers.Taken.{Taken}
use Rattle.git_table.specs.declared.answers.Taken.TheVariants as taken
use Rattle.git_table.specs.declared.answers.Hinted.{Hinted}
use Rattle.git_table.specs.declared.answers.Hinted.TheVariants as hinted
use Rattle.git_visits.specs.Seats.{HasIn}
use Rattle.git_visits.specs.Visits.{records, state_at, live_at, stop_at}

module _ {G : Type 0} where
  -- the view with more looks
  abbrev pub Looks : Known G → List (ℕ × ℕ) → Known G
  Looks v added = record v { looks = added ++ v.looks }

  -- STOP was read, and wasn't 1
  abbrev pub NotStopped : Known G → List (ℕ × ℕ) → Type 0
  NotStopped v added = (y : ℕ) × (y ≢ 1) × HasIn added (stop_at v.key) y

  -- STOP wasn't 1, NEXT was n, and each record from lo on that is below n wasn't queued at its step
  abbrev pub Scanned : Known G → ℕ → ℕ → List (ℕ × ℕ) → Type 0
  Scanned v n lo added = HasIn added 0 n × ((q : ℕ) → lo ≤ q → q < n → q < records v.key → (x : ℕ) × (x ≢ 1) × HasIn added (state_at v.key q) x) × NotStopped v added

  abbrev pub HintSays : Known G → Post G → ℕ → Hinted → Type 0
  HintSays v p id (hinted.Work n) = (n ≡ id) × (p ≡ Held (record v { work = record v.work { hand = Some n }; looks = (state_at v.key n, 1) ∷ v.looks }))
  HintSays v p id hinted.Gone = (x : ℕ) × (x ≢ 1) × (p ≡ Held (Looks v ((state_at v.key id, x) ∷ [])))

  abbrev pub StopSays : Known G → Post G → Bool → Type 0
  StopSays v p r = (y : ℕ) × (IsTrue r ↔ (y ≡ 1)) × (p ≡ Held (Looks v ((stop_at v.key, y) ∷ [])))

  abbrev pub TakeSays : Known G → Post G → Taken → Type 0
  TakeSays v p (taken.Work id) = (n : ℕ) × (added : List (ℕ × ℕ)) × Scanned v n (id + 1) added × (id < records v.key) × (p ≡ Held (record v { work = record v.work { hand = Some id }; looks = (state_at v.key id, 1) ∷ (added ++ v.looks) }))
  TakeSays v p taken.NotYet = (n y : ℕ) × (added : List (ℕ × ℕ)) × Scanned v n 0 added × (y ≢ 0) × (p ≡ Held (Looks v ((live_at v.key, y) ∷ added)))
  TakeSays v p taken.Quiet = (added : List (ℕ × ℕ)) × (p ≡ Held (record v { work = record v.work { quiet = 1 }; looks = (live_at v.key, 0) ∷ (added ++ v.looks) }))
  TakeSays v p taken.Halted = p ≡ Held (Looks v ((stop_at v.key, 1) ∷ []))
