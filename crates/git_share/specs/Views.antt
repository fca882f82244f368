-- What contracts see of a member's hints.
use Rattle.std.specs.Prelude.{◌≡◌, ◌⊎◌, ℕ, ◌+◌, ◌≤◌, List, [], ◌∷◌, ◌==◌, Option, Some, None, refl, if◌then◌else◌}
use Rattle.std.specs.Coded.{Coded, code_by, coded×, coded_ℕ, coded_list, coded_option}
use Rattle.std.specs.List.{All}
use Rattle.crossbeam_deque.specs.Handles.{view, IsPassOf, stealer_deque}
use Rattle.git_share.specs.declared.rule.Told.{Told}
use Rattle.git_share.specs.declared.thief.Thief.{Thief}

-- room: the ids are below it. pushed: how many pushes there were. capacity: how many of them were promised to succeed. queue: what the member's deque holds, the next first, and none where others have a part in it or the member in theirs
pub record HintsView : Type 0 where
  pub room : ℕ
  pub pushed : ℕ
  pub capacity : ℕ
  pub queue : Option (List ℕ)

abbrev pub hints_code : Coded HintsView
hints_code =
    code_by (ℕ × (ℕ × (ℕ × Option (List ℕ)))) (coded× coded_ℕ (coded× coded_ℕ (coded× coded_ℕ (coded_option (coded_list coded_ℕ)))))
    (λ h. (h.room, (h.pushed, (h.capacity, h.queue)))) (λ p. record { room = p.0; pushed = p.1.0; capacity = p.1.1.0; queue = p.1.1.1 }) (λ _. refl)

abbrev pub queue_of : Told → List Thief → Option (List ℕ)
queue_of v [] = if v.alone == 1 then Some v.left else None
queue_of v (t ∷ ts) = None

-- it may take from a deque with this room
pub record IsThief (room : ℕ) (t : Thief) : Type 0 where
  pub of : IsPassOf (stealer_deque t.stealer) t.pass
  pub told : (view t.pass).room ≡ room

-- a member at the start
pub record IsNew (room : ℕ) (h : HintsView) : Type 0 where
  pub room_is : h.room ≡ room
  pub unpushed : h.pushed ≡ 0
  pub roomy : (room ≤ h.capacity) ⊎ (1023 ≤ h.capacity)

-- what holds of a member between two calls: of its deque's flavour, of what it knows, and of the index and the slots of the deque
pub record IsHints (flavour : ℕ) (told : Told) (index slots : ℕ) (others : List Thief) (room pushed capacity : ℕ) : Type 0 where
  pub fifo : flavour ≡ 0
  pub told_is : told.room ≡ room
  pub counted : index ≤ pushed + 1
  pub roomy : capacity + 1 ≤ slots
  pub thieves : All (IsThief room) others
