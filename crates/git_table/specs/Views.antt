-- What contracts see of a frontier and of its seats.
use Rattle.std.specs.Prelude.{◌≡◌, ℕ, zero, suc, ◌+◌, ◌<◌, ◌≤◌, List, [], ◌∷◌, map, length, slice_index, Option, Some, None, refl}
use Rattle.std.specs.Coded.{Coded, code_by, coded×, coded_ℕ, coded_list, coded_option}
use mathlib.Core.Option.{some}
use lib.ListN.{get_elem?}
use Rattle.atomic_table.specs.Seated.{TableId, table_id_coded}
use Rattle.atomic_table.specs.declared.shared.Seat.{Seat}
use Rattle.git_limits.specs.declared.TheConstants.{WORKERS}
use Rattle.git_machine.specs.Signatures.{Signature}
use Rattle.git_visits.specs.declared.view.Key.{Key}
use Rattle.git_visits.specs.declared.view.Known.{Known}
use Rattle.git_visits.specs.declared.view.Post.{Post}
use Rattle.git_visits.specs.declared.view.Post.TheVariants.{Spent, Held}
use Rattle.git_visits.specs.Visits.{records, HasSeen}
use Rattle.git_visits.specs.Seats.{Rests}

-- which frontier it is, and what it was made with
pub record FrontierView (G : Type 0) : Type 0 where
  pub identity : TableId
  pub graph : G
  pub first : Signature
  pub cap : ℕ
  pub workers : ℕ

-- frontier: none where the seat is spent. hand: the id that it has taken and not finished. seen: ids with their signatures. looks: what its draws, exchanges and loads gave that answers rest on, the last first, each with the number of its word. The marks are 1 once they are set
pub record SeatView (G : Type 0) : Type 0 where
  pub frontier : Option (FrontierView G)
  pub places : ℕ
  pub hand : Option ℕ
  pub seen : List (ℕ × Signature)
  pub finished : List ℕ
  pub looks : List (ℕ × ℕ)
  pub full : ℕ
  pub quiet : ℕ
  pub halted : ℕ

-- the first n of a list, the last of them first
abbrev pub stacked : List ℕ → ℕ → List ℕ
stacked xs zero = []
stacked xs (suc n) = slice_index xs n ∷ stacked xs n

module _ {G : Type 0} where
  abbrev pub frontier_code : Coded G → Coded (FrontierView G)
  frontier_code c =
      code_by (TableId × (G × (Signature × (ℕ × ℕ)))) (coded× table_id_coded (coded× c (coded× (coded_list coded_ℕ) (coded× coded_ℕ coded_ℕ))))
      (λ e. (e.identity, (e.graph, (e.first, (e.cap, e.workers))))) (λ p. record { identity = p.0; graph = p.1.0; first = p.1.1.0; cap = p.1.1.1.0; workers = p.1.1.1.1 }) (λ _. refl)

  abbrev pub seat_code : Coded G → Coded (SeatView G)
  seat_code c =
      code_by (Option (FrontierView G) × (ℕ × (Option ℕ × (List (ℕ × Signature) × (List ℕ × (List (ℕ × ℕ) × (ℕ × (ℕ × ℕ))))))))
      (coded× (coded_option (frontier_code c)) (coded× coded_ℕ (coded× (coded_option coded_ℕ) (coded× (coded_list (coded× coded_ℕ (coded_list coded_ℕ))) (coded× (coded_list coded_ℕ) (coded× (coded_list (coded× coded_ℕ coded_ℕ)) (coded× coded_ℕ (coded× coded_ℕ coded_ℕ))))))))
      (λ e. (e.frontier, (e.places, (e.hand, (e.seen, (e.finished, (e.looks, (e.full, (e.quiet, e.halted)))))))))
      (λ p. record { frontier = p.0; places = p.1.0; hand = p.1.1.0; seen = p.1.1.1.0; finished = p.1.1.1.1.0; looks = p.1.1.1.1.1.0; full = p.1.1.1.1.1.1.0; quiet = p.1.1.1.1.1.1.1.0; halted = p.1.1.1.1.1.1.1.1 }) (λ _. refl)

  abbrev pub frontier_view : TableId → Key G → FrontierView G
  frontier_view z k = record { identity = z; graph = k.graph.value; first = k.first.value; cap = k.cap; workers = k.workers }

  abbrev pub known_view : TableId → Known G → SeatView G
  known_view z v = record {
    frontier = Some (frontier_view z v.key);
    places = v.places;
    hand = v.work.hand;
    seen = v.seen;
    finished = v.work.mine;
    looks = v.looks;
    full = v.full;
    quiet = v.work.quiet;
    halted = v.work.halted;
  }

  abbrev pub post_view : TableId → Post G → SeatView G
  post_view z Spent = record { frontier = None; places = 0; hand = None; seen = []; finished = []; looks = []; full = 0; quiet = 0; halted = 0 }
  post_view z (Held v) = known_view z v

  -- the width and the number of hash words are those of the first signature and of the records
  pub record IsKey (k : Key G) : Type 0 where
    pub width : k.width ≡ length k.first.value
    pub hashes : k.hashes ≡ k.cap + k.workers + 1

  pub record IsFrontier (legal : G → Signature → Type 0) (k : Key G) : Type 0 where
    pub key_is : IsKey k
    pub first_legal : legal k.graph.value k.first.value

  -- what holds of each seat between two calls
  pub record IsSeat (legal : G → Signature → Type 0) (raw : Seat (Unit {0}) (Post G)) (spares : List ℕ) (count : ℕ) (hand : Option ℕ) : Type 0 where
    pub known : Known G
    pub is : raw.me.0 ≡ Held known
    pub bare : raw.me.1 ≡ []
    pub few : count ≤ WORKERS
    pub stack : map (λ p. p.0) known.spares ≡ stacked spares count
    pub spares_fit : (k r : ℕ) (xs : Signature) → get_elem? known.spares k ≡ some (r, xs) → (length xs ≡ known.key.width) × (r < records known.key)
    pub rests : Rests known
    pub hand_is : known.work.hand ≡ hand
    pub hand_low : (id : ℕ) → hand ≡ Some id → id < records known.key
    pub seen_fit : (q : ℕ) (x : Signature) → HasSeen known q x → (q < records known.key) × legal known.key.graph.value x
    pub key_is : IsKey known.key
