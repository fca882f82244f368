-- What the steps of a take tell, over plain variables.
use Rattle.std.proofs.Common.{◌≡◌, ◌≢◌, ℕ, suc, ◌+◌, ◌<◌, ◌≤◌, List, ◌∷◌, ◌++◌, refl, ap, ◌∙◌, subst, arith, Some, None}
use mathlib.Core.Option.{none}
use native.Mathlib.Decide.{dec_lt}
use Rattle.atomic_table.specs.Table.{Me, step}
use Rattle.git_visits.specs.declared.view.Known.{Known}
use Rattle.git_visits.specs.declared.view.Post.{Post}
use Rattle.git_visits.specs.declared.view.Post.TheVariants.{Held}
use Rattle.git_visits.specs.Visits.{records, state_at, live_at}
use Rattle.git_visits.specs.Seats.{HasIn}
use Rattle.git_visits.specs.Plays as plays
use Rattle.git_table.specs.Takes.{Looks, NotStopped, Scanned}

module _ {G : Type 0} where
  pub looked_one : (slots i n : ℕ) (m m' : Me (Unit {0}) (Post G)) → plays.looked (step slots i 0 0 none) m n m' → (v : Known G) (added : List (ℕ × ℕ)) → m.0 ≡ Held (Looks v added) → m'.0 ≡ Held (Looks v ((i, n) ∷ added))
  looked_one slots i n m m' told v added is = let t = told.1 (Looks v added) is in t.1 ∙ ap (λ (u : Known G). Held u) t.2

  pub took_hit : (slots i n id : ℕ) (m m' : Me (Unit {0}) (Post G)) → plays.took (step slots i 1 2 none) m n m' → (v : Known G) (added : List (ℕ × ℕ)) → m.0 ≡ Held (Looks v added) → i ≡ state_at v.key id → n ≡ 1
      → m'.0 ≡ Held (record v { work = record v.work { hand = Some id }; looks = (state_at v.key id, 1) ∷ (added ++ v.looks) })
  took_hit slots i n id m m' told v added is at one =
      let t = told.1 (Looks v added) is in t.1 ∙ (ap (λ (u : Known G). Held u) ((t.2 id at).0 one) ∙ ap (λ (p : ℕ × ℕ). Held (record v { work = record v.work { hand = Some id }; looks = p ∷ (added ++ v.looks) })) (λ j. (at j, one j)))

  pub took_miss : (slots i n id : ℕ) (m m' : Me (Unit {0}) (Post G)) → plays.took (step slots i 1 2 none) m n m' → (v : Known G) (added : List (ℕ × ℕ)) → m.0 ≡ Held (Looks v added) → i ≡ state_at v.key id → n ≢ 1
      → m'.0 ≡ Held (Looks v ((state_at v.key id, n) ∷ added))
  took_miss slots i n id m m' told v added is at other =
      let t = told.1 (Looks v added) is in t.1 ∙ (ap (λ (u : Known G). Held u) ((t.2 id at).1 other) ∙ ap (λ (j : ℕ). Held (record v { looks = (j, n) ∷ (added ++ v.looks) })) at)

  pub scanned_start : (v : Known G) (n lo : ℕ) (added : List (ℕ × ℕ)) → ((q : ℕ) → lo ≤ q → q < n → q < records v.key → ⊥) → NotStopped v added → Scanned v n lo ((0, n) ∷ added)
  scanned_start v n lo added nobody going = ((0, refl), (λ q a b c. absurd (nobody q a b c)), (going.0, going.1, (suc going.2.0, going.2.1)))

  pub scanned_more : (v : Known G) (n lo x : ℕ) (added : List (ℕ × ℕ)) → Scanned v n (lo + 1) added → x ≢ 1 → Scanned v n lo ((state_at v.key lo, x) ∷ added)
  scanned_more v n lo x added s other = ((suc s.0.0, s.0.1), (λ q a b c. by q a b c (dec_lt lo q)), let going : NotStopped v added = s.2 in (going.0, going.1, (suc going.2.0, going.2.1)))
    where
      by : (q : ℕ) → lo ≤ q → q < n → q < records v.key → Dec (lo < q) → (y : ℕ) × (y ≢ 1) × HasIn ((state_at v.key lo, x) ∷ added) (state_at v.key q) y
      by q a b c (yes l) = let o = s.1 q (omega arith) b c in (o.0, o.1, (suc o.2.0, o.2.1))
      by q a b c (no l) = let e : lo ≡ q = omega arith in (x, other, subst (λ (k : ℕ). HasIn ((state_at v.key lo, x) ∷ added) (state_at v.key k) x) e (0, refl))

  pub quieted_zero : (slots i n : ℕ) (m m' : Me (Unit {0}) (Post G)) → plays.quieted (step slots i 0 0 none) m n m' → (v : Known G) (added : List (ℕ × ℕ)) → m.0 ≡ Held (Looks v added) → i ≡ live_at v.key → n ≡ 0
      → m'.0 ≡ Held (record v { work = record v.work { quiet = 1 }; looks = (live_at v.key, 0) ∷ (added ++ v.looks) })
  quieted_zero slots i n m m' told v added is at z =
      let t = told.1 (Looks v added) is in t.1 ∙ (ap (λ (u : Known G). Held u) (t.2.0 z) ∙ ap (λ (p : ℕ × ℕ). Held (record v { work = record v.work { quiet = 1 }; looks = p ∷ (added ++ v.looks) })) (λ j. (at j, z j)))

  pub quieted_not : (slots i n : ℕ) (m m' : Me (Unit {0}) (Post G)) → plays.quieted (step slots i 0 0 none) m n m' → (v : Known G) (added : List (ℕ × ℕ)) → m.0 ≡ Held (Looks v added) → i ≡ live_at v.key → n ≢ 0
      → m'.0 ≡ Held (Looks v ((live_at v.key, n) ∷ added))
  quieted_not slots i n m m' told v added is at o =
      let t = told.1 (Looks v added) is in t.1 ∙ (ap (λ (u : Known G). Held u) (t.2.1 o) ∙ ap (λ (j : ℕ). Held (record v { looks = (j, n) ∷ (added ++ v.looks) })) at)

  pub finished_one : (slots i n id : ℕ) (m m' : Me (Unit {0}) (Post G)) → plays.finished (step slots i 3 0 none) m n m' → (v : Known G) → m.0 ≡ Held v → v.work.hand ≡ Some id
      → m'.0 ≡ Held (record v { work = record v.work { hand = None; owes = 1; mine = id ∷ v.work.mine } })
  finished_one slots i n id m m' told v is held = let t = told.1 v is in t.1 ∙ ap (λ (u : Known G). Held u) (t.2 id held)

  pub lowered_one : (slots i n : ℕ) (m m' : Me (Unit {0}) (Post G)) → plays.lowered (step slots i 1 0 none) m n m' → (v : Known G) → m.0 ≡ Held v → m'.0 ≡ Held (record v { work = record v.work { owes = 0 } })
  lowered_one slots i n m m' told v is = let t = told.1 v is in t.1 ∙ ap (λ (u : Known G). Held u) t.2

  pub stopped_one : (slots i n : ℕ) (m m' : Me (Unit {0}) (Post G)) → plays.stopped (step slots i 1 0 none) m n m' → (v : Known G) → m.0 ≡ Held v → m'.0 ≡ Held (record v { work = record v.work { halted = 1 } })
  stopped_one slots i n m m' told v is = let t = told.1 v is in t.1 ∙ ap (λ (u : Known G). Held u) t.2
