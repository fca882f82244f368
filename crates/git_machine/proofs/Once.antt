-- A list with nothing twice is no longer than a list that has all of it.
use Rattle.std.proofs.Common.{◌≡◌, ◌≢◌, inl, inr, ℕ, zero, suc, ◌+◌, ◌<◌, ◌≤◌, List, [], ◌∷◌, length, get_or, refl, sym, ap, ◌∙◌, subst, arith}
use Rattle.std.specs.List.{All, Contains}
use Rattle.std.proofs.lemmas.Bool.{cases_eq}
use Rattle.git_machine.specs.Reach.{IsOnce, IsReach, ReachExceeds}
use Rattle.git_machine.proofs.Written.{same_read}

module _ {X : Type 0} where
  -- the list without its member at k
  without : List X → ℕ → List X
  without [] k = []
  without (y ∷ ys) zero = ys
  without (y ∷ ys) (suc k) = y ∷ without ys k

  length-without : (ys : List X) (k : ℕ) → k < length ys → length (without ys k) + 1 ≡ length ys
  unfolding without
  length-without [] k low = absurd (omega arith)
  length-without (y ∷ ys) zero low = omega arith
  length-without (y ∷ ys) (suc k) low = let rest = length-without ys k (omega arith) in omega arith

  in_front : (y : X) (ys : List X) (z : X) → Contains ys z → Contains (y ∷ ys) z
  in_front y ys z (i, low, is) = (suc i, omega arith, is)

  -- what stands at another place is still there
  stays : (ys : List X) (k i : ℕ) (z : X) → i < length ys → get_or ys i z ≡ z → i ≢ k → Contains (without ys k) z
  unfolding without
  stays [] k i z low is apart = absurd (omega arith)
  stays (y ∷ ys) zero zero z low is apart = absurd (apart refl)
  stays (y ∷ ys) zero (suc i) z low is apart = (i, omega arith, is)
  stays (y ∷ ys) (suc k) zero z low is apart = (0, omega arith, is)
  stays (y ∷ ys) (suc k) (suc i) z low is apart = in_front y (without ys k) z (stays ys k i z (omega arith) is (λ e. apart (ap suc e)))

  pub tail_once : (x : X) (xs : List X) → IsOnce (x ∷ xs) → IsOnce xs
  tail_once x xs once i j d less low = once (suc i) (suc j) d (omega arith) (omega arith)

  pub once_fits : (xs ys : List X) → IsOnce xs → All (Contains ys) xs → length xs ≤ length ys
  once_fits [] ys once all = omega arith
  once_fits (x ∷ xs) ys once all =
      let at = all 0 x (omega arith) in
      let k : ℕ = at.0 in
      let rest : All (Contains (without ys k)) xs = λ j d low.
      let z : X = get_or xs j d in
      let there = all (suc j) d (omega arith) in
      let apart : there.0 ≢ at.0 = λ same.
      let a : get_or ys at.0 x ≡ x = at.2 in
      let b : get_or ys at.0 z ≡ z = subst (λ (m : ℕ). get_or ys m z ≡ z) same there.2 in
      let both : x ≡ z = sym a ∙ (same_read ys at.0 x z at.1 ∙ b) in
      once 0 (suc j) d (omega arith) (omega arith) both in
      stays ys k there.0 z there.1 there.2 apart in
      let shorter = once_fits xs (without ys k) (tail_once x xs once) rest in
      let less = length-without ys k at.1 in omega arith

  -- a list that has all of one with nothing twice, and is no longer, has nothing twice
  pub once_again : (xs ys : List X) → IsOnce xs → All (Contains ys) xs → length ys ≤ length xs → IsOnce ys
  once_again xs ys once all short i j d less low same =
      let y : X = get_or ys j d in
      let rest : All (Contains (without ys j)) xs = λ m e within.
      let z : X = get_or xs m e in
      let there = all m e within in
      elim (cases_eq there.0 j) [
        | inr apart ↦ stays ys j there.0 z there.1 there.2 apart
        | inl at ↦
            let b : get_or ys j z ≡ z = subst (λ (n : ℕ). get_or ys n z ≡ z) at there.2 in
            let first : get_or ys i z ≡ z = same_read ys i z d (omega arith) ∙ (same ∙ (same_read ys j d z low ∙ b)) in
            stays ys j i z (omega arith) first (λ e'. omega arith)
      ] in
      let fits = once_fits xs (without ys j) once rest in
      let less' = length-without ys j low in absurd (omega arith)

-- a list of the reach is as long as the reach is large
pub reach_exceeds : {X : Type 0} (next : X → List X → Type 0) (first : X) (xs : List X) (cap : ℕ) → IsReach next first xs → ReachExceeds next first cap → cap < length xs
reach_exceeds next first xs cap reach more = let fits = once_fits more.some xs more.once (λ j d low. reach.complete (get_or more.some j d) (more.reached j d low)) in let many = more.many in omega arith
