use Rattle.std.proofs.Common.{◌≡◌, ◌∙◌, ◌+◌, ◌-◌, ◌<◌, ◌++◌, ◌∷◌, [], Global, List, Vec, ap, arith, get_or, length, subst, sym, ℕ}
use Rattle.std.specs.Prelude.{Contains}
use Rattle.git_bits.specs.Bits.{IsWithin}
use Rattle.git_bunch.proofs.Within.{IsCovered, Sifting, sifted_all, sifting_covered, sifting_kept}
use Rattle.git_bunch.proofs.masks.sifted.Goals.{then-not-contains_one+in_ok-add, else-not-contains_one}
use Rattle.git_bunch.proofs.masks.sifted.Goals as goal

pub returns : goal.returns
returns c =
    let xs = c.args.list.now in
    let z : length xs - c.loop-j.j ≡ 0 = omega (arith, c.loop-j-test.false) in
    sifted_all xs c.loop-j.out.items (subst (λ (n : ℕ). Sifting xs n c.loop-j.out.items) z c.loop-j.invariant)

-- what the question to the masks that were kept tells of the mask at a place
covered_at : (kept asked xs : List ℕ) (i p : ℕ) → asked ≡ kept → get_or xs p 0 ≡ get_or xs i 0 → (n : ℕ) × Contains asked n × IsWithin n (get_or xs p 0) → IsCovered kept (get_or xs i 0)
covered_at kept asked xs i p list at h = (h.0, subst (λ (l : List ℕ). Contains l h.0) list h.1, subst (IsWithin h.0) at h.2)

uncovered_at : (kept asked xs : List ℕ) (i p : ℕ) → asked ≡ kept → get_or xs p 0 ≡ get_or xs i 0 → IsCovered kept (get_or xs i 0) → (n : ℕ) × Contains asked n × IsWithin n (get_or xs p 0)
uncovered_at kept asked xs i p list at h = (h.0, subst (λ (l : List ℕ). Contains l h.0) (sym list) h.1, subst (IsWithin h.0) (sym at) h.2)

pub loop-j-preserved : goal.loop-j-preserved
loop-j-preserved c =
    let xs = c.args.list.now in
    let j = c.loop-j.j in
    let kept = c.loop-j.out.items in
    let low = c.loop-j-test.true in
    let i : ℕ = length xs - (j + 1) in
    let p : ℕ = length xs - 1 - j in
    let asked = c.deref.result.now in
    let list = c.deref.ensures.value in
    let step : length xs - j ≡ length xs - (j + 1) + 1 = omega (arith, low) in
    let within : length xs - (j + 1) < length xs = omega (arith, low) in
    let place : length xs - 1 - j ≡ length xs - (j + 1) = omega arith in
    let at : get_or xs p 0 ≡ get_or xs i 0 = ap (λ (n : ℕ). get_or xs n 0) place in
    elim c.if-not-contains_one.branch [
      | then-not-contains_one+in_ok-add w ↦
          let none = w.if-not-contains_one.true in
          let items : c.if-not-contains_one.out.items ≡ kept ++ get_or xs i 0 ∷ [] = ap (λ (v : Vec ℕ Global). v.items) w.out-is ∙ w.in_ok-add.ensures ∙ ap (λ (m : ℕ). kept ++ m ∷ []) at in
          subst (Sifting xs i) (sym items) (sifting_kept xs i (length xs - j) kept c.requires within step
          (λ h. let e = c.contains_one.ensures.1 (uncovered_at kept asked xs i p list at h) in cc (e, none)) c.loop-j.invariant)
      | else-not-contains_one w ↦
          let some = w.if-not-contains_one.false in
          subst (λ (v : Vec ℕ Global). Sifting xs i v.items) (sym w.out-is) (sifting_covered xs i (length xs - j) kept step
          (covered_at kept asked xs i p list at (c.contains_one.ensures.0 some)) c.loop-j.invariant)
    ]
