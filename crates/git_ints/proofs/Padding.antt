-- A front copied into six zeros.
use Rattle.std.proofs.Common.{◌≡◌, ◌≤◌, [], ◌∷◌, ◌++◌, length, take, drop, refl, sym, ◌∙◌, ap, arith}
use Rattle.std.specs.Prelude.{replicate}
use Rattle.std.proofs.Math.IntN.{pos}
use Rattle.std.proofs.lemmas.List.{take_at}
use Rattle.git_defs.specs.Vectors.{Vector}
use Rattle.git_ints.specs.Padded.{padded}

filled : (v : Vector) → length v ≤ 6 → v ++ drop (length v) (replicate 6 (pos 0)) ≡ padded v
filled [] h = refl
filled (a ∷ []) h = refl
filled (a ∷ b ∷ []) h = refl
filled (a ∷ b ∷ c ∷ []) h = refl
filled (a ∷ b ∷ c ∷ d ∷ []) h = refl
filled (a ∷ b ∷ c ∷ d ∷ e ∷ []) h = refl
filled (a ∷ b ∷ c ∷ d ∷ e ∷ f ∷ []) h = refl
filled (a ∷ b ∷ c ∷ d ∷ e ∷ f ∷ g ∷ v) h = absurd (omega arith)

pub front_padded : (v copied : Vector) → copied ≡ v → length v ≤ 6
    → copied ++ drop (length v) (replicate 6 (pos 0)) ≡ padded (take (length v) (copied ++ drop (length v) (replicate 6 (pos 0))))
front_padded v copied is few =
    let z = drop (length v) (replicate 6 (pos 0)) in
    let front : take (length v) (copied ++ z) ≡ v = take_at copied z (length v) (ap length is) ∙ is in
    ap (λ (l : Vector). l ++ z) is ∙ filled v few ∙ ap padded (sym front)
