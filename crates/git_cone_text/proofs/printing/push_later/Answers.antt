use Rattle.std.proofs.Common.{◌≡◌, ◌∙◌, ◌++◌, ◌+◌, ◌∷◌, [], List, ℕ, ap, append_assoc, arith, drop, map, suc, sym}
use Rattle.std.proofs.Math.Seq.{drop-cons}
use Rattle.std.specs.Fmt.{signed_decimal}
use Rattle.std.specs.List.{flat_map}
use Rattle.std.specs.String.{string_bytes}
use Rattle.git_defs.specs.Vectors.{Vector}
use Rattle.git_lines.specs.Printing.{after_spaces}
use Rattle.git_lines.proofs.SpacedLemmas.{after_spaces-append}
use Rattle.git_cone_text.specs.ConesText.{later_words, ray_words}
use Rattle.git_cone_text.proofs.printing.push_later.Goals as goal

written : (old new : List ℕ) (ray : Vector) (vs : List Vector) → new ≡ (old ++ 32 ∷ 59 ∷ []) ++ after_spaces (ray_words ray)
    → new ++ after_spaces (flat_map later_words vs) ≡ old ++ after_spaces (later_words ray ++ flat_map later_words vs)
written old new ray vs e = ap (λ (l : List ℕ). l ++ after_spaces (flat_map later_words vs)) e ∙ sym (ap (λ (l : List ℕ). old ++ l) (after_spaces-append (later_words ray) (flat_map later_words vs)) ∙ simp append_assoc)

pub loop-ray-preserved : goal.loop-ray-preserved
loop-ray-preserved c =
    let vs = c.args.rays.now in
    let i = c.loop-ray.ray-index in
    let ray = c.ray-item.result in
    let rest = drop (i + 1) vs in
    let next : suc i ≡ i + 1 = omega arith in
    let front : drop i vs ≡ ray ∷ rest = drop-cons vs i ray c.loop-ray-test.true ∙ (λ j. sym c.ray-item.is j ∷ drop (next j) vs) in
    let pushed : string_bytes c.push_entries.new.out ≡ (string_bytes c.loop-ray.out ++ 32 ∷ 59 ∷ []) ++ after_spaces (ray_words ray) =
    c.in_ok-push_entries.ensures ∙ (λ j. c.in_ok-push_str.ensures.bytes j ++ after_spaces (map signed_decimal (c.as_slice.ensures.value j))) in
    written (string_bytes c.loop-ray.out) (string_bytes c.push_entries.new.out) ray rest pushed
    ∙ ap (λ (l : List Vector). string_bytes c.loop-ray.out ++ after_spaces (flat_map later_words l)) (sym front) ∙ c.loop-ray.invariant
