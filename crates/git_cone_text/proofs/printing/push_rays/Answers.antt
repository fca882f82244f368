use Rattle.std.proofs.Common.{◌≡◌, ◌∙◌, ◌++◌, ◌∷◌, List, ℕ, ap, append_assoc, map, sym}
use Rattle.std.specs.Fmt.{signed_decimal}
use Rattle.std.specs.List.{flat_map}
use Rattle.std.specs.String.{string_bytes}
use Rattle.git_defs.specs.Vectors.{Vector}
use Rattle.git_lines.specs.Printing.{after_spaces}
use Rattle.git_lines.proofs.SpacedLemmas.{after_spaces-append}
use Rattle.git_cone_text.specs.ConesText.{later_words, ray_words, rays_words}
use Rattle.git_cone_text.proofs.printing.push_rays.Goals as goal

written : (old new : List ℕ) (first : Vector) (later : List Vector) → new ≡ (old ++ after_spaces (ray_words first)) ++ after_spaces (flat_map later_words later)
    → new ≡ old ++ after_spaces (rays_words (first ∷ later))
written old new first later e = e ∙ append_assoc old (after_spaces (ray_words first)) (after_spaces (flat_map later_words later))
    ∙ sym (ap (λ (l : List ℕ). old ++ l) (after_spaces-append (ray_words first) (flat_map later_words later)))

pub returns : goal.returns
returns c =
    let old = string_bytes c.args.out.now in
    let first = c.in-Some.first.now in
    let later = c.in-Some.later.now in
    let all : c.args.rays.now ≡ first ∷ later = c.in-Some.ensures.cases.0 in
    written old (string_bytes c.push_later.new.out) first later (c.in_ok-push_later.ensures ∙ ap (λ (l : List ℕ). l ++ after_spaces (flat_map later_words later))
    (c.in_ok-push_entries.ensures ∙ (λ i. old ++ after_spaces (map signed_decimal (c.as_slice.ensures.value i)))))
    ∙ ap (λ (l : List Vector). old ++ after_spaces (rays_words l)) (sym all)
