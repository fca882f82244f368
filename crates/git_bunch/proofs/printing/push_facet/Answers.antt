use Rattle.std.proofs.Common.{◌≡◌, ◌∙◌, ◌++◌, ◌∷◌, [], List, ℕ, ap, append_assoc, sym}
use Rattle.std.specs.Prelude.{map, codes}
use Rattle.std.specs.Fmt.{decimal, signed_decimal}
use Rattle.std.specs.String.{string_bytes}
use Rattle.git_lines.specs.Printing.{after_spaces}
use Rattle.git_lines.proofs.SpacedLemmas.{after_spaces-append}
use Rattle.git_bunch.proofs.printing.push_facet.Goals as goal

pieces : (old word a b : List ℕ) → ((old ++ word) ++ a) ++ (b ++ 10 ∷ []) ≡ old ++ (word ++ (a ++ b) ++ 10 ∷ [])
pieces old word a b = simp append_assoc

pub returns : goal.returns
returns c =
    let normal = map signed_decimal c.args.normal.now in
    let side = codes "inner" ∷ decimal c.args.to ∷ [] in
    let end = after_spaces side ++ 10 ∷ [] in
    let line : string_bytes c.writeln.new.self ≡ string_bytes c.push_entries.new.out ++ end = c.in_ok-writeln.ensures.bytes ∙ simp append_assoc in
    line
    ∙ ap (λ (l : List ℕ). l ++ end) (c.in_ok-push_entries.ensures ∙ (λ i. c.in_ok-push_str.ensures.bytes i ++ after_spaces (map signed_decimal (c.as_slice.ensures.value i))))
    ∙ pieces (string_bytes c.args.out.now) (codes "facet") (after_spaces normal) (after_spaces side)
    ∙ ap (λ (l : List ℕ). string_bytes c.args.out.now ++ (codes "facet" ++ l ++ 10 ∷ [])) (sym (after_spaces-append normal side))
