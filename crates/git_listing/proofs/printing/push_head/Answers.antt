use Rattle.std.proofs.Common.{◌≡◌, ◌∙◌, ◌++◌, ◌∷◌, [], List, ℕ, ap, append_assoc, arith, length, map}
use Rattle.std.specs.Prelude.{codes}
use Rattle.std.specs.Fmt.{decimal}
use Rattle.std.specs.String.{string_bytes}
use Rattle.std.proofs.lemmas.List.{length-map}
use Rattle.git_lines.specs.Printing.{line_text, number_line}
use Rattle.git_listing.specs.Views.{chamber_of}
use Rattle.git_listing.proofs.printing.push_head.Goals as goal

pieces : (old a b c d : List ℕ) → (((old ++ a) ++ b) ++ c) ++ d ≡ old ++ (a ++ b ++ c ++ d)
pieces old a b c d = simp append_assoc

pub returns : goal.returns
returns c =
    let l = c.args.listing.now in
    let version = number_line (codes "gitfan-listing") l.version in
    let sizes = line_text (codes "grading" ∷ decimal l.k ∷ decimal l.r ∷ []) in
    let cones = number_line (codes "cones") l.cones in
    let count : c.len.result ≡ length (map chamber_of l.chambers.items) = let e = length-map l.chambers.items chamber_of in let h = c.len.ensures in omega (arith, e, h) in
    c.in_ok-push_number-3.ensures
    ∙ (λ i. (c.in_ok-push_number-2.ensures ∙ ap (λ (t : List ℕ). t ++ cones) (c.in_ok-push_sizes.ensures ∙ ap (λ (t : List ℕ). t ++ sizes) c.in_ok-push_number.ensures)) i ++ number_line (codes "chambers") (count i))
    ∙ pieces (string_bytes c.args.out.now) version sizes cones (number_line (codes "chambers") (length (map chamber_of l.chambers.items)))
