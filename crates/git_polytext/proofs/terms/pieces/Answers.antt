use Rattle.std.proofs.Common.{sym, ◌∙◌}
use Rattle.git_polytext.proofs.Columns.{blank_by, sign_by, skipped, kept}
use Rattle.git_polytext.proofs.terms.pieces.Goals as goal

pub returns-in_default-peek_token : goal.returns-in_default-peek_token
returns-in_default-peek_token c =
    let blank = blank_by 1 c.in-Some.first.column c.in-Some.first.text.now _ c.new-signs.ensures c.in_default-peek_token.ensures.none in
    skipped _ _ _ (sym c.new-later.ensures ∙ c.in-Some.ensures.some) blank (λ n. let empty = c.is_empty.ensures.1 n in cc (empty, c.if-is_empty.false))

pub returns : goal.returns
returns c =
    let some = sign_by 1 c.in-Some.first.column c.in-Some.first.text.now _ _ c.new-signs.ensures c.in-Some-peek_token.ensures.some in
    c.new-whole.ensures ∙ kept _ _ _ (sym c.new-later.ensures ∙ c.in-Some.ensures.some) some
