use Rattle.std.proofs.Common.{rules, ◌≡◌, ◌-◌, length, refl}
use Rattle.std.proofs.lemmas.Result.{err_from_is_err_and}
use Rattle.git_text.proofs.Fronts.{head_used, found_front, only_front, only_full}
use Rattle.git_text.proofs.WholeTexts.{starts_whole}
use Rattle.git_text.proofs.input.read_input_front.Goals as goal

pub returns-in_err-input-clause-only : goal.returns-in_err-input-clause-only
returns-in_err-input-clause-only c = λ v used i.
    let p = err_from_is_err_and c.from_residual.result c.from_residual.ensures.1 in
    let start = starts_whole _ _ _ c.args.bytes.now c.new-lines.ensures.0 c.new-lines.ensures.1 c.new-lines.ensures.2 in
    rw (p.1, p.2) (only_full _ c.args.bytes.now _ v used start c.in_err-input.ensures i)

pub returns-clause-found : goal.returns-clause-found
returns-clause-found c =
    let start = starts_whole _ _ _ c.args.bytes.now c.new-lines.ensures.0 c.new-lines.ensures.1 c.new-lines.ensures.2 in
    let sub : c.saturating_sub.result ≡ length c.args.bytes.now - (length c.front.new.lines.bytes.now - c.front.new.lines.at) = search rules in
    let used = head_used c.args.bytes.now c.front.new.lines.bytes.now c.front.new.lines.line c.front.new.lines.at _ c.saturating_sub.result c.front.new.lines.within refl sub in
    found_front c.args.bytes.now _ _ c.in_ok-input.input c.saturating_sub.result start c.in_ok-input.ensures used

pub returns-clause-only : goal.returns-clause-only
returns-clause-only c = λ v used2 i.
    let start = starts_whole _ _ _ c.args.bytes.now c.new-lines.ensures.0 c.new-lines.ensures.1 c.new-lines.ensures.2 in
    let sub : c.saturating_sub.result ≡ length c.args.bytes.now - (length c.front.new.lines.bytes.now - c.front.new.lines.at) = search rules in
    let used = head_used c.args.bytes.now c.front.new.lines.bytes.now c.front.new.lines.line c.front.new.lines.at _ c.saturating_sub.result c.front.new.lines.within refl sub in
    only_front c.args.bytes.now _ _ c.in_ok-input.input v c.saturating_sub.result used2 start c.in_ok-input.ensures used i
