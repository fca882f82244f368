use Rattle.std.proofs.Common.{rules, ◌≡◌, Ok}
use Rattle.std.specs.Prelude.{codes}
use Rattle.std.proofs.lemmas.Result.{err_from_is_err_and}
use Rattle.git_lines.specs.Views.{rest_of_text}
use Rattle.git_strictlines.specs.Reading.{next_by, number_line}
use Rattle.git_listing.proofs.ChamberSteps.{Begun, no_weight, no_mark, no_facets, chamber_is}
use Rattle.git_listing.proofs.chambers.chamber.Goals as goal

pub returns-in_err-weight-clause-reads : goal.returns-in_err-weight-clause-reads
returns-in_err-weight-clause-reads c =
    let p = err_from_is_err_and c.from_residual-in_err-weight.result c.from_residual-in_err-weight.ensures.1 in
    let n : next_by (number_line (codes "chamber") c.args.place c.args.place) (rest_of_text c.args.lines.now) ≡ Ok (c.in_ok-number.field-0, rest_of_text c.number.new.lines) = search rules in
    let b : Begun c.args.k c.args.place _ _ _ _ = record { number = _; numbered = n; has_rays = c.in_ok-rays.ensures.reads } in
    rw (p.1, p.2) (no_weight c.args.version c.args.k c.args.place _ _ _ _ _ b c.in_err-weight.ensures.reads)

pub returns-in_err-crossed-clause-reads : goal.returns-in_err-crossed-clause-reads
returns-in_err-crossed-clause-reads c =
    let p = err_from_is_err_and c.from_residual-in_err-crossed.result c.from_residual-in_err-crossed.ensures.1 in
    let n : next_by (number_line (codes "chamber") c.args.place c.args.place) (rest_of_text c.args.lines.now) ≡ Ok (c.in_ok-number.field-0, rest_of_text c.number.new.lines) = search rules in
    let b : Begun c.args.k c.args.place _ _ _ _ = record { number = _; numbered = n; has_rays = c.in_ok-rays.ensures.reads } in
    rw (p.1, p.2) (no_mark c.args.version c.args.k c.args.place _ _ _ _ _ _ _ b c.in_ok-weight.ensures.reads c.in_err-crossed.ensures.reads)

pub returns-in_err-facets-clause-reads : goal.returns-in_err-facets-clause-reads
returns-in_err-facets-clause-reads c =
    let p = err_from_is_err_and c.from_residual-in_err-facets.result c.from_residual-in_err-facets.ensures.1 in
    let n : next_by (number_line (codes "chamber") c.args.place c.args.place) (rest_of_text c.args.lines.now) ≡ Ok (c.in_ok-number.field-0, rest_of_text c.number.new.lines) = search rules in
    let b : Begun c.args.k c.args.place _ _ _ _ = record { number = _; numbered = n; has_rays = c.in_ok-rays.ensures.reads } in
    rw (p.1, p.2) (no_facets c.args.version c.args.k c.args.place _ _ _ _ _ _ _ _ _ b c.in_ok-weight.ensures.reads c.in_ok-crossed.ensures.reads c.in_err-facets.ensures.reads)

pub returns-clause-reads : goal.returns-clause-reads
returns-clause-reads c =
    let n : next_by (number_line (codes "chamber") c.args.place c.args.place) (rest_of_text c.args.lines.now) ≡ Ok (c.in_ok-number.field-0, rest_of_text c.number.new.lines) = search rules in
    let b : Begun c.args.k c.args.place _ _ _ _ = record { number = _; numbered = n; has_rays = c.in_ok-rays.ensures.reads } in
    chamber_is c.args.version c.args.k c.args.place _ _ _ _ _ _ _ _ _ _ b c.in_ok-weight.ensures.reads c.in_ok-crossed.ensures.reads c.in_ok-facets.ensures.reads
