use Rattle.std.proofs.lemmas.Result.{err_from_is_err_and}
use Rattle.git_listing.proofs.ListingTexts.{found_is, only_listing, only_memory, fault_is}
use Rattle.git_listing.proofs.reading.read.Goals as goal

pub returns-in_err-found-clause-only : goal.returns-in_err-found-clause-only
returns-in_err-found-clause-only c = λ l rest f is.
    let p = err_from_is_err_and c.from_residual.result c.from_residual.ensures.1 in
    rw (p.1, p.2) (only_memory _ c.args.bytes.now rest l c.in_err-found.ensures.reads f is)

pub returns-in_err-found-clause-fault : goal.returns-in_err-found-clause-fault
returns-in_err-found-clause-fault c =
    let p = err_from_is_err_and c.from_residual.result c.from_residual.ensures.1 in
    rw (p.1, p.2) (λ line kind is. fault_is _ c.args.bytes.now line kind c.in_err-found.ensures.reads is)

pub returns-clause-found : goal.returns-clause-found
returns-clause-found c = let f = found_is c.args.bytes.now _ _ _ c.in_ok-found.ensures.reads in (f.0, f.1, c.in_ok-found.ensures.within)

pub returns-clause-only : goal.returns-clause-only
returns-clause-only c = λ l rest f is. only_listing c.args.bytes.now rest l _ _ _ c.in_ok-found.ensures.reads c.in_ok-found.ensures.within f is
