use Rattle.std.proofs.lemmas.Result.{err_from_is_err_and}
use Rattle.git_weights.proofs.Answers.{fault_is, first_is, no_fault, one_list, only_memory}
use Rattle.git_weights.proofs.ExactText.{takes}
use Rattle.git_weights.proofs.reading.read_weights.Goals as goal

pub returns-in_err-weights-clause-only : goal.returns-in_err-weights-clause-only
returns-in_err-weights-clause-only c = λ vs w.
    let p = err_from_is_err_and c.from_residual.result c.from_residual.ensures.1 in
    rw (p.1, p.2) (only_memory c.args.k c.args.bytes.now _ vs c.in_err-weights.ensures w)

pub returns-in_err-weights-clause-fault : goal.returns-in_err-weights-clause-fault
returns-in_err-weights-clause-fault c =
    let p = err_from_is_err_and c.from_residual.result c.from_residual.ensures.1 in
    rw (p.1, p.2) (λ line column kind is. fault_is c.args.k c.args.bytes.now _ line column kind c.in_err-weights.ensures is)

pub returns-in_err-weights-clause-first : goal.returns-in_err-weights-clause-first
returns-in_err-weights-clause-first c =
    let p = err_from_is_err_and c.from_residual.result c.from_residual.ensures.1 in
    rw (p.1, p.2) (λ line column kind is. first_is c.args.k c.args.bytes.now _ line column kind c.in_err-weights.ensures is)

pub returns-clause-found : goal.returns-clause-found
returns-clause-found c = takes c.args.k c.args.bytes.now c.in_ok-weights.weights.items c.in_ok-weights.ensures

pub returns-clause-only : goal.returns-clause-only
returns-clause-only c = λ vs w. one_list c.args.k c.args.bytes.now c.in_ok-weights.weights.items vs (takes c.args.k c.args.bytes.now c.in_ok-weights.weights.items c.in_ok-weights.ensures) w

pub returns-clause-first : goal.returns-clause-first
returns-clause-first c = λ line column kind is. no_fault c.args.k c.args.bytes.now c.in_ok-weights.weights.items line column kind (takes c.args.k c.args.bytes.now c.in_ok-weights.weights.items c.in_ok-weights.ensures) is
