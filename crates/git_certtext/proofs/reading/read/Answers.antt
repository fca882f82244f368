use Rattle.std.proofs.Common.{◌≡◌, ◌<◌, ◌-◌, ◌^◌, ℕ, Ok, refl, sym, ap, ◌∙◌, arith}
use Rattle.std.proofs.lemmas.Result.{err_from_is_err_and}
use Rattle.git_certtext.specs.Blocks.{blocks_of}
use Rattle.git_certtext.specs.CertReading.{certs_whole, reading}
use Rattle.git_lines.specs.Lines.{text_from}
use Rattle.git_certtext.proofs.CertTexts.{found_is, again_is, same_blocks, only_memory, fault_is, first_is, no_fault, fails_here}
use Rattle.git_certtext.proofs.reading.read.Goals as goal

pub returns-in_err-made-clause-only : goal.returns-in_err-made-clause-only
returns-in_err-made-clause-only c = λ vs f is.
    let p = err_from_is_err_and c.from_residual.result c.from_residual.ensures.1 in
    let few : 2 ^ c.args.r - 1 < 10 ^ 18 = omega (arith, c.last_mask-last.ensures.same, c.last_mask-last.ensures.small) in
    rw (p.1, p.2) (only_memory _ c.args.r c.args.bytes.now (blocks_of vs) (fails_here _ c.args.r _ c.args.bytes.now c.last_mask-last.ensures.same c.in_err-made.ensures) (again_is c.args.r c.requires.variables few c.args.bytes.now vs f is))

pub returns-in_err-made-clause-fault : goal.returns-in_err-made-clause-fault
returns-in_err-made-clause-fault c =
    let p = err_from_is_err_and c.from_residual.result c.from_residual.ensures.1 in
    rw (p.1, p.2) (λ line kind is. fault_is _ c.args.r c.args.bytes.now line kind (fails_here _ c.args.r _ c.args.bytes.now c.last_mask-last.ensures.same c.in_err-made.ensures) is)

pub returns-in_err-made-clause-first : goal.returns-in_err-made-clause-first
returns-in_err-made-clause-first c = λ line kind is.
    let p = err_from_is_err_and c.from_residual.result c.from_residual.ensures.1 in
    rw (p.1, p.2) (first_is _ c.args.r c.args.bytes.now line kind (fails_here _ c.args.r _ c.args.bytes.now c.last_mask-last.ensures.same c.in_err-made.ensures) is)

pub returns-clause-found : goal.returns-clause-found
returns-clause-found c =
    let few : 2 ^ c.args.r - 1 < 10 ^ 18 = omega (arith, c.last_mask-last.ensures.same, c.last_mask-last.ensures.small) in
    let read : reading c.args.r c.args.bytes.now ≡ Ok (blocks_of c.in_ok-made.made.items) = ap (λ (n : ℕ). certs_whole c.args.r n (text_from 1 0 c.args.bytes.now)) (sym c.last_mask-last.ensures.same) ∙ c.in_ok-made.ensures in
    let f = found_is c.args.r c.requires.variables few c.args.bytes.now c.in_ok-made.made.items read in
    (f.0, f.1, refl)

pub returns-clause-only : goal.returns-clause-only
returns-clause-only c = λ vs f is.
    let few : 2 ^ c.args.r - 1 < 10 ^ 18 = omega (arith, c.last_mask-last.ensures.same, c.last_mask-last.ensures.small) in
    let read : reading c.args.r c.args.bytes.now ≡ Ok (blocks_of c.in_ok-made.made.items) = ap (λ (n : ℕ). certs_whole c.args.r n (text_from 1 0 c.args.bytes.now)) (sym c.last_mask-last.ensures.same) ∙ c.in_ok-made.ensures in
    same_blocks c.args.r c.args.bytes.now (blocks_of c.in_ok-made.made.items) (blocks_of vs) read (again_is c.args.r c.requires.variables few c.args.bytes.now vs f is)

pub returns-clause-first : goal.returns-clause-first
returns-clause-first c = λ line kind is.
    let read : reading c.args.r c.args.bytes.now ≡ Ok (blocks_of c.in_ok-made.made.items) = ap (λ (n : ℕ). certs_whole c.args.r n (text_from 1 0 c.args.bytes.now)) (sym c.last_mask-last.ensures.same) ∙ c.in_ok-made.ensures in
    no_fault c.args.r c.args.bytes.now (blocks_of c.in_ok-made.made.items) line kind read is
