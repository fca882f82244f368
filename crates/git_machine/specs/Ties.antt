-- The laws of the comparisons of signatures.
use Rattle.std.specs.Prelude.{◌≡◌, true, nat_eq}
use Rattle.std.proofs.Common.{ap, ◌∙◌, subst}
use Rattle.std.specs.Ordering.{is_eq, nat_cmp, eq_by_cmp, as_partial_cmp}
use Rattle.std.specs.declared.cmp.Ordering.TheVariants.{Equal}
use Rattle.std.specs.Bool.{Decides}
use Rattle.std.specs.Cmp.{IsTotalOrder, IsPartialOrder, both_ways, second_so, tied_itself, tied_then, then_total, on_total, po, unsigned_Decides}
use Rattle.std.specs.Cmp.Lexicographic.{slice_cmp, nat_list_cmp_total, pointwise, texts_ties, pointwise_decides}
use Rattle.std.specs.Hash as fed
use Rattle.git_machine.specs.Signatures.{Signature, numbers_of, signature_cmp}

pub signature_total : IsTotalOrder signature_cmp
signature_total = then_total (on_total numbers_of nat_list_cmp_total) nat_list_cmp_total

pub equal_words : (a b : Signature) → Decides (pointwise nat_eq a b) (a ≡ b)
equal_words = pointwise_decides unsigned_Decides

-- what the order finds level are the same words
pub level_words : (a b : Signature) → eq_by_cmp signature_cmp a b ≡ true → pointwise nat_eq a b ≡ true
level_words a b level =
    let numbers = slice_cmp nat_cmp (numbers_of a) (numbers_of b) in
    let words = slice_cmp nat_cmp a b in
    texts_ties a b ∙ second_so (is_eq numbers) (is_eq words) (tied_then numbers words ∙ level)

pub signature_ties : (a b : Signature) → pointwise nat_eq a b ≡ eq_by_cmp signature_cmp a b
signature_ties a b =
    both_ways (pointwise nat_eq a b) (eq_by_cmp signature_cmp a b)
    (λ same. ap is_eq (subst (λ (c : Signature). signature_cmp a c ≡ Equal) ((equal_words a b).0 same) (tied_itself signature_total a)))
    (level_words a b)

pub signature_partial : IsPartialOrder (pointwise nat_eq) (as_partial_cmp signature_cmp)
signature_partial = po signature_total signature_ties

pub signature_alike : (a b : Signature) → pointwise nat_eq a b ≡ true → fed.slice fed.u64 a ≡ fed.slice fed.u64 b
signature_alike a b same = ap (fed.slice fed.u64) ((equal_words a b).0 same)
