use Rattle.std.proofs.Common.{◌≡◌, nat_eq, length, sym, ◌∙◌, ap, subst}
use Rattle.std.specs.Cmp.Lexicographic.{pointwise}
use Rattle.git_machine.specs.Signatures.{Signature, AreWords, Has}
use Rattle.git_machine.specs.Ties.{equal_words}
use Rattle.git_machine.proofs.Words.{equal_sets}
use Rattle.git_machine.proofs.signature.Sig.same.Goals as goal

pub returns-clause-sets : goal.returns-clause-sets
returns-clause-sets c =
    let a : Signature = c.args.self.now in
    let b : Signature = c.args.o.now in
    let mine = c.as_slice.ensures.value ∙ c.self.view_is in
    let other = c.as_slice-2.ensures.value ∙ c.o.view_is in
    let is : c.eq.result ≡ pointwise nat_eq a b = c.eq.ensures ∙ (λ t. pointwise nat_eq (mine t) (other t)) in
    let words : AreWords a = subst AreWords c.self.view_is c.self.invariant in
    let more : AreWords b = subst AreWords c.o.view_is c.o.invariant in (
      λ yes. let same : a ≡ b = (equal_words a b).0 (sym is ∙ yes) in (ap length same, λ n. (subst (λ (s : Signature). Has s n) same, subst (λ (s : Signature). Has s n) (sym same))),
      λ (long, sets). is ∙ (equal_words a b).1 (equal_sets a b words more long sets),
    )
