-- What holds of signatures and their order, as the laws of this crate say it.
use Rattle.std.specs.Prelude.{◌≡◌, ◌↔◌, ℕ, ◌<◌, length}
use Rattle.std.specs.List.{AllPairs, Contains}
use Rattle.std.specs.declared.cmp.Ordering.TheVariants.{Equal}
use Rattle.std.specs.Ordering.{nat_cmp}
use Rattle.std.specs.Cmp.{IsTotalOrder}
use Rattle.git_machine.specs.Signatures.{Signature, AreWords, Has, numbers_of, signature_cmp}

-- equal sets of one width are equal
abbrev pub EqualSetsAreEqual : Type 0
EqualSetsAreEqual = (a b : Signature) → AreWords a → AreWords b → length a ≡ length b → ((n : ℕ) → Has a n ↔ Has b n) → a ≡ b

-- the list of numbers has the numbers of the set, ascending
pub record NumbersAreMembers : Type 0 where
  pub members : (s : Signature) (n : ℕ) → Contains (numbers_of s) n ↔ Has s n
  pub ascending : (s : Signature) → AllPairs (λ i j. i < j) (numbers_of s)

-- the order is total, and only equal signatures are level
pub record OrderIsTotal : Type 0 where
  pub total : IsTotalOrder signature_cmp
  pub level : (a b : Signature) → signature_cmp a b ≡ Equal → a ≡ b

-- of two signatures with one set of numbers the narrower is first
abbrev pub NarrowerIsFirst : Type 0
NarrowerIsFirst = (a b : Signature) → AreWords a → AreWords b → ((n : ℕ) → Has a n ↔ Has b n) → signature_cmp a b ≡ nat_cmp (length a) (length b)
