-- Cones that inequalities cut out.
use Rattle.std.proofs.Common.{◌≡◌, ℕ, List, length, subst}
use Rattle.std.proofs.Math.IntN.{ℤ, pos}
use Rattle.std.specs.Prelude.{◌≤ℤ◌}
use Rattle.git_defs.specs.Vectors.{Vector, AllOfLength, dot}
use Rattle.git_defs.specs.Cones.{InCone, Cut, Dual, SameSet}
use Rattle.git_defs.proofs.Linear.{dot-comm, cone_beside}
use Rattle.git_defs.proofs.Closed.{cone_has}
use Rattle.git_lemmas.specs.Members.{Member}
use Rattle.git_lemmas.proofs.Members.{contains_member, member_contains}
use Rattle.git_defs.proofs.Lengths.{all_of_length}

-- a member of the inequalities is not negative on what they cut out
pub cut_side : (k : ℕ) (ns : List Vector) (x n : Vector) → Cut k ns x → Member n ns → pos 0 ≤ℤ dot n x
cut_side k ns x n cut m = cut.sides n (member_contains n ns m)

pub cut_from : (k : ℕ) (ns : List Vector) (x : Vector) → length x ≡ k → ((n : Vector) → Member n ns → pos 0 ≤ℤ dot n x) → Cut k ns x
cut_from k ns x entries sides = record { entries = entries; sides = λ n c. sides n (contains_member n ns c) }

turned : (u v : Vector) → pos 0 ≤ℤ dot u v → pos 0 ≤ℤ dot v u
turned u v h = subst (λ (z : ℤ). pos 0 ≤ℤ z) (dot-comm u v) h

pub cut_is_dual : (k : ℕ) (ns : List Vector) → AllOfLength k ns → SameSet (Cut k ns) (Dual k (InCone k ns))
cut_is_dual k ns have =
    let long = all_of_length k ns have in
    λ x. (
      (λ cut. record { entries = cut.entries; sides = λ y h. cone_beside k x ns y long (λ n m. turned n x (cut_side k ns x n cut m)) h }),
      (λ dual. record { entries = dual.entries; sides = λ n c. turned x n (dual.sides n (cone_has k ns n long (contains_member n ns c))) }),
    )
