-- A sorted list of vectors is known by its members.
use Rattle.std.proofs.Common.{◌≡◌, AllPairs, List, ℕ}
use Rattle.std.specs.Cmp.{IsTotalOrder, int_cmp_total}
use Rattle.std.specs.Cmp.Lexicographic.{lists_total, slice_cmp}
use Rattle.std.specs.Ordering.{int_cmp}
use Rattle.git_lemmas.specs.Members.{Member}
use Rattle.git_lemmas.proofs.Members.{contains_member, member_contains}
use Rattle.git_defs.specs.Cones.{AreRays}
use Rattle.git_defs.specs.Vectors.{Precedes, Vector}
use Rattle.git_lemmas.proofs.Sorting.{not_self, Ascends, once, ascends_of_pairs}

pub vectors_total : IsTotalOrder (slice_cmp int_cmp)
vectors_total = lists_total int_cmp_total

pub irreflexive : (v : Vector) → Precedes v v → ⊥
irreflexive v h = not_self (slice_cmp int_cmp v v) (vectors_total.antisymm v v) h

-- ---- lists of vectors in order
abbrev pub Ascending : List Vector → Type 0
Ascending vs = Ascends Precedes vs

pub ascending_of : (vs : List Vector) → AllPairs Precedes vs → Ascending vs
ascending_of vs p = ascends_of_pairs Precedes vs p

pub sorted_once : (us vs : List Vector) → Ascending us → Ascending vs → ((x : Vector) → Member x us → Member x vs) → ((x : Vector) → Member x vs → Member x us)
    → us ≡ vs
sorted_once us vs a b to back = once Precedes irreflexive vectors_total.trans us vs a b to back

-- the list of extreme vectors is one
pub rays_once : (k : ℕ) (C : Vector → Type 0) (us vs : List Vector) → AreRays k C us → AreRays k C vs → us ≡ vs
rays_once k C us vs p q = sorted_once us vs (ascending_of us p.ordered) (ascending_of vs q.ordered)
    (λ x m. contains_member x vs ((q.each x).1 ((p.each x).0 (member_contains x us m))))
    (λ x m. contains_member x us ((p.each x).1 ((q.each x).0 (member_contains x vs m))))
