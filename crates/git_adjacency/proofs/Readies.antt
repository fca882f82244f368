-- What the blends of a stage need, and what is moved.
use Rattle.std.proofs.Common.{◌≡◌, ℕ, ◌+◌, ◌*◌, ◌<◌, ◌≤◌, List, [], ◌∷◌, ◌++◌, length, take, get_or, sym, ◌∙◌, ap, subst, arith, inl, inr, length-take}
use Rattle.std.proofs.lemmas.List.{take_more}
use Rattle.std.proofs.lemmas.List.Elements.{All-take, All-contains, Contains-get_or, Contains-append_left}
use Rattle.std.specs.Prelude.{◌<ℤ◌, All, Contains}
use Rattle.std.proofs.Math.IntN.{pos}
use Rattle.git_defs.specs.Vectors.{Vector, dot}
use Rattle.git_defs.specs.Cones.{Cut, IsPointed}
use Rattle.git_geometry.specs.Stages.{Exact}
use Rattle.git_stages.specs.Short.{IsShort}
use Rattle.git_geometry.specs.Zeros.{Adjacent}
use Rattle.git_adjacency.proofs.Enough.{enough}
use Rattle.git_adjacency.proofs.Nexts.{vector_in, ray_in, of_all, adjacent_before}
use Rattle.git_adjacency.specs.Making.{IsSided}
use Rattle.git_adjacency.specs.Marks.{IsRay, vectors}
use Rattle.git_adjacency.specs.Sides.{IsMarkedRay, AreMarkedSides, IsFit, IsReady, IsMoved, HasZeros, all_of}
use Rattle.git_adjacency.specs.declared.ray.Ray.{Ray}
use Rattle.git_adjacency.specs.declared.stage.Sides.{Sides}

pub last_is : (A : List Vector) (n : ℕ) (b : Vector) → n < length A → b ≡ get_or A n b → take (n + 1) A ≡ take n A ++ b ∷ []
last_is A n b h is = take_more A n b h ∙ ap (λ (u : Vector). take n A ++ u ∷ []) (sym is)

module _ (k : ℕ) (A : List Vector) (n : ℕ) (b : Vector) (width : ℕ) (rays : List Ray) (sides : Sides) (h : n < length A) (room : length A ≤ 64 * width) (short : All (IsShort k) A) (is : b ≡ get_or A n b)
    (good : All (IsRay k (take n A) width) rays) (pointed : IsPointed k (Cut k (take n A))) (exact : Exact k (take n A) (vectors rays))
    (sided : IsSided b (vectors rays) (vectors sides.above.items) (vectors sides.level.items) (vectors sides.below.items)) (marked : AreMarkedSides (take n A ++ b ∷ []) width sides) where
  last : take (n + 1) A ≡ take n A ++ b ∷ []
  last = last_is A n b h is

  marked2 : AreMarkedSides (take (n + 1) A) width sides
  marked2 = subst (λ (u : List Vector). AreMarkedSides u width sides) (sym last) marked

  fit : (xs : List Ray) → All (IsMarkedRay (take (n + 1) A) width) xs → (r : Ray) → Contains xs r → Contains (vectors rays) r.vector → IsFit k (take n A) (take (n + 1) A) width r
  fit xs all r c m =
      let q = ray_in rays r.vector m in
      record {
        short = subst (IsShort k) q.is (All-contains (IsRay k (take n A) width) rays q.ray good q.member).short;
        marked = All-contains (IsMarkedRay (take (n + 1) A) width) xs r all c;
        inside = (exact.edges r.vector m).member;
      }

  all_in : (x : Vector) → Contains (all_of sides) x → Contains (vectors rays) x
  all_in = of_all (take n A) (vectors rays) b (vectors sides.above.items) (vectors sides.level.items) (vectors sides.below.items) sided

  before : (r s : Vector) → pos 0 <ℤ dot b r → Adjacent (take (n + 1) A) (all_of sides) r s → Adjacent (take n A) (vectors rays) r s
  before r s up adjacent = adjacent_before (take n A) (vectors rays) b (vectors sides.above.items) (vectors sides.level.items) (vectors sides.below.items) sided r s up
      (subst (λ (u : List Vector). Adjacent u (all_of sides) r s) last adjacent)

  fewer : (r s : Vector) (zeros : List Vector) → HasZeros k (take (n + 1) A) r s zeros → HasZeros k (take n A) r s zeros
  fewer r s zeros has = record { entries = has.entries; all = λ a m z. has.all a (subst (λ (u : List Vector). Contains u a) (sym last) (Contains-append_left (take n A) (b ∷ []) a m)) z }

  pub ready : IsReady k (take n A) (take (n + 1) A) b width sides
  ready = record {
    last = last;
    room = let e = length-take n A in omega (arith, e, h, room);
    inequality = subst (IsShort k) (sym is) (short n b h);
    short = All-take (IsShort k) (n + 1) A short;
    marked = marked2;
    above = λ r c. let s = sided.above_in r.vector (vector_in sides.above.items r c) in (fit sides.above.items marked2.above r c s.0, s.1);
    below = λ r c. let s = sided.below_in r.vector (vector_in sides.below.items r c) in (fit sides.below.items marked2.below r c s.0, s.1);
    enough = λ r s r_in s_in up low adjacent zeros has.
        enough k (take n A) (vectors rays) pointed exact r s (all_in r r_in) (all_in s s_in) (before r s up adjacent) zeros (fewer r s zeros has);
  }

pub moved_all : (P : Ray → Type 0) (from old new : List Ray) → IsMoved from old new → All P old → All P from → All P new
moved_all P from old new moved p q = λ i d h.
    let x = get_or new i d in
    elim ((moved.each x).0 (Contains-get_or new i d h)) [ inl c ↦ All-contains P old x p c | inr c ↦ All-contains P from x q c ]
