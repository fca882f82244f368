-- A later stage that is judged.
use Rattle.std.proofs.Common.{ℕ, ◌+◌, ◌<◌, ◌≤◌, List, length, take, drop, get_or, arith, inl, inr, Some, None}
use Rattle.std.specs.Prelude.{All}
use Rattle.git_defs.specs.Vectors.{Vector}
use Rattle.git_lemmas.specs.Members.{Member}
use Rattle.git_defs.proofs.Lengths.{OfLength}
use Rattle.git_lemmas.proofs.Members.{contains_member, member_contains, as_member}
use Rattle.git_geometry.proofs.Facets.{rays_of_exact}
use Rattle.git_geometry.proofs.Sorted.{ascending_of}
use Rattle.git_geometry.specs.Stages.{Exact}
use Rattle.git_stages.proofs.Listed.{listed, exact_members, pairs_of}
use Rattle.git_stages.proofs.Shorts.{not_large}
use Rattle.git_stages.specs.Narrow.{IsNarrowTo}
use Rattle.git_stages.specs.Prepared.{IsSortedSet}
use Rattle.git_stages.specs.Wide.{IsLeastOf}
use Rattle.git_dd.proofs.Extends.{late_stage, late_narrow, least_along, narrow_step}
use Rattle.git_adjacency.proofs.Nexts.{vector_in}
use Rattle.git_adjacency.specs.Marks.{IsRay, vectors}
use Rattle.git_adjacency.specs.Sides.{IsMarkedRay}
use Rattle.git_dd.specs.Stops.{IsLateWide}
use Rattle.git_adjacency.specs.declared.ray.Ray.{Ray}
use Rattle.git_stages.specs.declared.wide.WideWhat.TheVariants.{Entry, Many}
use Rattle.std.proofs.lemmas.List.Elements.{Contains-get_or}

pub rays_short : (k : ℕ) (A : List Vector) (width : ℕ) (rays : List Ray) → All (IsMarkedRay A width) rays → OfLength k (vectors rays) → IsLeastOf (vectors rays) None → All (IsRay k A width) rays
rays_short k A width rays marked have none i d h =
    let m = vector_in rays (get_or rays i d) (Contains-get_or rays i d h) in
    let v = (get_or rays i d).vector in
    record {
      short = record { entries = have.each v (as_member (vectors rays) m); within = not_large v (λ l. none v m l) };
      marked = marked i d h;
    }

pub narrow_few : (k n : ℕ) (A vs : List Vector) → k ≤ n → n < length A → Exact k (take (n + 1) A) vs → IsLeastOf vs None → length vs ≤ 65536
    → IsNarrowTo k (take k A) (drop k A) n → IsNarrowTo k (take k A) (drop k A) (n + 1)
narrow_few k n A vs h l exact none few before =
    let s = listed vs in
    narrow_step k (take k A) (drop k A) n before (late_narrow k n A vs s.list h l exact none s.ascending s.to s.back (let e = s.size in omega (arith, e, few)))

pub tidied_to : (vs ws : List Vector) → IsSortedSet vs ws → (x : Vector) → Member x ws → Member x vs
tidied_to vs ws t x m = contains_member x vs ((t.each x).0 (member_contains x ws m))

pub tidied_back : (vs ws : List Vector) → IsSortedSet vs ws → (x : Vector) → Member x vs → Member x ws
tidied_back vs ws t x m = contains_member x ws ((t.each x).1 (member_contains x vs m))

pub narrow_tidied : (k n : ℕ) (A vs ws : List Vector) → k ≤ n → n < length A → Exact k (take (n + 1) A) vs → IsLeastOf vs None → IsSortedSet vs ws → length ws ≤ 65536
    → IsNarrowTo k (take k A) (drop k A) n → IsNarrowTo k (take k A) (drop k A) (n + 1)
narrow_tidied k n A vs ws h l exact none t few before =
    narrow_step k (take k A) (drop k A) n before (late_narrow k n A vs ws h l exact none (ascending_of ws t.sorted) (tidied_to vs ws t) (tidied_back vs ws t) few)

pub wide_entry : (k n : ℕ) (A vs : List Vector) (v : Vector) → k ≤ n → n < length A → Exact k (take (n + 1) A) vs → IsLeastOf vs (Some v)
    → IsNarrowTo k (take k A) (drop k A) n → IsLateWide k A (n + 1) (Entry v)
wide_entry k n A vs v h l exact least before =
    let s = listed vs in
    let q = least_along vs s.list v s.to s.back least in
    record {
      list = s.list;
      before = n;
      is = omega arith;
      narrow = before;
      at = inr (late_stage k n A s.list h l (rays_of_exact k (take (n + 1) A) s.list (exact_members k (take (n + 1) A) vs s.list s.back s.to exact) (pairs_of s.list s.ascending)));
      wide = inl (v, q.member, q.large);
      evidence = q;
    }

pub wide_many : (k n : ℕ) (A vs ws : List Vector) → k ≤ n → n < length A → Exact k (take (n + 1) A) vs → IsLeastOf vs None → IsSortedSet vs ws → 65536 < length ws
    → IsNarrowTo k (take k A) (drop k A) n → IsLateWide k A (n + 1) Many
wide_many k n A vs ws h l exact none t many before = record {
  list = ws;
  before = n;
  is = omega arith;
  narrow = before;
  at = inr (late_stage k n A ws h l (rays_of_exact k (take (n + 1) A) ws (exact_members k (take (n + 1) A) vs ws (tidied_back vs ws t) (tidied_to vs ws t) exact) t.sorted));
  wide = inr ((omega (arith, h)), many);
  evidence = λ v c g. none v ((t.each v).0 c) g;
}
