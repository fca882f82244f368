-- One stage more, and what its list is.
use Rattle.std.proofs.Common.{◌≡◌, ◌⊎◌, ℕ, zero, suc, ◌+◌, ◌-◌, ◌<◌, ◌≤◌, List, ◌∷◌, ◌++◌, length, take, drop, get_or, sym, ◌∙◌, ap, subst, arith, inl, inr, length-take, length-drop, None}
use Rattle.std.proofs.lemmas.List.{take-append-drop}
use Rattle.std.proofs.Math.Seq.{take-append-add}
use Rattle.git_defs.specs.Vectors.{Vector}
use Rattle.git_defs.specs.Cones.{Cut, IsPointed, AreRays}
use Rattle.git_lemmas.specs.Members.{Member}
use Rattle.git_lemmas.proofs.Members.{contains_member, member_contains}
use Rattle.git_geometry.proofs.Cuts.{cut_same, cut_within}
use Rattle.git_geometry.proofs.Facets.{rays_of_exact}
use Rattle.git_geometry.proofs.Pointed.{pointed_within}
use Rattle.git_geometry.proofs.Sorted.{Ascending}
use Rattle.git_geometry.proofs.Stages.{next_exact, exact_along}
use Rattle.git_geometry.specs.Stages.{Exact, IsNext}
use Rattle.git_stages.proofs.Fronts.{member_more, front_grows, last_in, front_in_front}
use Rattle.git_stages.proofs.Listed.{exact_members, pairs_of}
use Rattle.git_elimination.proofs.Progressing.{one_more}
use Rattle.git_stages.specs.Narrow.{IsNarrowAt, IsNarrowTo}
use Rattle.git_stages.specs.Stages.{IsLate}
use Rattle.git_stages.specs.Wide.{IsLeastLarge, IsLeastOf}

pub pointed_front : (k : ℕ) (A : List Vector) (m n : ℕ) → m ≤ n → IsPointed k (Cut k (take m A)) → IsPointed k (Cut k (take n A))
pointed_front k A m n h p = pointed_within k (Cut k (take n A)) (Cut k (take m A)) (cut_within k (take n A) (take m A) (λ b c. front_in_front A m n b h c)) p

pub exact_next : (k : ℕ) (A : List Vector) (n : ℕ) (d : Vector) (vs ws : List Vector) → n < length A → IsPointed k (Cut k (take n A)) → Exact k (take n A) vs
    → IsNext (take n A) vs (get_or A n d) ws → Exact k (take (n + 1) A) ws
exact_next k A n d vs ws h pointed exact next =
    exact_along k (get_or A n d ∷ take n A) (take (n + 1) A) ws
    (cut_same k (get_or A n d ∷ take n A) (take (n + 1) A)
    (λ a m. elim m [ inl e ↦ subst (λ (u : Vector). Member u (take (n + 1) A)) e (last_in A n d h) | inr o ↦ front_grows A n d a h o ])
    (λ a m. elim (member_more A n d a h m) [ inl l ↦ inr l | inr e ↦ inl e ]))
    (next_exact k (take n A) pointed vs exact (get_or A n d) ws next)

-- ---- the stage of a list
front_back : (k n : ℕ) (A : List Vector) → k ≤ n → n < length A → take k A ++ take (n + 1 - k) (drop k A) ≡ take (n + 1) A
front_back k n A h l =
    let size : length (take k A) ≡ k = (let e = length-take k A in omega (arith, e, h, l)) in
    let sum : length (take k A) + (n + 1 - k) ≡ n + 1 = omega (arith, size, h) in
    sym (take-append-add (take k A) (drop k A) (n + 1 - k)) ∙ ap (λ (m : ℕ). take m (take k A ++ drop k A)) sum ∙ ap (take (n + 1)) (take-append-drop k A)

pub late_stage : (k n : ℕ) (A ws : List Vector) → k ≤ n → n < length A → AreRays k (Cut k (take (n + 1) A)) ws → IsLate k (take k A) (drop k A) (n + 1) ws
late_stage k n A ws h l rays = record {
  more = n + 1 - k;
  some = omega (arith, h);
  few = let e = length-drop k A in omega (arith, e, h, l);
  is = omega (arith, h);
  rays = subst (λ (u : List Vector). AreRays k (Cut k u) ws) (sym (front_back k n A h l)) rays;
}

pub narrow_step : (k : ℕ) (base rest : List Vector) (n : ℕ) → IsNarrowTo k base rest n → IsNarrowAt k base rest (n + 1) → IsNarrowTo k base rest (n + 1)
narrow_step k base rest n before here i p q = elim (one_more i n q) [ inl l ↦ before i p l | inr e ↦ subst (IsNarrowAt k base rest) (sym e) here ]

-- a stage with few short vectors isn't wide
pub late_narrow : (k n : ℕ) (A vs ws : List Vector) → k ≤ n → n < length A → Exact k (take (n + 1) A) vs → IsLeastOf vs None
    → Ascending ws → ((x : Vector) → Member x ws → Member x vs) → ((x : Vector) → Member x vs → Member x ws) → length ws ≤ 65536 → IsNarrowAt k (take k A) (drop k A) (n + 1)
late_narrow k n A vs ws h l exact none ascending to back few = record {
  list = ws;
  stage = inr (late_stage k n A ws h l (rays_of_exact k (take (n + 1) A) ws (exact_members k (take (n + 1) A) vs ws back to exact) (pairs_of ws ascending)));
  narrow = λ w. elim w [
    | inl o ↦ none o.0 (member_contains o.0 vs (to o.0 (contains_member o.0 ws o.1))) o.2
    | inr o ↦ (let m = o.1 in omega (arith, m, few))
  ];
}

pub least_along : (vs ws : List Vector) (v : Vector) → ((x : Vector) → Member x ws → Member x vs) → ((x : Vector) → Member x vs → Member x ws) → IsLeastLarge vs v → IsLeastLarge ws v
least_along vs ws v to back s = record {
  member = member_contains v ws (back v (contains_member v vs s.member));
  large = s.large;
  least = λ u c g p. s.least u (member_contains u vs (to u (contains_member u ws c))) g p;
}
