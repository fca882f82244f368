-- Vectors that get a mark in place, and inequalities that cut none off.
use Rattle.std.proofs.Common.{◌≡◌, ◌⊎◌, ℕ, ◌+◌, ◌<◌, ◌≤◌, List, length, get_or, ap, sym, subst, ◌∙◌, arith, inl, inr, slice_set, refl, zero, suc}
use Rattle.std.proofs.lemmas.List.{get_or-set_same, get_or-set_other, length-set}
use Rattle.std.proofs.Math.IntN.{pos}
use Rattle.std.specs.Prelude.{◌≤ℤ◌, ◌<ℤ◌, Contains}
use Rattle.std.proofs.lemmas.Int.{ints}
use Rattle.git_defs.specs.Vectors.{Vector, dot}
use Rattle.git_geometry.specs.Stages.{IsNext}
use Rattle.git_adjacency.specs.Marks.{vectors}
use Rattle.git_adjacency.specs.declared.ray.Ray.{Ray}
use Rattle.git_adjacency.proofs.Nexts.{ray_in}

-- ---- one place of a list is written anew
module _ (rays : List Ray) (i : ℕ) (new : Ray) (low : i < length rays) where
  back_to : (P : Ray → Type 0) (j : ℕ) (d : Ray) → (j ≡ i → ⊥) → P (get_or rays j d) → P (get_or (slice_set rays i new) j d)
  back_to P j d apart p = subst P (sym (get_or-set_other rays i j new d apart)) p

  at_place : (P : Ray → Type 0) (j : ℕ) (d : Ray) → j ≡ i → P new → P (get_or (slice_set rays i new) j d)
  at_place P j d e p = subst P (sym (ap (λ (n : ℕ). get_or (slice_set rays i new) n d) e ∙ get_or-set_same rays i new d low)) p

  pub front_after : (P : Ray → Type 0) → ((j : ℕ) (d : Ray) → j < i → j < length rays → P (get_or rays j d)) → P new
      → (j : ℕ) (d : Ray) → j < i + 1 → j < length (slice_set rays i new) → P (get_or (slice_set rays i new) j d)
  front_after P each last j d h l = elim (split j i h) [
    | inl g ↦ back_to P j d (λ e. omega (arith, g, e)) (each j d g (let n = length-set rays i new in omega (arith, l, n)))
    | inr e ↦ at_place P j d e last
  ] where
    split : (j n : ℕ) → j < n + 1 → (j < n) ⊎ (j ≡ n)
    split zero zero h = inr refl
    split zero (suc n) h = inl (omega arith)
    split (suc j) zero h = absurd (omega (arith, h))
    split (suc j) (suc n) h = elim (split j n (omega (arith, h))) [ inl g ↦ inl (omega (arith, g)) | inr e ↦ inr (ap suc e) ]

  pub back_after : (P : Ray → Type 0) → ((j : ℕ) (d : Ray) → i ≤ j → j < length rays → P (get_or rays j d))
      → (j : ℕ) (d : Ray) → i + 1 ≤ j → j < length (slice_set rays i new) → P (get_or (slice_set rays i new) j d)
  back_after P each j d h l = back_to P j d (λ e. omega (arith, h, e)) (each j d (omega (arith, h)) (let n = length-set rays i new in omega (arith, l, n)))

-- ---- an inequality that is negative on none of the vectors
pub none_below : (b : Vector) (rays : List Ray) → ((j : ℕ) (d : Ray) → j < length rays → pos 0 ≤ℤ dot b (get_or rays j d).vector)
    → (x : Vector) → Contains (vectors rays) x → pos 0 ≤ℤ dot b x
none_below b rays each x m =
    let r = ray_in rays x m in
    subst (λ (v : Vector). pos 0 ≤ℤ dot b v) (ap (λ (t : Ray). t.vector) r.member.2 ∙ r.is) (each r.member.0 r.ray r.member.1)

pub next_is_same : (inequalities list : List Vector) (b : Vector) (next : List Vector) → next ≡ list → ((x : Vector) → Contains list x → dot b x <ℤ pos 0 → ⊥)
    → IsNext inequalities list b next
next_is_same inequalities list b next e none = record {
  from = λ x m. inl (subst (λ (vs : List Vector). Contains vs x) e m, (let n = none x (subst (λ (vs : List Vector). Contains vs x) e m) in at_least x n));
  kept = λ r m h. subst (λ (vs : List Vector). Contains vs r) (sym e) m;
  made = λ r s m n above below near. absurd (none s n below);
} where
  at_least : (x : Vector) → (dot b x <ℤ pos 0 → ⊥) → pos 0 ≤ℤ dot b x
  at_least x n = grind (arith, ints, n)
