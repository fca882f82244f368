-- A vector is in the cone of finitely many, or a normal separates it from them.
use Rattle.std.proofs.Common.{◌≡◌, ◌∙◌, ◌⊎◌, ◌∷◌, [], List, ap, arith, inl, inr, length, map, refl, subst, suc, sym, zero, ℕ}
use Rattle.std.proofs.Math.IntN.{◌+ℤ◌, ◌*ℤ◌, neg_ℤ, negsuc, pos, ℤ}
use Rattle.std.proofs.lemmas.Int.{ints}
use Rattle.std.proofs.lemmas.List.{length-map}
use Rattle.std.specs.Prelude.{◌<ℤ◌, ◌≤ℤ◌}
use borrow.Author.Differences.{product_is, up}
use Rattle.git_defs.proofs.Closed.{closed_cone, cone_closed, cone_has, sign_of}
use Rattle.git_lemmas.proofs.Integers.{diff, diff_add, diff_mul, diff_neg, diff_same, mul_comm}
use Rattle.git_defs.proofs.Linear.{dot-comm, dot-plus, dot-scale, length-plus, length-scale}
use Rattle.git_lemmas.specs.Members.{Member}
use Rattle.git_lemmas.proofs.Members.{contains_member, member_contains}
use Rattle.git_defs.proofs.Lengths.{OfLength, rest_of_length}
use Rattle.git_defs.specs.Cones.{InCone}
use Rattle.git_defs.specs.Vectors.{Vector, dot, plus, scale}
use Rattle.git_geometry.proofs.Identities.{project_back}
use Rattle.git_geometry.proofs.Lists.{image_of, map_member}
use Rattle.git_geometry.proofs.Polynomials.{size}
use Rattle.git_geometry.proofs.Squares.{zero_or_positive}
use Rattle.git_geometry.specs.Generators.{Separated}

-- what separates, by members
pub apart_side : {k : ℕ} {vs : List Vector} {x : Vector} → (s : Separated k vs x) → (v : Vector) → Member v vs → pos 0 ≤ℤ dot s.normal v
apart_side {k} {vs} s v m = s.sides v (member_contains v vs m)

pub separated_from : {k : ℕ} {vs : List Vector} {x : Vector} (n : Vector) → length n ≡ k → ((v : Vector) → Member v vs → pos 0 ≤ℤ dot n v)
    → dot n x <ℤ pos 0 → Separated k vs x
separated_from {k} {vs} n entries sides below = record {
  normal = n;
  entries = entries;
  sides = λ v c. sides v (contains_member v vs c);
  below = below;
}

-- c v + (n v) g, on which n is 0 where c is - (n g)
abbrev pub project : Vector → Vector → Vector → Vector
project n g v = plus (scale (neg_ℤ (dot n g)) v) (scale (dot n v) g)

module _ (k : ℕ) (g : Vector) (rest : List Vector) (x : Vector) (have : OfLength k (g ∷ rest)) (entries : length x ≡ k) (n : Vector)
    (n_entries : length n ≡ k) where
  g_entries : length g ≡ k
  g_entries = have.each g (inl refl)

  length_project : (v : Vector) → length v ≡ k → length (project n g v) ≡ k
  length_project v e = length-plus (scale (neg_ℤ (dot n g)) v) (scale (dot n v) g)
      (length-scale (neg_ℤ (dot n g)) v ∙ e ∙ sym g_entries ∙ sym (length-scale (dot n v) g)) ∙ length-scale (neg_ℤ (dot n g)) v ∙ e

  projected_of_length : OfLength k (map (project n g) rest)
  projected_of_length = record {
    each = λ v m. let r = image_of (project n g) rest v m in ap length (sym r.is) ∙ length_project r.from (have.each r.from (inr r.member));
  }

  dot_project : (m v : Vector) → length v ≡ k → dot m (project n g v) ≡ neg_ℤ (dot n g) *ℤ dot m v +ℤ dot n v *ℤ dot m g
  dot_project m v e =
      dot-plus m (scale (neg_ℤ (dot n g)) v) (scale (dot n v) g)
      (length-scale (neg_ℤ (dot n g)) v ∙ e ∙ sym g_entries ∙ sym (length-scale (dot n v) g))
      ∙ (λ i. dot-scale m (neg_ℤ (dot n g)) v i +ℤ dot-scale m (dot n v) g i)

  abbrev tilted : Vector → Vector
  tilted m = plus (scale (neg_ℤ (dot n g)) m) (scale (dot m g) n)

  length_tilted : (m : Vector) → length m ≡ k → length (tilted m) ≡ k
  length_tilted m e = length-plus (scale (neg_ℤ (dot n g)) m) (scale (dot m g) n)
      (length-scale (neg_ℤ (dot n g)) m ∙ e ∙ sym n_entries ∙ sym (length-scale (dot m g) n)) ∙ length-scale (neg_ℤ (dot n g)) m ∙ e

  dot_tilted : (m v : Vector) → length m ≡ k → dot (tilted m) v ≡ neg_ℤ (dot n g) *ℤ dot m v +ℤ dot m g *ℤ dot n v
  dot_tilted m v e =
      dot-comm (tilted m) v
      ∙ dot-plus v (scale (neg_ℤ (dot n g)) m) (scale (dot m g) n)
      (length-scale (neg_ℤ (dot n g)) m ∙ e ∙ sym n_entries ∙ sym (length-scale (dot m g) n))
      ∙ (λ i. (dot-scale v (neg_ℤ (dot n g)) m ∙ ap (λ (z : ℤ). neg_ℤ (dot n g) *ℤ z) (dot-comm v m)) i +ℤ
      (dot-scale v (dot m g) n ∙ ap (λ (z : ℤ). dot m g *ℤ z) (dot-comm v n)) i)

  same_dot : (m v : Vector) → length m ≡ k → length v ≡ k → dot m (project n g v) ≡ dot (tilted m) v
  same_dot m v e f = dot_project m v f ∙ ap (λ (z : ℤ). neg_ℤ (dot n g) *ℤ dot m v +ℤ z) (mul_comm (dot n v) (dot m g)) ∙ sym (dot_tilted m v e)

  level_g : (m : Vector) → length m ≡ k → dot (tilted m) g ≡ pos 0
  level_g m e = dot_tilted m g e ∙ cancels (dot n g) (dot m g) where
    cancels : (a b : ℤ) → neg_ℤ a *ℤ b +ℤ b *ℤ a ≡ pos 0
    cancels a b = diff_same (diff_add (diff_mul (diff_neg (diff a)) (diff b)) (diff_mul (diff b) (diff a))) (diff (pos 0)) (omega arith)

  pub projected_cone : dot n g <ℤ pos 0 → dot n x <ℤ pos 0 → ((v : Vector) → Member v rest → pos 0 ≤ℤ dot n v)
      → InCone k (map (project n g) rest) (project n g x) → InCone k (g ∷ rest) x
  projected_cone low below sides h =
      let closed = cone_closed k (g ∷ rest) have in
      let first = cone_has k (g ∷ rest) g have (inl refl) in
      let inside : InCone k (g ∷ rest) (project n g x) = closed_cone k (InCone k (g ∷ rest)) (map (project n g) rest) (project n g x) closed
      (λ v m. let r = image_of (project n g) rest v m in subst (InCone k (g ∷ rest)) r.is
      (closed.sums _ _ (closed.multiples (neg_ℤ (dot n g)) r.from (omega (arith, ints)) (cone_has k (g ∷ rest) r.from have (inr r.member)))
      (closed.multiples (dot n r.from) g (sides r.from r.member) first))) h in
      closed.quotients (neg_ℤ (dot n g)) x (omega (arith, ints))
      (subst (InCone k (g ∷ rest)) (project_back (neg_ℤ (dot n g)) (dot n x) x g (entries ∙ sym g_entries))
      (closed.sums _ _ inside (closed.multiples (neg_ℤ (dot n x)) g (omega (arith, ints)) first)))

  pub projected_apart : Separated k (map (project n g) rest) (project n g x) → Separated k (g ∷ rest) x
  projected_apart s = separated_from (tilted s.normal) (length_tilted s.normal s.entries) side
      (subst (λ (z : ℤ). z <ℤ pos 0) (same_dot s.normal x s.entries entries) s.below) where
        side : (v : Vector) → Member v (g ∷ rest) → pos 0 ≤ℤ dot (tilted s.normal) v
        side v (inl e) = subst (λ (u : Vector). pos 0 ≤ℤ dot (tilted s.normal) u) e (let f = level_g s.normal s.entries in omega (arith, ints, f))
        side v (inr m) = subst (λ (z : ℤ). pos 0 ≤ℤ z) (same_dot s.normal v s.entries (have.each v (inr m)))
            (apart_side s (project n g v) (map_member (project n g) rest v m))

pub farkas_by : (count k : ℕ) (vs : List Vector) (x : Vector) → length vs ≡ count → OfLength k vs → length x ≡ k → InCone k vs x ⊎ Separated k vs x
farkas_by zero k (g ∷ rest) x size have e = absurd (omega arith)
farkas_by (suc count) k [] x size have e = absurd (omega arith)
farkas_by zero k [] x size have e = elim (zero_or_positive k x e) [
  | inl none ↦ inl (subst (InCone k []) (sym none) ((cone_closed k [] have).none))
  | inr more ↦ inr (
      let f : dot (scale (negsuc 0) x) x ≡ negsuc 0 *ℤ dot x x = dot-comm (scale (negsuc 0) x) x ∙ dot-scale x (negsuc 0) x in
      separated_from (scale (negsuc 0) x) (length-scale (negsuc 0) x ∙ e) (λ v m. absurd m)
      (omega (arith, ints, f, more, product_is (negsuc 0) (dot x x))))
]
farkas_by (suc count) k (g ∷ rest) x size have e = elim (farkas_by count k rest x (omega arith) (rest_of_length k g rest have) e) [
  | inl h ↦ inl (closed_cone k (InCone k (g ∷ rest)) rest x (cone_closed k (g ∷ rest) have) (λ v m. cone_has k (g ∷ rest) v have (inr m)) h)
  | inr s ↦ elim (sign_of (dot s.normal g)) [
    | inl up ↦ inr (separated_from s.normal s.entries
        (λ v m. elim m [ inl f ↦ subst (λ (u : Vector). pos 0 ≤ℤ dot s.normal u) f up | inr n ↦ apart_side s v n ]) s.below)
    | inr low ↦ elim (farkas_by count k (map (project s.normal g) rest) (project s.normal g x) (length-map rest (project s.normal g) ∙ omega arith)
        (projected_of_length k g rest x have e s.normal s.entries) (length_project k g rest x have e s.normal s.entries x e)) [
          | inl h ↦ inl (projected_cone k g rest x have e s.normal s.entries low s.below (apart_side s) h)
          | inr t ↦ inr (projected_apart k g rest x have e s.normal s.entries t)
        ]
  ]
]

pub farkas : (k : ℕ) (vs : List Vector) (x : Vector) → OfLength k vs → length x ≡ k → InCone k vs x ⊎ Separated k vs x
farkas k vs x have e = farkas_by (length vs) k vs x refl have e
