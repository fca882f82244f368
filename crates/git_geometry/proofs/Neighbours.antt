-- Two edges on the two sides of an inequality: their blend is an edge exactly where no third edge has the zeros of both.
use Rattle.std.proofs.Common.{◌≡◌, ◌<◌, ◌∙◌, ◌⊎◌, ◌∷◌, ◌*◌, [], List, ap, arith, inl, inr, length, map, refl, subst, sym, ℕ}
use Rattle.std.proofs.Math.IntN.{◌+ℤ◌, ◌*ℤ◌, ◌-ℤ◌, neg_ℤ, negsuc, pos, pos-*ℤ-pos, ℤ}
use Rattle.std.proofs.Math.Nat.{mul-le-mul}
use Rattle.std.proofs.lemmas.Int.{ints}
use Rattle.std.specs.Prelude.{◌<ℤ◌, ◌≤ℤ◌}
use borrow.Author.Differences.{up}
use Rattle.git_defs.proofs.Closed.{closed_cone, cone_closed, cone_has, positive_or_zero, sign_of}
use Rattle.git_lemmas.proofs.Integers.{mul_pos}
use Rattle.git_defs.proofs.Linear.{dot-plus, dot-scale, length-scale}
use Rattle.git_lemmas.specs.Members.{Member}
use Rattle.git_defs.proofs.Lengths.{OfLength}
use Rattle.git_defs.proofs.Sums.{plus-zero, scale-scale, scale_none}
use Rattle.git_defs.specs.Cones.{Cut, InCone, IsEdge, IsPointed, OnRay}
use Rattle.git_defs.specs.Vectors.{IsPrimitive, Vector, combination, dot, plus, scale, zero_vector}
use Rattle.git_geometry.proofs.Blends.{blend_cut, blend_flat, blend_level, blend_some, flat_blend}
use Rattle.git_geometry.proofs.Cuts.{cut_closed, cut_more, cut_with, side_at}
use Rattle.git_geometry.proofs.Edges.{dominator_on_edge}
use Rattle.git_geometry.proofs.Faces.{FaceIn, face_closed, flat_left}
use Rattle.git_geometry.proofs.Identities.{dot-scale_zero, expand, plus-comm, rays_meet, trade}
use Rattle.git_geometry.proofs.Rays.{on_ray_unscale, primitive_of_ray, some_times}
use Rattle.git_geometry.specs.Generators.{Generates}
use Rattle.git_geometry.specs.Stages.{blend}
use Rattle.git_geometry.specs.Zeros.{Adjacent, Flat, ZeroOnBoth}
use Rattle.git_lemmas.proofs.Members.{as_member, contained}
use Rattle.git_geometry.proofs.Contained.{inside_at}

two_weights : (k : ℕ) (r s : Vector) (ws : List ℕ) → length r ≡ k → length s ≡ k → length ws ≡ 2
    → (e : ℕ) × (f : ℕ) × (combination k (map pos ws) (r ∷ s ∷ []) ≡ plus (scale (pos e) r) (scale (pos f) s))
two_weights k r s [] lr ls n = absurd (omega arith)
two_weights k r s (e ∷ []) lr ls n = absurd (omega arith)
two_weights k r s (e ∷ (f ∷ [])) lr ls n = (e, f, ap (plus (scale (pos e) r)) (plus-zero (scale (pos f) s) k (length-scale (pos f) s ∙ ls)))
two_weights k r s (e ∷ (f ∷ (g ∷ ws))) lr ls n = absurd (omega arith)

natural : (z : ℤ) → pos 0 ≤ℤ z → z ≡ pos (up z)
natural (pos n) h = ap pos (omega arith)
natural (negsuc n) h = absurd (omega (arith, ints))

module _ (k : ℕ) (A R : List Vector) (g : Generates k A R) (pointed : IsPointed k (Cut k A))
    (b r s : Vector) (cr : Cut k A r) (cs : Cut k A s) (some : r ≡ zero_vector k → ⊥) (up_side : pos 0 <ℤ dot b r) (low_side : dot b s <ℤ pos 0) where
  pair_of_length : OfLength k (r ∷ s ∷ [])
  pair_of_length = record {
    each = λ v m. elim m [
      | inl e ↦ ap length (sym e) ∙ cr.entries
      | inr n ↦ elim n [ inl e ↦ ap length (sym e) ∙ cs.entries | inr o ↦ absurd o ]
    ];
  }

  pub adjacent_edge : Adjacent A R r s → IsEdge k (Cut k (b ∷ A)) (blend b r s)
  adjacent_edge adjacent = record {
    member = blend_cut k A b r s cr cs up_side low_side;
    nonzero = blend_some k A b r s cr cs up_side low_side pointed some;
    alone = λ y z t cy cz p e.
        let flat : Flat (ZeroOnBoth r s) A (plus y z) = (λ a m f. ap (dot a) e ∙ dot-scale_zero a (pos t) (blend b r s)
        (blend_flat k A b r s cr cs up_side low_side a f)) in
        let h = in_pair y (g.all y (cut_more k A b y cy)) (flat_left k (ZeroOnBoth r s) A y z (cut_more k A b y cy) (cut_more k A b z cz) flat) in
        let w = two_weights k r s h.weights cr.entries cs.entries h.one_each in
        let d = dot-plus b y z (cy.entries ∙ sym cz.entries) in
        let g = ap (dot b) e ∙ dot-scale_zero b (pos t) (blend b r s) (blend_level k A b r s cr cs up_side low_side) in
        let yb = side_at cy b (inl refl) in let zb = side_at cz b (inl refl) in
        let flat_y : dot b y ≡ pos 0 = omega (arith, ints, d, g) in
        on_blend y h.multiple w.0 w.1 h.positive (h.sum ∙ w.2) flat_y;
  } where
    in_pair : (y : Vector) → InCone k R y → Flat (ZeroOnBoth r s) A y → InCone k (r ∷ s ∷ []) y
    in_pair y h = (closed_cone k (FaceIn k A (ZeroOnBoth r s) (InCone k (r ∷ s ∷ []))) R y
        (face_closed k A (ZeroOnBoth r s) (InCone k (r ∷ s ∷ [])) (cone_closed k (r ∷ s ∷ []) pair_of_length))
        (λ t m. record {
          cut = inside_at g t m;
          inside = λ f. elim (adjacent.only t (contained R m) f) [
            | inl e ↦ cone_has k (r ∷ s ∷ []) t pair_of_length (inl e)
            | inr e ↦ cone_has k (r ∷ s ∷ []) t pair_of_length (inr (inl e))
          ];
        }) h).inside

    on_blend : (y : Vector) (m e f : ℕ) → 0 < m → scale (pos m) y ≡ plus (scale (pos e) r) (scale (pos f) s) → dot b y ≡ pos 0 → OnRay y (blend b r s)
    on_blend y m e f p h flat =
        let level : pos e *ℤ dot b r +ℤ pos f *ℤ dot b s ≡ pos 0 =
        (λ i. sym (dot-scale b (pos e) r) i +ℤ sym (dot-scale b (pos f) s) i)
        ∙ sym (dot-plus b (scale (pos e) r) (scale (pos f) s)
        (length-scale (pos e) r ∙ cr.entries ∙ sym cs.entries ∙ sym (length-scale (pos f) s)))
        ∙ ap (dot b) (sym h) ∙ dot-scale_zero b (pos m) y flat in
        let c = natural (dot b r) (omega (arith, ints)) in
        let some : 0 < up (dot b r) = omega (arith, ints) in
        let blend_entries = (blend_cut k A b r s cr cs up_side low_side).entries in
        record {
          multiple = up (dot b r) * m;
          times = f;
          positive = omega (arith, mul-le-mul some p);
          same = ap (λ (z : ℤ). scale z y) (sym (pos-*ℤ-pos (up (dot b r)) m)) ∙ sym (scale-scale (pos (up (dot b r))) (pos m) y)
              ∙ (λ i. scale (sym c i) (h i))
              ∙ rays_meet (dot b r) (dot b s) (pos e) (pos f) r s ∙ ap (λ (z : ℤ). plus (scale (pos f) (blend b r s)) (scale z r)) level
              ∙ ap (plus (scale (pos f) (blend b r s))) (scale_none r k cr.entries)
              ∙ plus-zero (scale (pos f) (blend b r s)) k (length-scale (pos f) (blend b r s) ∙ blend_entries);
        }

-- two edges of which a sum with w is the other's sum with w
module _ (k : ℕ) (A : List Vector) (t v w : Vector) (et : IsEdge k (Cut k A) t) (ev : IsEdge k (Cut k A) v) (cw : Cut k A w) where
  as_part : (c d e : ℤ) (y x : Vector) → IsEdge k (Cut k A) x → Cut k A y → pos 0 <ℤ c → pos 0 <ℤ d → pos 0 ≤ℤ e
      → plus (scale c y) (scale e w) ≡ scale d x → OnRay y x
  as_part c (negsuc n) e y x ex cy pc pd pe h = absurd (omega (arith, ints))
  as_part c (pos n) e y x ex cy pc pd pe h =
      let cuts = cut_closed k A in
      on_ray_unscale c y x pc (ex.alone (scale c y) (scale e w) n (cuts.multiples c y (omega (arith, ints)) cy) (cuts.multiples e w pe cw)
      (omega (arith, ints)) h)

  pub one_of_two : (c d p q : ℤ) → pos 0 <ℤ c → pos 0 <ℤ d → plus (scale c t) (scale p w) ≡ plus (scale d v) (scale q w) → OnRay t v ⊎ OnRay v t
  one_of_two c d p q pc pd h =
      let lt = length-scale c t ∙ et.member.entries ∙ sym cw.entries in let lv = length-scale d v ∙ ev.member.entries ∙ sym cw.entries in
      elim (sign_of (p -ℤ q)) [
        | inl more ↦ inl (as_part c d (p -ℤ q) t v ev et.member pc pd more
            (trade (scale c t) (scale d v) w p q (p -ℤ q) lt lv (omega (arith, ints)) h))
        | inr less ↦ inr (as_part d c (q -ℤ p) v t et ev.member pd pc (omega (arith, ints))
            (trade (scale d v) (scale c t) w q p (q -ℤ p) lv lt (omega (arith, ints)) (sym h)))
      ]

-- where the blend of r and s is an edge, an edge t with the zeros of both is on the ray of r or of s
module _ (k : ℕ) (A : List Vector) (pointed : IsPointed k (Cut k A)) (b r s : Vector) (er : IsEdge k (Cut k A) r) (es : IsEdge k (Cut k A) s)
    (up_side : pos 0 <ℤ dot b r) (low_side : dot b s <ℤ pos 0) (edge : IsEdge k (Cut k (b ∷ A)) (blend b r s)) (t : Vector)
    (et : IsEdge k (Cut k A) t) (flat : Flat (ZeroOnBoth r s) A t) where
  cr : Cut k A r
  cr = er.member

  cs : Cut k A s
  cs = es.member

  ct : Cut k A t
  ct = et.member

  record Near : Type 0 where
    first : (OnRay t r ⊎ OnRay r t) ⊎ (OnRay t s ⊎ OnRay s t)

  -- what is 0 where the blend is lies on its ray
  on_blend_ray : (u : Vector) → Cut k (b ∷ A) u → dot b u ≡ pos 0 → ((a : Vector) → Member a A → ZeroOnBoth r s a → dot a u ≡ pos 0)
      → OnRay u (blend b r s)
  on_blend_ray u cu level f = dominator_on_edge k (b ∷ A) u (blend b r s) edge cu (record { zeros = λ a m. zero_at a (as_member (b ∷ A) m) }) where
    zero_at : (a : Vector) → Member a (b ∷ A) → dot a (blend b r s) ≡ pos 0 → dot a u ≡ pos 0
    zero_at a (inl e) z = subst (λ (c : Vector). dot c u ≡ pos 0) e level
    zero_at a (inr m) z = f a m (flat_blend k A b r s cr cs up_side low_side a m z)

  -- n (b r) s - n (b s) r
  blend_times : (n : ℕ) → scale (pos n) (blend b r s) ≡ plus (scale (pos n *ℤ neg_ℤ (dot b s)) r) (scale (pos n *ℤ dot b r) s)
  blend_times n = expand (pos n) (dot b r) (dot b s) r s

  positive_pos : (n : ℕ) → 0 < n → pos 0 <ℤ pos n
  positive_pos n p = omega (arith, ints)

  near_level : dot b t ≡ pos 0 → Near
  near_level level =
      let cut : Cut k (b ∷ A) t = cut_with b (omega (arith, ints, level)) ct in
      let o = on_blend_ray t cut level (λ a m f. flat a (contained A m) f) in
      let n = some_times k (blend b r s) t (blend_cut k A b r s cr cs up_side low_side).entries et.nonzero o in
      record {
        first = inl (one_of_two k A t r s et er cs (pos o.multiple) (pos o.times *ℤ neg_ℤ (dot b s)) (pos 0) (pos o.times *ℤ dot b r)
            (positive_pos o.multiple o.positive) (mul_pos (pos o.times) (neg_ℤ (dot b s)) (positive_pos o.times n) (omega (arith, ints)))
            (ap (plus (scale (pos o.multiple) t)) (scale_none s k cs.entries)
            ∙ plus-zero (scale (pos o.multiple) t) k (length-scale (pos o.multiple) t ∙ ct.entries) ∙ o.same ∙ blend_times o.times));
      }

  near_above : pos 0 <ℤ dot b t → Near
  near_above above =
      let u = blend b t s in
      let cut = blend_cut k A b t s ct cs above low_side in
      let o = on_blend_ray u cut (blend_level k A b t s ct cs above low_side)
      (λ a m f. blend_flat k A b t s ct cs above low_side a (flat a (contained A m) f, f.1)) in
      let n = some_times k (blend b r s) u (blend_cut k A b r s cr cs up_side low_side).entries
      (blend_some k A b t s ct cs above low_side pointed et.nonzero) o in
      record {
        first = inl (one_of_two k A t r s et er cs (pos o.multiple *ℤ neg_ℤ (dot b s)) (pos o.times *ℤ neg_ℤ (dot b s)) (pos o.multiple *ℤ dot b t)
            (pos o.times *ℤ dot b r)
            (mul_pos (pos o.multiple) (neg_ℤ (dot b s)) (positive_pos o.multiple o.positive) (omega (arith, ints)))
            (mul_pos (pos o.times) (neg_ℤ (dot b s)) (positive_pos o.times n) (omega (arith, ints)))
            (sym (expand (pos o.multiple) (dot b t) (dot b s) t s) ∙ o.same ∙ blend_times o.times));
      }

  near_below : dot b t <ℤ pos 0 → Near
  near_below below =
      let u = blend b r t in
      let cut = blend_cut k A b r t cr ct up_side below in
      let o = on_blend_ray u cut (blend_level k A b r t cr ct up_side below)
      (λ a m f. blend_flat k A b r t cr ct up_side below a (f.0, flat a (contained A m) f)) in
      let n = some_times k (blend b r s) u (blend_cut k A b r s cr cs up_side low_side).entries
      (blend_some k A b r t cr ct up_side below pointed er.nonzero) o in
      record {
        first = inr (one_of_two k A t s r et es cr (pos o.multiple *ℤ dot b r) (pos o.times *ℤ dot b r) (pos o.multiple *ℤ neg_ℤ (dot b t))
            (pos o.times *ℤ neg_ℤ (dot b s))
            (mul_pos (pos o.multiple) (dot b r) (positive_pos o.multiple o.positive) (omega (arith, ints)))
            (mul_pos (pos o.times) (dot b r) (positive_pos o.times n) (omega (arith, ints)))
            (plus-comm _ _ ∙ sym (expand (pos o.multiple) (dot b r) (dot b t) r t) ∙ o.same ∙ blend_times o.times ∙ plus-comm _ _));
      }

  near : Near
  near = elim (sign_of (dot b t)) [
    | inl up ↦ elim (positive_or_zero (dot b t) up) [ inl more ↦ near_above more | inr level ↦ near_level level ]
    | inr below ↦ near_below below
  ]

  pub edge_near : IsPrimitive r → IsPrimitive s → IsPrimitive t → (r ≡ t) ⊎ (s ≡ t)
  edge_near pr ps pt =
      let same = λ (x y : Vector) (ex : IsEdge k (Cut k A) x) (ey : IsEdge k (Cut k A) y) (px : IsPrimitive x) (py : IsPrimitive y)
      (o : OnRay y x). primitive_of_ray k x y ex.member.entries ey.nonzero px py o in
      elim near.first [
        | inl a ↦ inl (elim a [ inl o ↦ sym (same r t er et pr pt o) | inr o ↦ same t r et er pt pr o ])
        | inr a ↦ inr (elim a [ inl o ↦ sym (same s t es et ps pt o) | inr o ↦ same t s et es pt ps o ])
      ]
