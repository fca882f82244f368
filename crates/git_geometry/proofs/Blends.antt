-- One inequality more: the vectors on its side, and the blends across it, generate what is left of the cone.
use Rattle.std.proofs.Common.{◌≡◌, ◌∙◌, ◌∷◌, [], List, ap, arith, inl, inr, length, map, refl, subst, suc, sym, zero, ℕ}
use Rattle.std.proofs.Math.IntN.{◌+ℤ◌, ◌*ℤ◌, neg_ℤ, negsuc, pos, ℤ}
use Rattle.std.proofs.lemmas.Int.{ints}
use Rattle.std.specs.Prelude.{◌<ℤ◌, ◌≤ℤ◌}
use borrow.Author.Differences.{up}
use Rattle.git_defs.specs.Cones.{IsClosed, Cut, InCone, IsPointed}
use Rattle.git_defs.proofs.Closed.{positive_or_zero, sign_of}
use Rattle.git_lemmas.proofs.Integers.{add_nonneg, diff, diff_add, diff_mul, diff_neg, diff_same, mul_nonneg, nonpos_mul, zero_of_mul}
use Rattle.git_defs.proofs.Linear.{dot-plus, dot-scale, dot-zero, length-plus, length-scale, length-zero}
use Rattle.git_lemmas.specs.Members.{Member}
use Rattle.git_defs.proofs.Lengths.{OfLength}
use Rattle.git_defs.proofs.Sums.{plus-zero, scale-zero, scale_none, zero-plus}
use Rattle.git_defs.specs.Vectors.{Vector, combination, dot, plus, scale, zero_vector}
use Rattle.git_geometry.proofs.Cuts.{cut_closed, cut_of, side_at}
use Rattle.git_geometry.proofs.Identities.{blend_left, blend_right, blend_scaled, blend_scaled_right, mix, plus-assoc, plus-comm}
use Rattle.git_geometry.proofs.Primitive.{vanish}
use Rattle.git_geometry.specs.Stages.{blend}
use Rattle.git_geometry.specs.Zeros.{ZeroOnBoth}

-- ---- the blend of two vectors
module _ (k : ℕ) (A : List Vector) (b r s : Vector) (cr : Cut k A r) (cs : Cut k A s) (up_side : pos 0 <ℤ dot b r) (low_side : dot b s <ℤ pos 0) where
  same_lengths : length (scale (dot b r) s) ≡ length (scale (neg_ℤ (dot b s)) r)
  same_lengths = length-scale (dot b r) s ∙ cs.entries ∙ sym cr.entries ∙ sym (length-scale (neg_ℤ (dot b s)) r)

  pub dot-blend : (a : Vector) → dot a (blend b r s) ≡ dot b r *ℤ dot a s +ℤ neg_ℤ (dot b s) *ℤ dot a r
  dot-blend a = dot-plus a (scale (dot b r) s) (scale (neg_ℤ (dot b s)) r) same_lengths
      ∙ (λ i. dot-scale a (dot b r) s i +ℤ dot-scale a (neg_ℤ (dot b s)) r i)

  pub blend_level : dot b (blend b r s) ≡ pos 0
  blend_level = dot-blend b ∙ none (dot b r) (dot b s) where
    none : (c d : ℤ) → c *ℤ d +ℤ neg_ℤ d *ℤ c ≡ pos 0
    none c d = diff_same (diff_add (diff_mul (diff c) (diff d)) (diff_mul (diff_neg (diff d)) (diff c))) (diff (pos 0)) (omega arith)

  pub blend_cut : Cut k (b ∷ A) (blend b r s)
  blend_cut = cut_of (length-plus (scale (dot b r) s) (scale (neg_ℤ (dot b s)) r) same_lengths ∙ length-scale (dot b r) s ∙ cs.entries)
      (λ a m. elim m [
        | inl e ↦ subst (λ (c : Vector). pos 0 ≤ℤ dot c (blend b r s)) e (let f = blend_level in omega (arith, ints))
        | inr n ↦ subst (λ (z : ℤ). pos 0 ≤ℤ z) (sym (dot-blend a))
            (add_nonneg _ _ (mul_nonneg (dot b r) (dot a s) (omega (arith, ints)) (side_at cs a n))
            (mul_nonneg (neg_ℤ (dot b s)) (dot a r) (omega (arith, ints)) (side_at cr a n)))
      ])

  pub blend_flat : (a : Vector) → ZeroOnBoth r s a → dot a (blend b r s) ≡ pos 0
  blend_flat a z = dot-blend a ∙ (λ i. dot b r *ℤ z.1 i +ℤ neg_ℤ (dot b s) *ℤ z.0 i) ∙ none (dot b r) (neg_ℤ (dot b s)) where
    none : (c d : ℤ) → c *ℤ pos 0 +ℤ d *ℤ pos 0 ≡ pos 0
    none c d = diff_same (diff_add (diff_mul (diff c) (diff (pos 0))) (diff_mul (diff d) (diff (pos 0)))) (diff (pos 0)) (omega arith)

  pub flat_blend : (a : Vector) → Member a A → dot a (blend b r s) ≡ pos 0 → ZeroOnBoth r s a
  flat_blend a m e =
      let f = sym (dot-blend a) ∙ e in
      let g = mul_nonneg (dot b r) (dot a s) (omega (arith, ints)) (side_at cs a m) in
      let h = mul_nonneg (neg_ℤ (dot b s)) (dot a r) (omega (arith, ints)) (side_at cr a m) in (
        zero_of_mul (neg_ℤ (dot b s)) (dot a r) (omega (arith, ints)) (omega (arith, ints, f, g, h)),
        zero_of_mul (dot b r) (dot a s) (omega (arith, ints)) (omega (arith, ints, f, g, h)),
      )

  pub blend_some : IsPointed k (Cut k A) → (r ≡ zero_vector k → ⊥) → blend b r s ≡ zero_vector k → ⊥
  blend_some pointed some e =
      let cuts = cut_closed k A in
      let z = pointed (scale (neg_ℤ (dot b s)) r) (scale (dot b r) s) (cuts.multiples _ r (omega (arith, ints)) cr)
      (cuts.multiples _ s (omega (arith, ints)) cs) (plus-comm _ _ ∙ e) in
      some (gone (neg_ℤ (dot b s)) r (omega (arith, ints)) z) where
        gone : (c : ℤ) (r : Vector) → pos 0 <ℤ c → scale c r ≡ zero_vector k → r ≡ zero_vector k
        gone (pos n) r p e = vanish k n r (omega (arith, ints)) e
        gone (negsuc n) r p e = absurd (omega (arith, ints))

module _ (k : ℕ) (D : Vector → Type 0) (closed : IsClosed k D) (b : Vector) (R : List Vector) (have : OfLength k R)
    (kept : (r : Vector) → Member r R → pos 0 ≤ℤ dot b r → D r)
    (made : (r s : Vector) → Member r R → Member s R → pos 0 <ℤ dot b r → dot b s <ℤ pos 0 → D (blend b r s)) where
  record Over (p : Vector) : Type 0 where
    own : D p
    side : pos 0 ≤ℤ dot b p
    crosses : (s : Vector) → Member s R → dot b s <ℤ pos 0 → D (blend b p s)

  record Under (n : Vector) : Type 0 where
    entries : length n ≡ k
    side : dot b n ≤ℤ pos 0
    level : dot b n ≡ pos 0 → n ≡ zero_vector k
    crosses : (p : Vector) → Over p → D (blend b p n)

  over_plus : (p q : Vector) → Over p → Over q → Over (plus p q)
  over_plus p q P Q =
      let e = dot-plus b p q (closed.entries p P.own ∙ sym (closed.entries q Q.own)) in
      record {
        own = closed.sums p q P.own Q.own;
        side = (let u = P.side in let v = Q.side in omega (arith, ints, e));
        crosses = λ s m h. subst D
            (sym (blend_left (dot b p) (dot b q) (neg_ℤ (dot b s)) p q s)
            ∙ ap (λ (z : ℤ). plus (scale z s) (scale (neg_ℤ (dot b s)) (plus p q))) (sym e))
            (closed.sums _ _ (P.crosses s m h) (Q.crosses s m h));
      }

  over_scale : (w : ℤ) (p : Vector) → pos 0 ≤ℤ w → Over p → Over (scale w p)
  over_scale w p s P =
      let e = dot-scale b w p in
      record {
        own = closed.multiples w p s P.own;
        side = subst (λ (z : ℤ). pos 0 ≤ℤ z) (sym e) (mul_nonneg w (dot b p) s P.side);
        crosses = λ n m h. subst D
            (sym (blend_scaled w (dot b p) (neg_ℤ (dot b n)) p n) ∙ ap (λ (z : ℤ). plus (scale z n) (scale (neg_ℤ (dot b n)) (scale w p))) (sym e))
            (closed.multiples w _ s (P.crosses n m h));
      }

  over_member : (r : Vector) → Member r R → pos 0 ≤ℤ dot b r → Over r
  over_member r m side = record {
    own = kept r m side;
    side = side;
    crosses = λ s n h. elim (positive_or_zero (dot b r) side) [
      | inl more ↦ made r s m n more h
      | inr none ↦ subst D
          (sym ((λ i. plus (scale (none i) s) (scale (neg_ℤ (dot b s)) r))
          ∙ ap (λ (u : Vector). plus u (scale (neg_ℤ (dot b s)) r)) (scale_none s k (have.each s n))
          ∙ zero-plus (scale (neg_ℤ (dot b s)) r) k (length-scale (neg_ℤ (dot b s)) r ∙ have.each r m)))
          (closed.multiples (neg_ℤ (dot b s)) r (omega (arith, ints)) (kept r m side))
    ];
  }

  under_plus : (m n : Vector) → Under m → Under n → Under (plus m n)
  under_plus m n M N =
      let e = dot-plus b m n (M.entries ∙ sym N.entries) in
      record {
        entries = length-plus m n (M.entries ∙ sym N.entries) ∙ M.entries;
        side = (let u = M.side in let v = N.side in omega (arith, ints, e));
        level = λ h.
            let u = M.side in let v = N.side in
            let f = M.level (omega (arith, ints, e)) in let g = N.level (omega (arith, ints, e)) in
            (λ i. plus (f i) (g i)) ∙ plus-zero (zero_vector k) k (length-zero k);
        crosses = λ p P. subst D
            (sym (blend_right (dot b p) (dot b m) (dot b n) p m n) ∙ ap (λ (z : ℤ). plus (scale (dot b p) (plus m n)) (scale (neg_ℤ z) p)) (sym e))
            (closed.sums _ _ (M.crosses p P) (N.crosses p P));
      }

  under_scale : (w : ℕ) (n : Vector) → Under n → Under (scale (pos w) n)
  under_scale w n N =
      let e = dot-scale b (pos w) n in
      record {
        entries = length-scale (pos w) n ∙ N.entries;
        side = (let u = N.side in subst (λ (z : ℤ). z ≤ℤ pos 0) (sym e) (nonpos_mul (pos w) (dot b n) (omega (arith, ints)) u));
        level = λ h. level_of w (sym e ∙ h);
        crosses = λ p P. subst D
            (sym (blend_scaled_right (pos w) (dot b p) (dot b n) p n)
            ∙ ap (λ (z : ℤ). plus (scale (dot b p) (scale (pos w) n)) (scale (neg_ℤ z) p)) (sym e))
            (closed.multiples (pos w) _ (omega (arith, ints)) (N.crosses p P));
      } where
        level_of : (w : ℕ) → pos w *ℤ dot b n ≡ pos 0 → scale (pos w) n ≡ zero_vector k
        level_of zero h = scale_none n k N.entries
        level_of (suc w) h = ap (scale (pos (suc w))) (N.level (zero_of_mul (pos (suc w)) (dot b n) (omega (arith, ints)) h))
            ∙ scale-zero (pos (suc w)) k

  under_member : (s : Vector) → Member s R → dot b s <ℤ pos 0 → Under s
  under_member s m side = record {
    entries = have.each s m;
    side = omega (arith, ints);
    level = λ h. absurd (omega (arith, ints));
    crosses = λ p P. P.crosses s m side;
  }

  record Split (x : Vector) : Type 0 where
    over : Vector
    under : Vector
    is : x ≡ plus over under
    over_in : Over over
    under_in : Under under

  over_none : Over (zero_vector k)
  over_none = let e = dot-zero b k in record {
    own = closed.none;
    side = omega (arith, ints, e);
    crosses = λ s m h. subst D
        (sym ((λ i. plus (scale (e i) s) (scale (neg_ℤ (dot b s)) (zero_vector k)))
        ∙ (λ i. plus (scale_none s k (have.each s m) i) (scale-zero (neg_ℤ (dot b s)) k i)) ∙ plus-zero (zero_vector k) k (length-zero k)))
        closed.none;
  }

  under_none : Under (zero_vector k)
  under_none = let e = dot-zero b k in record {
    entries = length-zero k;
    side = omega (arith, ints, e);
    level = λ h. refl;
    crosses = λ p P. subst D
        (sym ((λ i. plus (scale-zero (dot b p) k i) (scale (neg_ℤ (e i)) p)) ∙ (λ i. plus (zero_vector k) (scale_none p k (closed.entries p P.own) i))
        ∙ plus-zero (zero_vector k) k (length-zero k)))
        closed.none;
  }

  none_split : Split (zero_vector k)
  none_split = record {
    over = zero_vector k;
    under = zero_vector k;
    is = sym (plus-zero (zero_vector k) k (length-zero k));
    over_in = over_none;
    under_in = under_none;
  }

  split : (ws : List ℕ) (vs : List Vector) → ((v : Vector) → Member v vs → Member v R) → Split (combination k (map pos ws) vs)
  split [] vs within = none_split
  split (w ∷ ws) [] within = none_split
  split (w ∷ ws) (v ∷ vs) within =
      let rest = split ws vs (λ x m. within x (inr m)) in
      let here = within v (inl refl) in
      let first = scale (pos w) v in
      elim (sign_of (dot b v)) [
        | inl up ↦ record {
          over = plus first rest.over;
          under = rest.under;
          is = ap (plus first) rest.is ∙ plus-assoc first rest.over rest.under;
          over_in = over_plus first rest.over (over_scale (pos w) v (omega (arith, ints)) (over_member v here up)) rest.over_in;
          under_in = rest.under_in;
        }
        | inr low ↦ record {
          over = rest.over;
          under = plus first rest.under;
          is = ap (plus first) (rest.is ∙ plus-comm rest.over rest.under) ∙ plus-assoc first rest.under rest.over
              ∙ plus-comm (plus first rest.under) rest.over;
          over_in = rest.over_in;
          under_in = under_plus first rest.under (under_scale w v (under_member v here low)) rest.under_in;
        }
      ]

  joined : (p n : Vector) → Over p → Under n → pos 0 ≤ℤ dot b (plus p n) → D (plus p n)
  joined p n P N side =
      let e = dot-plus b p n (closed.entries p P.own ∙ sym N.entries) in
      let u = P.side in let v = N.side in
      elim (positive_or_zero (dot b p) P.side) [
        | inl more ↦ closed.quotients (dot b p) (plus p n) more
            (subst D (sym (mix (dot b p) (dot b n) p n)) (closed.sums _ _ (N.crosses p P)
            (closed.multiples (dot b p +ℤ dot b n) p (omega (arith, ints, e)) P.own)))
        | inr none ↦
            let f = N.level (omega (arith, ints, e)) in
            subst D (sym (plus-zero p k (closed.entries p P.own)) ∙ ap (plus p) (sym f)) P.own
      ]

  -- one step of double description
  pub one_more : (x : Vector) → InCone k R x → pos 0 ≤ℤ dot b x → D x
  one_more x h side =
      let s = split h.weights R (λ v m. m) in
      let is = h.sum ∙ s.is in
      let e = dot-scale b (pos h.multiple) x in
      let t = h.positive in
      closed.quotients (pos h.multiple) x (omega (arith, ints))
      (subst D (sym is) (joined s.over s.under s.over_in s.under_in
      (subst (λ (u : Vector). pos 0 ≤ℤ dot b u) is (subst (λ (z : ℤ). pos 0 ≤ℤ z) (sym e)
      (mul_nonneg (pos h.multiple) (dot b x) (omega (arith, ints)) side)))))
