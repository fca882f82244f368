-- A cone that normals cut out holds a germ exactly where no normal has sign -1 at it.
use Rattle.std.proofs.Common.{◌≡◌, ◌+◌, ◌≤◌, ◌∙◌, ◌≢◌, ◌∷◌, ◌^◌, [], List, ap, arith, inl, inr, length, map, subst, suc, sym, ℕ}
use Rattle.std.proofs.Math.IntN.{◌+ℤ◌, ◌*ℤ◌, negsuc, pos, ℤ}
use Rattle.std.proofs.lemmas.Int.{ints}
use Rattle.std.proofs.lemmas.List.{length-map}
use Rattle.std.specs.Prelude.{◌<ℤ◌, ◌≤ℤ◌}
use Rattle.git_defs.proofs.Linear.{dot-plus, dot-scale, dot-zero, length-plus, length-scale, length-zero}
use Rattle.git_lemmas.specs.Members.{Member}
use Rattle.git_lemmas.proofs.Members.{all_member, member_all}
use Rattle.git_defs.proofs.Lengths.{OfLength, first_of_length, rest_of_length}
use Rattle.git_defs.specs.Cones.{Cut, SameSet}
use Rattle.git_defs.specs.Vectors.{Vector, dot, scale}
use Rattle.git_geometry.proofs.Cuts.{cut_of, side_at}
use Rattle.git_geometry.proofs.Polynomials.{neg_large, nonneg_large, poly, pos_large, size}
use Rattle.git_geometry.specs.Germs.{HasInside, HasNoNegative, Holds, germ_at, sign_at}

pub length-germ_at : (k n : ℕ) (germ : List Vector) → OfLength k germ → length (germ_at k n germ) ≡ k
length-germ_at k n [] have = length-zero k
length-germ_at k n (g ∷ gs) have =
    let one = length-scale (pos (n ^ length gs)) g ∙ first_of_length k g gs have in
    length-plus (scale (pos (n ^ length gs)) g) (germ_at k n gs) (one ∙ sym (length-germ_at k n gs (rest_of_length k g gs have))) ∙ one

-- the product with what the germ is at n is a polynomial in n
pub dot-germ_at : (k n : ℕ) (h : Vector) (germ : List Vector) → OfLength k germ → dot h (germ_at k n germ) ≡ poly n (map (dot h) germ)
dot-germ_at k n h [] have = dot-zero h k
dot-germ_at k n h (g ∷ gs) have =
    let p = n ^ length gs in
    let rest = rest_of_length k g gs have in
    let q : p ≡ n ^ length (map (dot h) gs) = ap (λ (m : ℕ). n ^ m) (sym (length-map gs (dot h))) in
    let one = length-scale (pos p) g ∙ first_of_length k g gs have in
    dot-plus h (scale (pos p) g) (germ_at k n gs) (one ∙ sym (length-germ_at k n gs rest))
    ∙ (λ i. dot-scale h (pos p) g i +ℤ dot-germ_at k n h gs rest i)
    ∙ ap (λ (m : ℕ). pos m *ℤ dot h g +ℤ poly n (map (dot h) gs)) q

-- a number above the sizes at all normals
abbrev bound : List Vector → List Vector → ℕ
bound [] germ = 0
bound (h ∷ hs) germ = size (map (dot h) germ) + bound hs germ

bound_at : (normals germ : List Vector) (h : Vector) → Member h normals → size (map (dot h) germ) ≤ bound normals germ
bound_at [] germ h m = absurd m
bound_at (n ∷ ns) germ h (inl e) = subst (λ (v : Vector). size (map (dot v) germ) ≤ bound (n ∷ ns) germ) e (omega arith)
bound_at (n ∷ ns) germ h (inr m) = omega (arith, bound_at ns germ h m)

pub holds_of_signs : (k : ℕ) (normals germ : List Vector) → OfLength k germ → HasNoNegative normals germ → Holds k (Cut k normals) germ
holds_of_signs k normals germ have signs = record { start = suc (bound normals germ); on = on_side } where
  on_side : (n : ℕ) → suc (bound normals germ) ≤ n → Cut k normals (germ_at k n germ)
  on_side n large = cut_of (length-germ_at k n germ have) (λ h m.
      let r = nonneg_large n (map (dot h) germ) (all_member (λ (v : Vector). sign_at v germ ≢ negsuc 0) h normals signs m)
      (omega (arith, bound_at normals germ h m, large)) in
      subst (λ (z : ℤ). pos 0 ≤ℤ z) (sym (dot-germ_at k n h germ have)) r)

pub signs_of_holds : (k : ℕ) (normals germ : List Vector) → OfLength k germ → Holds k (Cut k normals) germ → HasNoNegative normals germ
signs_of_holds k normals germ have holds = member_all (λ (v : Vector). sign_at v germ ≢ negsuc 0) normals (λ h m negative.
    let n = holds.start + suc (bound normals germ) in
    let below = neg_large n (map (dot h) germ) negative (omega (arith, bound_at normals germ h m)) in
    let above = subst (λ (z : ℤ). pos 0 ≤ℤ z) (dot-germ_at k n h germ have) (side_at (holds.on n (omega arith)) h m) in
    omega (arith, ints, below, above))

-- where all signs are 1, the germ comes inside
pub inside_of_signs : (k : ℕ) (normals germ : List Vector) → OfLength k germ → ((h : Vector) → Member h normals → sign_at h germ ≡ pos 1)
    → HasInside k normals
inside_of_signs k normals germ have signs =
    let n = suc (bound normals germ) in
    record {
      point = germ_at k n germ;
      entries = length-germ_at k n germ have;
      off = member_all (λ (h : Vector). pos 0 <ℤ dot h (germ_at k n germ)) normals (λ h m.
          let r = pos_large n (map (dot h) germ) (signs h m) (omega (arith, bound_at normals germ h m)) in
          subst (λ (z : ℤ). pos 0 <ℤ z) (sym (dot-germ_at k n h germ have)) r);
    }

-- equal sets hold the same germs
pub holds_along : (k : ℕ) (C D : Vector → Type 0) (germ : List Vector) → SameSet C D → Holds k C germ → Holds k D germ
holds_along k C D germ same holds = record { start = holds.start; on = λ n large. (same (germ_at k n germ)).0 (holds.on n large) }
