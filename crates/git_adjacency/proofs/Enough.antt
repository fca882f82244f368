-- The inequalities at which two neighbours are both 0 are at least k - 2.
use Rattle.std.proofs.Common.{◌≡◌, ◌+◌, ◌*◌, ◌≤◌, ℕ, zero, suc, List, [], ◌∷◌, length, refl, sym, ◌∙◌, ap, subst, arith, inl, inr}
use Rattle.std.proofs.Math.IntN.{ℤ, pos, negsuc, ◌+ℤ◌, ◌*ℤ◌, pos-*ℤ-pos}
use Rattle.std.proofs.lemmas.Int.{ints}
use Rattle.std.specs.Prelude.{◌≤ℤ◌, Contains}
use Rattle.std.specs.Int.RustNames.{unsigned_abs}
use Rattle.git_defs.specs.Vectors.{Vector, dot, plus, scale}
use Rattle.git_defs.specs.Cones.{Cut, IsPointed}
use Rattle.git_defs.proofs.Closed.{cone_has}
use Rattle.git_defs.proofs.Lengths.{OfLength, all_of_length, more_of_length}
use Rattle.git_defs.proofs.Linear.{dot-comm, dot-plus, dot-scale, length-plus, length-scale}
use Rattle.git_lemmas.specs.Members.{Member}
use Rattle.git_lemmas.proofs.Integers.{mul_nonneg}
use Rattle.git_geometry.proofs.Cuts.{cut_of, side_at}
use Rattle.git_geometry.proofs.Elimination.{LevelAt, level_closed}
use Rattle.git_geometry.proofs.Faces.{FaceIn, face_closed}
use Rattle.git_geometry.proofs.Identities.{dot-scale_zero}
use Rattle.git_geometry.proofs.Independence.{chosen_member}
use Rattle.git_geometry.proofs.Ranks.{rank_or_zero}
use Rattle.git_geometry.proofs.Signed.{signed_has, signed_of_length}
use Rattle.git_geometry.proofs.Spans.{independent_at_most}
use Rattle.git_geometry.proofs.Squares.{zero_or_positive}
use Rattle.git_geometry.proofs.Stages.{exact_generates}
use Rattle.git_geometry.specs.Elimination.{signed}
use Rattle.git_geometry.specs.Generators.{CommonZero}
use Rattle.git_geometry.specs.Stages.{Exact}
use Rattle.git_geometry.specs.Zeros.{Flat, Adjacent, ZeroOnBoth}
use Rattle.git_adjacency.specs.Sides.{HasZeros}
use Rattle.git_lemmas.proofs.Members.{as_member, contained}
use Rattle.git_geometry.proofs.Contained.{edge_at}

-- ---- a multiple of y outweighs x where x is 0 wherever y is
outweighs : (n : ℕ) (s r : ℤ) → pos 0 ≤ℤ r → (r ≡ pos 0 → s ≡ pos 0) → unsigned_abs s ≤ n → pos 0 ≤ℤ ((pos n *ℤ r) +ℤ s)
outweighs n (pos s) r p f le = let e = mul_nonneg (pos n) r (omega (arith, ints)) p in omega (arith, ints, e)
outweighs n (negsuc s) (pos zero) p f le = absurd (let e = f refl in omega (arith, ints, e))
outweighs n (negsuc s) (pos (suc r)) p f le = let e = pos-*ℤ-pos n (suc r) in omega (arith, ints, e, grow n r) where
  grow : (n r : ℕ) → n ≤ n * suc r
  grow n r = omega arith
outweighs n (negsuc s) (negsuc r) p f le = absurd (omega (arith, ints, p))

record Lift (A : List Vector) (y x : Vector) : Type 0 where
  times : ℕ
  holds : (n : ℕ) → times ≤ n → (a : Vector) → Member a A → pos 0 ≤ℤ ((pos n *ℤ dot a y) +ℤ dot a x)

lift : (A : List Vector) (y x : Vector) → ((a : Vector) → Member a A → pos 0 ≤ℤ dot a y) → ((a : Vector) → Member a A → dot a y ≡ pos 0 → dot a x ≡ pos 0) → Lift A y x
lift [] y x side level = record { times = 0; holds = λ n le a m. absurd m }
lift (b ∷ A) y x side level =
    let rest = lift A y x (λ a m. side a (inr m)) (λ a m. level a (inr m)) in
    record {
      times = rest.times + unsigned_abs (dot b x);
      holds = λ n le a m. elim m [
        | inl e ↦ subst (λ (c : Vector). pos 0 ≤ℤ ((pos n *ℤ dot c y) +ℤ dot c x)) e
            (outweighs n (dot b x) (dot b y) (side b (inl refl)) (level b (inl refl)) (omega (arith, le)))
        | inr o ↦ rest.holds n (omega (arith, le)) a o
      ];
    }

module _ (k : ℕ) (A R : List Vector) (pointed : IsPointed k (Cut k A)) (exact : Exact k A R) (r s : Vector) (r_in : Contains R r) (s_in : Contains R s)
    (adjacent : Adjacent A R r s) (zeros : List Vector) (has : HasZeros k A r s zeros) where
  cr : Cut k A r
  cr = (exact.edges r r_in).member

  cs : Cut k A s
  cs = (exact.edges s s_in).member

  abbrev sum : Vector
  sum = plus r s

  sum_cut : (a : Vector) → Member a A → (dot a sum ≡ dot a r +ℤ dot a s)
  sum_cut a m = dot-plus a r s (cr.entries ∙ sym cs.entries)

  sum_long : length sum ≡ k
  sum_long = length-plus r s (cr.entries ∙ sym cs.entries) ∙ cr.entries

  -- a vector on which r, s and these inequalities are all 0 would leave the face, which r and s generate
  no_zero : CommonZero k (r ∷ s ∷ zeros) → ⊥
  no_zero c = elim (zero_or_positive k x c.entries) [ inl none ↦ c.nonzero none | inr more ↦ omega (arith, ints, more, square) ] where
    x : Vector
    x = c.vector

    zero_in : (a : Vector) → Contains zeros a → Contains (r ∷ s ∷ zeros) a
    zero_in a m = contained (r ∷ s ∷ zeros) (inr (inr (as_member zeros m)))

    up : Lift A sum x
    up = lift A sum x (λ a m. let e = sum_cut a m in let u = side_at cr a m in let v = side_at cs a m in omega (arith, ints, e, u, v))
        (λ a m z. c.level a (zero_in a (has.all a (contained A m)
        (let e = sum_cut a m in let u = side_at cr a m in let v = side_at cs a m in (omega (arith, ints, e, u, v, z), omega (arith, ints, e, u, v, z))))))

    far : Vector
    far = plus (scale (pos up.times) sum) x

    same : length (scale (pos up.times) sum) ≡ length x
    same = length-scale (pos up.times) sum ∙ sum_long ∙ sym c.entries

    far_is : (a : Vector) → dot a far ≡ (pos up.times *ℤ dot a sum) +ℤ dot a x
    far_is a = dot-plus a (scale (pos up.times) sum) x same ∙ ap (λ (z : ℤ). z +ℤ dot a x) (dot-scale a (pos up.times) sum)

    far_level : (a : Vector) → dot a r ≡ pos 0 → dot a s ≡ pos 0 → dot a far ≡ dot a x
    far_level a f g =
        let e : dot a sum ≡ pos 0 = (let d = dot-plus a r s (cr.entries ∙ sym cs.entries) in omega (arith, ints, d, f, g)) in
        let h = dot-scale_zero a (pos up.times) sum e in let d = dot-plus a (scale (pos up.times) sum) x same in omega (arith, ints, h, d)

    far_cut : Cut k A far
    far_cut = cut_of (length-plus (scale (pos up.times) sum) x same ∙ length-scale (pos up.times) sum ∙ sum_long)
        (λ a m. subst (λ (z : ℤ). pos 0 ≤ℤ z) (sym (far_is a)) (up.holds up.times (omega arith) a m))

    far_flat : Flat (ZeroOnBoth r s) A far
    far_flat a m z = far_level a z.0 z.1 ∙ c.level a (zero_in a (has.all a m z))

    level_r : LevelAt k x r
    level_r = record { entries = cr.entries; level = dot-comm x r ∙ c.level r (contained (r ∷ s ∷ zeros) (inl refl)) }

    level_s : LevelAt k x s
    level_s = record { entries = cs.entries; level = dot-comm x s ∙ c.level s (contained (r ∷ s ∷ zeros) (inr (inl refl))) }

    inside : LevelAt k x far
    inside = (exact_generates k A pointed R exact (FaceIn k A (ZeroOnBoth r s) (LevelAt k x)) (face_closed k A (ZeroOnBoth r s) (LevelAt k x) (level_closed k x))
        (λ t m. record {
          cut = (edge_at exact t m).member;
          inside = λ f. elim (adjacent.only t (contained R m) f) [ inl e ↦ subst (LevelAt k x) e level_r | inr e ↦ subst (LevelAt k x) e level_s ];
        }) far far_cut).inside far_flat

    square : dot x x ≡ pos 0
    square = sym (far_level x level_r.level level_s.level) ∙ inside.level

  three : OfLength k (r ∷ s ∷ zeros)
  three = more_of_length k r (s ∷ zeros) cr.entries (more_of_length k s zeros cs.entries (all_of_length k zeros has.entries))

  pub enough : k ≤ length zeros + 2
  enough = elim (rank_or_zero k (r ∷ s ∷ zeros) three) [
    | inl rank ↦ (
        let most = independent_at_most k (r ∷ s ∷ zeros) rank.chosen three
        (λ v m. cone_has k (signed (r ∷ s ∷ zeros)) v (signed_of_length k (r ∷ s ∷ zeros) three) (signed_has v (r ∷ s ∷ zeros) (chosen_member k (r ∷ s ∷ zeros) rank v m))) rank.independent in
        let count = rank.count in omega (arith, most, count))
    | inr c ↦ absurd (no_zero c)
  ]
