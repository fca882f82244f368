-- The walk from a vector inside the first cone to w, from cone to cone.
use Rattle.std.proofs.Common.{◌≡◌, ◌<◌, ◌≢◌, ◌∙◌, ◌++◌, ◌⊎◌, ◌∷◌, [], Contains, List, ap, arith, inl, inr, length, refl, subst, suc, sym, zero, ℕ}
use Rattle.std.proofs.Math.IntN.{◌+ℤ◌, ◌*ℤ◌, neg_ℤ, negsuc, pos, ℤ}
use Rattle.std.proofs.lemmas.Int.{ints}
use Rattle.std.specs.Prelude.{◌<ℤ◌, ◌≤ℤ◌}
use borrow.Author.Differences.{product_is}
use Rattle.git_defs.specs.Cones.{Cut, InCone}
use Rattle.git_defs.specs.Vectors.{Vector, HasRank, dot, plus, scale, zero_vector}
use Rattle.git_defs.proofs.Closed.{closed_cone, cone_closed, cone_has, positive_or_zero}
use Rattle.git_defs.proofs.Lengths.{OfLength}
use Rattle.git_defs.proofs.Linear.{dot-comm, dot-zero, length-plus, length-scale}
use Rattle.git_lemmas.specs.Members.{Member}
use Rattle.git_lemmas.proofs.Integers.{mul_nonneg, mul_pos, zero_of_mul}
use Rattle.git_lemmas.proofs.Members.{contains_member, member_contains}
use Rattle.git_geometry.proofs.Cuts.{cut_closed, cut_of, side_at}
use Rattle.git_geometry.proofs.Identities.{product_zero}
use Rattle.git_geometry.proofs.Independence.{chosen_member, chosen_of_length, no_common_zero}
use Rattle.git_geometry.proofs.Lists.{member_either, member_left, member_right, pairs, pairs_all, pairs_member}
use Rattle.git_cone_faces.specs.Faces.{IsFullCone, OnFace, on_wall}
use Rattle.git_cone_faces.proofs.Full.{full_facets_have, full_have, full_same}
use Rattle.git_cone_faces.proofs.Walls.{plus-dot, scale-dot}
use Rattle.git_cone_faces.specs.Families.{Cone}
use Rattle.git_cover.specs.Families.{IsBoundary, IsCovered, IsMatched}
use Rattle.git_cover.proofs.Boundaries.{boundary_level, facet_generated}
use Rattle.git_cover.proofs.Avoiding.{Avoids, avoid}
use Rattle.git_cover.proofs.Exits.{Exit, after, ahead, ahead_less, dot-step, first_exit, itself, step}
use Rattle.git_cover.proofs.Numbers.{mul_nonpos, opposed, positive_first, swap}

-- a normal that is 0 on vectors of full rank is 0
zero_normal : (k : ℕ) (rays : List Vector) (n : Vector) → OfLength k rays → HasRank k rays → length n ≡ k
    → ((r : Vector) → Member r rays → dot n r ≡ pos 0) → n ≡ zero_vector k
zero_normal k rays n have rank entries level = no_common_zero k rank.chosen n (chosen_of_length k rays have rank) rank.independent rank.count entries
    (λ b m. dot-comm b n ∙ level b (chosen_member k rays rank b m))

zero_at : (k : ℕ) (n y : Vector) → n ≡ zero_vector k → dot n y ≡ pos 0
zero_at k n y e = ap (λ (u : Vector). dot u y) e ∙ dot-comm (zero_vector k) y ∙ dot-zero y k

-- 0 at w, and at x exactly where n is 0 when m is reached
abbrev cross : Vector → Vector → Vector → Vector
cross w m n = plus (scale (dot n w) m) (scale (neg_ℤ (dot m w)) n)

dot-cross : (w m n y : Vector) → length m ≡ length n → dot (cross w m n) y ≡ (dot n w *ℤ dot m y) +ℤ (neg_ℤ (dot m w) *ℤ dot n y)
dot-cross w m n y e = plus-dot (scale (dot n w) m) (scale (neg_ℤ (dot m w)) n) y (length-scale (dot n w) m ∙ e ∙ sym (length-scale (neg_ℤ (dot m w)) n))
    ∙ (λ i. scale-dot (dot n w) m y i +ℤ scale-dot (neg_ℤ (dot m w)) n y i)

abbrev all_facets : List Cone → List Vector
all_facets [] = []
all_facets (C ∷ Cs) = C.facets ++ all_facets Cs

all_has : (Cs : List Cone) (C : Cone) (n : Vector) → Member C Cs → Member n C.facets → Member n (all_facets Cs)
all_has [] C n m o = absurd m
all_has (D ∷ Cs) C n m o = elim m [
  | inl e ↦ member_left n D.facets (all_facets Cs) (subst (λ (E : Cone). Member n E.facets) (sym e) o)
  | inr i ↦ member_right n D.facets (all_facets Cs) (all_has Cs C n i o)
]

all_are : (P : Vector → Type 0) (Cs : List Cone) → ((C : Cone) (n : Vector) → Member C Cs → Member n C.facets → P n) → (n : Vector) → Member n (all_facets Cs) → P n
all_are P [] h n m = absurd m
all_are P (D ∷ Cs) h n m = elim (member_either n D.facets (all_facets Cs) m) [
  | inl l ↦ h D n (inl refl) l
  | inr r ↦ all_are P Cs (λ C v i o. h C v (inr i) o) n r
]

-- two terms that are not below 0, with sum 0
second_zero : (a b : ℤ) → pos 0 ≤ℤ a → pos 0 ≤ℤ b → a +ℤ b ≡ pos 0 → b ≡ pos 0
second_zero a b p q e = omega (arith, ints, e)

-- n and m are parallel and look one way, and a cone is on the side of n and of -m: n is 0 there
flat : (nw mw mr nr : ℤ) → nw <ℤ pos 0 → mw <ℤ pos 0 → pos 0 ≤ℤ (negsuc 0 *ℤ mr) → pos 0 ≤ℤ nr → (nw *ℤ mr) +ℤ (neg_ℤ mw *ℤ nr) ≡ pos 0 → nr ≡ pos 0
flat nw mw mr nr p q s t e =
    let below : mr ≤ℤ pos 0 = not_above mr s in
    let a = mul_nonpos nw mr (omega (arith, ints)) below in
    let b = mul_nonneg (neg_ℤ mw) nr (omega (arith, ints)) t in
    zero_of_mul (neg_ℤ mw) nr (omega (arith, ints)) (second_zero (nw *ℤ mr) (neg_ℤ mw *ℤ nr) a b e)
  where
    not_above : (z : ℤ) → pos 0 ≤ℤ (negsuc 0 *ℤ z) → z ≤ℤ pos 0
    not_above (pos zero) h = omega (arith, ints)
    not_above (pos (suc z)) h = absurd (omega (arith, ints, h, product_is (negsuc 0) (pos (suc z))))
    not_above (negsuc z) h = omega (arith, ints)

module _ (k : ℕ) (walls : List Vector) (cones : List Cone) (walls_have : OfLength k walls) (some : (g : Vector) → Contains walls g → g ≢ zero_vector k)
    (full : (C : Cone) → Contains cones C → IsFullCone k C.rays C.facets)
    (within : (C : Cone) (r : Vector) → Contains cones C → Contains C.rays r → Cut k walls r)
    (judged : (C : Cone) (n : Vector) → Contains cones C → Contains C.facets n → IsBoundary k walls C n ⊎ IsMatched cones C n)
    (w : Vector) (inside : Cut k walls w) where
  abbrev F : List Vector
  F = all_facets cones

  abbrev Q : List Vector
  Q = pairs (cross w) F F

  have_rays : (C : Cone) → Contains cones C → OfLength k C.rays
  have_rays C c = full_have (full C c)

  F_have : (n : Vector) → Member n F → length n ≡ k
  F_have = all_are (λ n. length n ≡ k) cones (λ C n m o. (full_facets_have (full C (member_contains C cones m))).each n o)

  in_F : (C : Cone) (n : Vector) → Contains cones C → Member n C.facets → Member n F
  in_F C n c m = all_has cones C n (contains_member C cones c) m

  record Standard (q : Vector) : Type 0 where
    entries : length q ≡ k
    level : dot q w ≡ pos 0

  Q_standard : (q : Vector) → Member q Q → Standard q
  Q_standard = pairs_all Standard (cross w) F F (λ m n o p. record {
    entries = length-plus (scale (dot n w) m) (scale (neg_ℤ (dot m w)) n) (length-scale (dot n w) m ∙ F_have m o ∙ sym (F_have n p)
        ∙ sym (length-scale (neg_ℤ (dot m w)) n)) ∙ length-scale (dot n w) m ∙ F_have m o;
    level = dot-cross w m n w (F_have m o ∙ sym (F_have n p)) ∙ opposed (dot n w) (dot m w);
  })

  -- the walk is at x, in C, with all facets that it will cross still before it
  record IsAt (C : Cone) (x : Vector) : Type 0 where
    listed : Contains cones C
    holds : InCone k C.rays x
    before : (n : Vector) → Member n C.facets → dot n w <ℤ pos 0 → pos 0 <ℤ dot n x
    inner : (g : Vector) → Member g walls → pos 0 <ℤ dot g x
    generic : (q : Vector) → Member q Q → dot q x ≡ pos 0 → (y : Vector) → dot q y ≡ pos 0

  cut_at : (C : Cone) (x : Vector) → Contains cones C → InCone k C.rays x → Cut k C.facets x
  cut_at C x c h = (full_same (full C c) x).0 h

  walls_hold : (C : Cone) (x : Vector) → Contains cones C → InCone k C.rays x → Cut k walls x
  walls_hold C x c h = closed_cone k (Cut k walls) C.rays x (cut_closed k walls) (λ r m. within C r c (member_contains r C.rays m)) h

  -- ---- one step
  module _ (C : Cone) (x : Vector) (at : IsAt C x) (e : Exit w x C.facets) where
    abbrev m : Vector
    m = e.facet

    abbrev y : Vector
    y = step w x m

    lengths : length x ≡ length w
    lengths = at.holds.entries ∙ sym inside.entries

    y_entries : length y ≡ k
    y_entries = length-plus (scale (neg_ℤ (dot m w)) x) (scale (dot m x) w) (length-scale (neg_ℤ (dot m w)) x ∙ lengths ∙ sym (length-scale (dot m x) w))
        ∙ length-scale (neg_ℤ (dot m w)) x ∙ at.holds.entries

    at_y : (n : Vector) → dot n y ≡ after w x m n
    at_y n = dot-step w x m n lengths

    above : pos 0 <ℤ dot m x
    above = at.before m e.member e.below

    y_cut : Cut k C.facets y
    y_cut = cut_of y_entries (λ n o. let f = at_y n in let h = e.least n o in omega (arith, ints, f, h))

    m_zero : dot m y ≡ pos 0
    m_zero = at_y m ∙ itself w x m

    m_listed : Contains C.facets m
    m_listed = member_contains m C.facets e.member

    y_on : OnFace (InCone k C.rays) m y
    y_on = record { member = (full_same (full C at.listed) y).1 y_cut; level = m_zero }

    y_face : InCone k (on_wall m C.rays) y
    y_face = facet_generated k C m y (full C at.listed) m_listed y_on

    y_inner : (g : Vector) → Member g walls → pos 0 <ℤ dot g y
    y_inner g o =
        let f = at_y g in
        let p = mul_pos (neg_ℤ (dot m w)) (dot g x) (let b = e.below in omega (arith, ints, b)) (at.inner g o) in
        let q = mul_nonneg (dot m x) (dot g w) (let a = above in omega (arith, ints, a)) (side_at inside g o) in
        omega (arith, ints, f, p, q)

    y_generic : (q : Vector) → Member q Q → dot q y ≡ pos 0 → (z : Vector) → dot q z ≡ pos 0
    y_generic q o none =
        let f = at_y q in
        let l = product_zero (dot m x) (dot q w) (Q_standard q o).level in
        at.generic q o (zero_of_mul (neg_ℤ (dot m w)) (dot q x) (let b = e.below in omega (arith, ints, b)) (omega (arith, ints, f, l, none)))

    not_boundary : IsBoundary k walls C m → ⊥
    not_boundary b =
        let f = boundary_level k walls C m (full C at.listed) (λ r o. within C r at.listed o) m_listed b y y_on in
        let p = y_inner b.wall (contains_member b.wall walls b.listed) in
        absurd (omega (arith, ints, f, p))

    y_beyond : (D : Cone) → Contains cones D → Contains D.facets (scale (negsuc 0) m) → Cut k D.facets y → (n : Vector) → Member n D.facets → dot n w <ℤ pos 0
        → pos 0 <ℤ dot n y
    y_beyond D d turned cut n o low = elim (positive_or_zero (dot n y) (side_at cut n o)) [
      | inl up ↦ up
      | inr none ↦
          let same : length m ≡ length n = (full_facets_have (full C at.listed)).each m e.member ∙ sym ((full_facets_have (full D d)).each n o) in
          let there : dot (cross w m n) x ≡ pos 0 = dot-cross w m n x same ∙ swap (dot n w) (dot m x) (dot m w) (dot n x) ∙ sym (at_y n) ∙ none in
          let nowhere = at.generic (cross w m n) (pairs_member (cross w) F F m n (in_F C m at.listed e.member) (in_F D n d o)) there in
          let level = λ (r : Vector) (p : Member r D.rays).
          let c = cut_at D r d (cone_has k D.rays r (have_rays D d) p) in
          flat (dot n w) (dot m w) (dot m r) (dot n r) low e.below
          (subst (λ (z : ℤ). pos 0 ≤ℤ z) (scale-dot (negsuc 0) m r) (c.sides (scale (negsuc 0) m) turned)) (side_at c n o)
          (sym (dot-cross w m n r same) ∙ nowhere r) in
          let z = zero_at k n w (zero_normal k D.rays n (have_rays D d) (full D d).rays_rank ((full_facets_have (full D d)).each n o) level) in
          absurd (omega (arith, ints, z, low))
    ]

    next : (t : IsMatched cones C m) → IsAt t.other y
    next t = record {
      listed = t.listed;
      holds = h;
      before = y_beyond t.other t.listed t.turned (cut_at t.other y t.listed h);
      inner = y_inner;
      generic = y_generic;
    } where
      h : InCone k t.other.rays y
      h = closed_cone k (InCone k t.other.rays) (on_wall m C.rays) y (cone_closed k t.other.rays (have_rays t.other t.listed))
          (λ r p. cone_has k t.other.rays r (have_rays t.other t.listed)
          (contains_member r t.other.rays (t.shared r (member_contains r (on_wall m C.rays) p)))) y_face

    back : (n : Vector) → dot n w <ℤ pos 0 → pos 0 <ℤ dot n y → pos 0 <ℤ dot n x
    back n low up = positive_first (neg_ℤ (dot m w)) (dot n x) (dot m x) (dot n w) (let b = e.below in omega (arith, ints, b)) (let a = above in omega (arith, ints, a))
        low (let f = at_y n in omega (arith, ints, f, up))

    fewer : ahead w y F < ahead w x F
    fewer = ahead_less w x y F m (in_F C m at.listed e.member) back e.below above m_zero

  walk : (fuel : ℕ) (C : Cone) (x : Vector) → IsAt C x → ahead w x F < fuel → IsCovered k cones w
  walk zero C x at less = absurd (omega (arith, less))
  walk (suc fuel) C x at less = elim (first_exit w x C.facets (λ n m. side_at (cut_at C x at.listed at.holds) n m)) [
    | inl none ↦ record { cone = C; listed = at.listed; holds = (full_same (full C at.listed) w).1 (cut_of inside.entries none) }
    | inr e ↦ elim (judged C e.facet at.listed (member_contains e.facet C.facets e.member)) [
      | inl b ↦ absurd (not_boundary C x at e b)
      | inr t ↦ walk fuel t.other (step w x e.facet) (next C x at e t) (let f = fewer C x at e in omega (arith, f, less))
    ]
  ]

  -- ---- the start
  module _ (C : Cone) (c : Contains cones C) where
    abbrev qs : List Vector
    qs = walls ++ (F ++ Q)

    found : Avoids (InCone k C.rays) qs C.rays
    found = avoid k (InCone k C.rays) qs C.rays (cone_closed k C.rays (have_rays C c)) (λ r m. cone_has k C.rays r (have_rays C c) m)

    abbrev p : Vector
    p = found.vector

    gone : (q : Vector) → Member q qs → length q ≡ k → dot q p ≡ pos 0 → q ≡ zero_vector k
    gone q m entries none = zero_normal k C.rays q (have_rays C c) (full C c).rays_rank entries (found.only q m none)

    start : IsAt C p
    start = record {
      listed = c;
      holds = found.member;
      before = λ n m low. elim (positive_or_zero (dot n p) (side_at (cut_at C p c found.member) n m)) [
        | inl up ↦ up
        | inr none ↦
            let o = in_F C n c m in
            let z = zero_at k n w (gone n (member_right n walls (F ++ Q) (member_left n F Q o)) (F_have n o) none) in
            absurd (omega (arith, ints, z, low))
      ];
      inner = λ g m. elim (positive_or_zero (dot g p) (side_at (walls_hold C p c found.member) g m)) [
        | inl up ↦ up
        | inr none ↦ absurd (some g (member_contains g walls m) (gone g (member_left g walls (F ++ Q) m) (walls_have.each g m) none))
      ];
      generic = λ q m none y. zero_at k q y (gone q (member_right q walls (F ++ Q) (member_right q F Q m)) (Q_standard q m).entries none);
    }

    pub covered : IsCovered k cones w
    covered = walk (suc (ahead w p F)) C p start (omega arith)
