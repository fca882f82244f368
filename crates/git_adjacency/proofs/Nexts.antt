-- The next list, from the three sides and the blends.
use Rattle.std.proofs.Common.{◌≡◌, ◌⊎◌, ℕ, ◌<◌, List, [], ◌∷◌, ◌++◌, length, get_or, refl, sym, ◌∙◌, ap, subst, arith, inl, inr}
use Rattle.std.proofs.Math.IntN.{pos}
use Rattle.std.specs.Prelude.{◌↔◌, ◌<ℤ◌, Contains}
use Rattle.std.proofs.lemmas.Int.{ints}
use Rattle.std.proofs.lemmas.List.{get_or-map, map-append, length-map}
use Rattle.git_defs.specs.Vectors.{Vector, dot, zero_vector}
use Rattle.git_defs.specs.Cones.{Cut, IsPointed}
use Rattle.git_lemmas.specs.Members.{Member}
use Rattle.git_geometry.specs.Zeros.{Adjacent, Flat, ZeroOnBoth}
use Rattle.git_geometry.specs.Stages.{Exact, IsNext, IsBlended}
use Rattle.git_geometry.proofs.Blends.{blend_some, blend_cut}
use Rattle.git_adjacency.specs.Making.{IsSided, IsSidedTo, IsPlaced, IsMade, MakesAll}
use Rattle.git_adjacency.specs.Marks.{vectors}
use Rattle.git_adjacency.specs.declared.ray.Ray.{Ray}
use Rattle.std.proofs.lemmas.List.Elements.{Contains-append_left, Contains-append_right, Contains-append_cases, Contains-push, Contains-push_cases}
use Rattle.git_lemmas.proofs.Members.{as_member, contained}

-- ---- vectors of rays
pub vectors_end : (xs new : List Ray) (r : Ray) → new ≡ xs ++ r ∷ [] → vectors new ≡ vectors xs ++ r.vector ∷ []
vectors_end xs new r e = ap vectors e ∙ map-append (λ (x : Ray). x.vector) xs (r ∷ [])

pub vector_at : (rays : List Ray) (i : ℕ) (t : Ray) → i < length rays → t ≡ get_or rays i t → get_or (vectors rays) i t.vector ≡ t.vector
vector_at rays i t h e = get_or-map (λ (x : Ray). x.vector) rays i t t.vector h ∙ ap (λ (x : Ray). x.vector) (sym e)

pub vectors_long : (rays : List Ray) → length (vectors rays) ≡ length rays
vectors_long rays = length-map rays (λ (x : Ray). x.vector)

pub vector_in : (rays : List Ray) (r : Ray) → Contains rays r → Contains (vectors rays) r.vector
vector_in rays r c = (c.0, (let l = vectors_long rays in let h = c.1 in omega (arith, h, l)), vector_at rays c.0 r c.1 (sym c.2))

pub record RayIn (rays : List Ray) (v : Vector) : Type 0 where
  pub ray : Ray
  pub member : Contains rays ray
  pub is : ray.vector ≡ v

pub ray_in : (rays : List Ray) (v : Vector) → Contains (vectors rays) v → RayIn rays v
ray_in rays v c = by rays (as_member (vectors rays) c) where
  by : (rays : List Ray) → Member v (vectors rays) → RayIn rays v
  by [] m = absurd m
  by (x ∷ rays) (inl e) = record { ray = x; member = contained (x ∷ rays) (inl refl); is = e }
  by (x ∷ rays) (inr m) = let r = by rays m in record { ray = r.ray; member = contained (x ∷ rays) (inr (as_member rays r.member)); is = r.is }

-- ---- one vector placed
end_cases : (x v : Vector) (vs new : List Vector) → new ≡ vs ++ v ∷ [] → Contains new x → Contains vs x ⊎ (v ≡ x)
end_cases x v vs new e m = Contains-push_cases vs v x (subst (λ (u : List Vector). Contains u x) e m)

end_front : (x v : Vector) (vs new : List Vector) → new ≡ vs ++ v ∷ [] → Contains vs x → Contains new x
end_front x v vs new e m = subst (λ (u : List Vector). Contains u x) (sym e) (Contains-append_left vs (v ∷ []) x m)

end_last : (v : Vector) (vs new : List Vector) → new ≡ vs ++ v ∷ [] → Contains new v
end_last v vs new e = subst (λ (u : List Vector). Contains u v) (sym e) (Contains-push vs v)

pub sided_more : (b v : Vector) (R left rest a l d a2 l2 d2 : List Vector) → left ≡ rest ++ v ∷ [] → IsSidedTo b R left a l d → IsPlaced b v a l d a2 l2 d2 → IsSidedTo b R rest a2 l2 d2
sided_more b v R left rest a l d a2 l2 d2 e s p = by p.is where
  v_in : Contains R v
  v_in = s.left_in v (end_last v rest left e)

  left_in : (x : Vector) → Contains rest x → Contains R x
  left_in x m = s.left_in x (end_front x v rest left e m)

  at : (x : Vector) → Contains R x → (Contains rest x ⊎ (v ≡ x)) ⊎ (Contains a x ⊎ (Contains l x ⊎ Contains d x))
  at x m = elim (s.split x m) [ inl n ↦ inl (end_cases x v rest left e n) | inr o ↦ inr o ]

  by : ((a2 ≡ a ++ v ∷ []) × (l2 ≡ l) × (d2 ≡ d) × (pos 0 <ℤ dot b v))
      ⊎ (((a2 ≡ a) × (l2 ≡ l ++ v ∷ []) × (d2 ≡ d) × (dot b v ≡ pos 0))
      ⊎ ((a2 ≡ a) × (l2 ≡ l) × (d2 ≡ d ++ v ∷ []) × (dot b v <ℤ pos 0))) → IsSidedTo b R rest a2 l2 d2
  by (inl h) = record {
    left_in = left_in;
    above_in = λ x m. elim (end_cases x v a a2 h.0 m) [ inl n ↦ s.above_in x n | inr f ↦ (subst (Contains R) f v_in, subst (λ (u : Vector). pos 0 <ℤ dot b u) f h.3) ];
    level_in = λ x m. s.level_in x (subst (λ (u : List Vector). Contains u x) h.1 m);
    below_in = λ x m. s.below_in x (subst (λ (u : List Vector). Contains u x) h.2 m);
    split = λ x m. elim (at x m) [
      | inl o ↦ elim o [ inl n ↦ inl n | inr f ↦ inr (inl (subst (Contains a2) f (end_last v a a2 h.0))) ]
      | inr o ↦ elim o [
        | inl n ↦ inr (inl (end_front x v a a2 h.0 n))
        | inr q ↦ elim q [ inl n ↦ inr (inr (inl (subst (λ (u : List Vector). Contains u x) (sym h.1) n))) | inr n ↦ inr (inr (inr (subst (λ (u : List Vector). Contains u x) (sym h.2) n))) ]
      ]
    ];
  }
  by (inr (inl h)) = record {
    left_in = left_in;
    above_in = λ x m. s.above_in x (subst (λ (u : List Vector). Contains u x) h.0 m);
    level_in = λ x m. elim (end_cases x v l l2 h.1 m) [ inl n ↦ s.level_in x n | inr f ↦ (subst (Contains R) f v_in, subst (λ (u : Vector). dot b u ≡ pos 0) f h.3) ];
    below_in = λ x m. s.below_in x (subst (λ (u : List Vector). Contains u x) h.2 m);
    split = λ x m. elim (at x m) [
      | inl o ↦ elim o [ inl n ↦ inl n | inr f ↦ inr (inr (inl (subst (Contains l2) f (end_last v l l2 h.1)))) ]
      | inr o ↦ elim o [
        | inl n ↦ inr (inl (subst (λ (u : List Vector). Contains u x) (sym h.0) n))
        | inr q ↦ elim q [ inl n ↦ inr (inr (inl (end_front x v l l2 h.1 n))) | inr n ↦ inr (inr (inr (subst (λ (u : List Vector). Contains u x) (sym h.2) n))) ]
      ]
    ];
  }
  by (inr (inr h)) = record {
    left_in = left_in;
    above_in = λ x m. s.above_in x (subst (λ (u : List Vector). Contains u x) h.0 m);
    level_in = λ x m. s.level_in x (subst (λ (u : List Vector). Contains u x) h.1 m);
    below_in = λ x m. elim (end_cases x v d d2 h.2 m) [ inl n ↦ s.below_in x n | inr f ↦ (subst (Contains R) f v_in, subst (λ (u : Vector). dot b u <ℤ pos 0) f h.3) ];
    split = λ x m. elim (at x m) [
      | inl o ↦ elim o [ inl n ↦ inl n | inr f ↦ inr (inr (inr (subst (Contains d2) f (end_last v d d2 h.2)))) ]
      | inr o ↦ elim o [
        | inl n ↦ inr (inl (subst (λ (u : List Vector). Contains u x) (sym h.0) n))
        | inr q ↦ elim q [ inl n ↦ inr (inr (inl (subst (λ (u : List Vector). Contains u x) (sym h.1) n))) | inr n ↦ inr (inr (inr (end_front x v d d2 h.2 n))) ]
      ]
    ];
  }

pub sided_none : (b : Vector) (R : List Vector) → IsSidedTo b R R [] [] []
sided_none b R = record {
  left_in = λ x m. m;
  above_in = λ x m. absurd (as_member [] m);
  level_in = λ x m. absurd (as_member [] m);
  below_in = λ x m. absurd (as_member [] m);
  split = λ x m. inl m;
}

pub sided_all : (b : Vector) (R a l d : List Vector) → IsSidedTo b R [] a l d → IsSided b R a l d
sided_all b R a l d s = record {
  above_in = s.above_in;
  level_in = s.level_in;
  below_in = s.below_in;
  split = λ x m. elim (s.split x m) [ inl n ↦ absurd (as_member [] n) | inr o ↦ o ];
}

-- ---- neighbours among three lists
pub adjacent_join : (A us vs ws : List Vector) (r s : Vector) → Adjacent A us r s → Adjacent A vs r s → Adjacent A ws r s → Adjacent A (us ++ (vs ++ ws)) r s
adjacent_join A us vs ws r s p q o = record {
  only = λ t m f. elim (Contains-append_cases us (vs ++ ws) t m) [ inl n ↦ p.only t n f | inr n ↦ elim (Contains-append_cases vs ws t n) [ inl l ↦ q.only t l f | inr l ↦ o.only t l f ] ];
}

pub adjacent_part : (A us vs : List Vector) (r s : Vector) → ((t : Vector) → Contains us t → Contains vs t) → Adjacent A vs r s → Adjacent A us r s
adjacent_part A us vs r s to p = record { only = λ t m f. p.only t (to t m) f }

-- ---- the vectors of the three sides
module _ (A R : List Vector) (b : Vector) (above level below : List Vector) (sided : IsSided b R above level below) where
  pub to_all : (x : Vector) → Contains R x → Contains (above ++ (level ++ below)) x
  to_all x m = elim (sided.split x m) [
    | inl n ↦ Contains-append_left above (level ++ below) x n
    | inr o ↦ Contains-append_right above (level ++ below) x (elim o [ inl n ↦ Contains-append_left level below x n | inr n ↦ Contains-append_right level below x n ])
  ]

  pub of_all : (x : Vector) → Contains (above ++ (level ++ below)) x → Contains R x
  of_all x m = elim (Contains-append_cases above (level ++ below) x m) [
    | inl n ↦ (sided.above_in x n).0
    | inr n ↦ elim (Contains-append_cases level below x n) [ inl l ↦ (sided.level_in x l).0 | inr l ↦ (sided.below_in x l).0 ]
  ]

  -- b isn't 0 on a vector above it
  flat_more : (r s t : Vector) → pos 0 <ℤ dot b r → Flat (ZeroOnBoth r s) A t → Flat (ZeroOnBoth r s) (A ++ b ∷ []) t
  flat_more r s t up flat a m z = elim (Contains-push_cases A b a m) [
    | inl n ↦ flat a n z
    | inr e ↦ absurd (let f = ap (λ (u : Vector). dot u r) e ∙ z.0 in omega (arith, ints, f, up))
  ]

  pub adjacent_before : (r s : Vector) → pos 0 <ℤ dot b r → Adjacent (A ++ b ∷ []) (above ++ (level ++ below)) r s → Adjacent A R r s
  adjacent_before r s up adjacent = record { only = λ t n f. adjacent.only t (to_all t n) (flat_more r s t up f) }

-- ---- the next list
module _ (k : ℕ) (A R : List Vector) (b : Vector) (above level below made next : List Vector) (pointed : IsPointed k (Cut k A)) (exact : Exact k A R)
    (sided : IsSided b R above level below) (makes : MakesAll (A ++ b ∷ []) (above ++ (level ++ below)) b above below [] made)
    (each : (x : Vector) → Contains next x ↔ (Contains made x ⊎ (Contains above x ⊎ Contains level x))) where
  abbrev all : List Vector
  all = above ++ (level ++ below)

  of_sides : (x : Vector) → Contains all x → Contains R x
  of_sides = of_all A R b above level below sided

  flat_less : (r s t : Vector) → Flat (ZeroOnBoth r s) (A ++ b ∷ []) t → Flat (ZeroOnBoth r s) A t
  flat_less r s t flat a m z = flat a (Contains-append_left A (b ∷ []) a m) z

  blended : (x : Vector) → IsMade (A ++ b ∷ []) all b x → IsBlended A R b x
  blended x m =
      let er = exact.edges m.over (of_sides m.over m.over_in) in let es = exact.edges m.under (of_sides m.under m.under_in) in
      let size = (blend_cut k A b m.over m.under er.member es.member m.above m.below).entries in
      record {
        over = m.over;
        under = m.under;
        over_in = of_sides m.over m.over_in;
        under_in = of_sides m.under m.under_in;
        above = m.above;
        below = m.below;
        adjacent = adjacent_before A R b above level below sided m.over m.under m.above m.adjacent;
        times = m.part.divisor;
        positive = m.part.positive;
        is = sym m.part.is;
        primitive = m.part.primitive (λ z. blend_some k A b m.over m.under er.member es.member m.above m.below pointed er.nonzero (z ∙ ap zero_vector size));
      }

  pub next_of : IsNext A R b next
  next_of = record {
    from = λ x m. elim ((each x).0 m) [
      | inl n ↦ inr (blended x (makes.from x (subst (λ (u : List Vector). Contains u x) makes.is n)))
      | inr o ↦ elim o [
        | inl n ↦ (let h = sided.above_in x n in inl (h.0, (let g = h.1 in omega (arith, ints, g))))
        | inr n ↦ (let h = sided.level_in x n in inl (h.0, (let g = h.1 in omega (arith, ints, g))))
      ]
    ];
    kept = λ r m up. elim (sided.split r m) [
      | inl n ↦ (each r).1 (inr (inl n))
      | inr o ↦ elim o [ inl n ↦ (each r).1 (inr (inr n)) | inr n ↦ absurd (let g = (sided.below_in r n).1 in omega (arith, ints, g, up)) ]
    ];
    made = λ r s m n up low adjacent.
        let g = makes.each r s (over_of r m up) (under_of s n low)
        (record { only = λ t o f. adjacent.only t (of_sides t o) (flat_less r s t f) }) in
        record {
          vector = g.one;
          member = (each g.one).1 (inl (subst (λ (u : List Vector). Contains u g.one) (sym makes.is) g.member));
          times = g.part.divisor;
          positive = g.part.positive;
          is = sym g.part.is;
        };
  } where
    over_of : (r : Vector) → Contains R r → pos 0 <ℤ dot b r → Contains above r
    over_of r m up = elim (sided.split r m) [
      | inl n ↦ n
      | inr o ↦ elim o [
        | inl n ↦ absurd (let g = (sided.level_in r n).1 in omega (arith, ints, g, up))
        | inr n ↦ absurd (let g = (sided.below_in r n).1 in omega (arith, ints, g, up))
      ]
    ]

    under_of : (r : Vector) → Contains R r → dot b r <ℤ pos 0 → Contains below r
    under_of r m low = elim (sided.split r m) [
      | inl n ↦ absurd (let g = (sided.above_in r n).1 in omega (arith, ints, g, low))
      | inr o ↦ elim o [
        | inl n ↦ absurd (let g = (sided.level_in r n).1 in omega (arith, ints, g, low))
        | inr n ↦ n
      ]
    ]
