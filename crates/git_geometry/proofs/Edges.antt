-- Which generators point along an edge: those whose zeros no other generator has.
use Rattle.std.proofs.Common.{◌≡◌, ◌+◌, ◌<◌, ◌≤◌, ◌∙◌, ◌⊎◌, ◌∷◌, ◌*◌, ◌-◌, [], List, ap, arith, inl, inr, length, map, refl, subst, suc, sym, zero, ℕ}
use Rattle.std.proofs.Math.IntN.{◌*ℤ◌, *ℤ-zero, negsuc, pos, pos-*ℤ-pos, ℤ}
use Rattle.std.proofs.lemmas.Bool.{cases_lt}
use Rattle.std.proofs.lemmas.Int.{ints}
use Rattle.std.specs.Prelude.{◌≤ℤ◌}
use borrow.Author.Differences.{product_is, up}
use Rattle.git_defs.specs.Cones.{IsClosed, Cut, InCone, IsEdge, IsPointed, OnRay}
use Rattle.git_defs.proofs.Closed.{closed_combination, closed_cone, cone_closed, cone_has}
use Rattle.git_defs.proofs.Linear.{dot-plus, dot-scale, length-plus, length-scale, length-zero}
use Rattle.git_lemmas.specs.Members.{Member}
use Rattle.git_defs.proofs.Lengths.{OfLength, more_of_length, rest_of_length}
use Rattle.git_defs.proofs.Sums.{plus-zero, scale-plus, scale-scale, scale_none, zero-plus}
use Rattle.git_defs.specs.Vectors.{Vector, combination, dot, plus, scale, zero_vector}
use Rattle.git_geometry.proofs.Cuts.{cut_closed, cut_of, side_at}
use Rattle.git_geometry.proofs.Faces.{FaceIn, face_closed, flat_left}
use Rattle.git_geometry.proofs.Identities.{dot-scale_zero, plus-assoc, plus-comm, plus_rest, trade}
use Rattle.git_geometry.proofs.Lists.{Chosen, Fails, choose}
use Rattle.git_geometry.proofs.Minkowski.{Generators, generators_of_length, minkowski}
use Rattle.git_geometry.proofs.Polynomials.{size}
use Rattle.git_geometry.proofs.Primitive.{vanish}
use Rattle.git_geometry.proofs.Rays.{on_own_ray, on_ray_of_cone}
use Rattle.git_geometry.proofs.Squares.{vector_zero_or_not}
use Rattle.git_geometry.specs.Generators.{Generates}
use Rattle.git_geometry.specs.Zeros.{Dominates, Flat, ZeroOn}
use Rattle.git_lemmas.proofs.Members.{as_member, contained}
use Rattle.git_geometry.proofs.Contained.{inside_at, pick_member, pick_split, pick_back}

-- ---- what is 0 wherever r is can be taken from a multiple of r
enough : (n : ℕ) (s r : ℤ) → pos 0 ≤ℤ s → pos 0 ≤ℤ r → (r ≡ pos 0 → s ≡ pos 0) → up s ≤ n → s ≤ℤ (pos n *ℤ r)
enough n s (pos zero) p q f le = let e = f refl in let g = *ℤ-zero (pos n) in omega (arith, ints, g)
enough n (pos s) (pos (suc r)) p q f le = let e = pos-*ℤ-pos n (suc r) in omega (arith, ints, e, mul-le-mul_any n r)
  where
    mul-le-mul_any : (n r : ℕ) → n ≤ n * suc r
    mul-le-mul_any n r = omega arith
enough n (negsuc s) (pos (suc r)) p q f le = absurd (omega (arith, ints))
enough n s (negsuc r) p q f le = absurd (omega (arith, ints))

record Bound (A : List Vector) (s r : Vector) : Type 0 where
  times : ℕ
  holds : (n : ℕ) → times ≤ n → (a : Vector) → Member a A → dot a s ≤ℤ (pos n *ℤ dot a r)

bound : (A : List Vector) (s r : Vector) → ((a : Vector) → Member a A → pos 0 ≤ℤ dot a s) → ((a : Vector) → Member a A → pos 0 ≤ℤ dot a r)
    → ((a : Vector) → Member a A → dot a r ≡ pos 0 → dot a s ≡ pos 0) → Bound A s r
bound [] s r f g h = record { times = 0; holds = λ n le a m. absurd m }
bound (b ∷ A) s r f g h =
    let rest = bound A s r (λ a m. f a (inr m)) (λ a m. g a (inr m)) (λ a m. h a (inr m)) in
    record {
      times = rest.times + up (dot b s);
      holds = λ n le a m. elim m [
        | inl e ↦ subst (λ (c : Vector). dot c s ≤ℤ (pos n *ℤ dot c r)) e
            (enough n (dot b s) (dot b r) (f b (inl refl)) (g b (inl refl)) (h b (inl refl)) (omega arith))
        | inr o ↦ rest.holds n (omega arith) a o
      ];
    }

-- s and another member make a multiple of r
pub record Shares (k : ℕ) (A : List Vector) (s r : Vector) : Type 0 where
  pub times : ℕ
  pub positive : 0 < times
  pub other : Vector
  pub other_in : Cut k A other
  pub sum : plus s other ≡ scale (pos times) r

pub shares : (k : ℕ) (A : List Vector) (s r : Vector) → Cut k A s → Cut k A r → Dominates A s r → Shares k A s r
shares k A s r cs cr d =
    let b = bound A s r (side_at cs) (side_at cr) (λ a m. d.zeros a (contained A m)) in
    let n = suc b.times in
    let same : length (scale (pos n) r) ≡ length (scale (negsuc 0) s) = length-scale (pos n) r ∙ cr.entries ∙ sym cs.entries
    ∙ sym (length-scale (negsuc 0) s) in
    record {
      times = n;
      positive = omega arith;
      other = plus (scale (pos n) r) (scale (negsuc 0) s);
      other_in = cut_of (length-plus (scale (pos n) r) (scale (negsuc 0) s) same ∙ length-scale (pos n) r ∙ cr.entries) (λ a m.
          let e = dot-plus a (scale (pos n) r) (scale (negsuc 0) s) same in
          let f = dot-scale a (pos n) r in let g = dot-scale a (negsuc 0) s in let h = b.holds n (omega arith) a m in
          omega (arith, ints, e, f, g, h, product_is (negsuc 0) (dot a s)));
      sum = plus_rest n s r (cs.entries ∙ sym cr.entries);
    }

-- an edge is the only ray with its zeros
pub dominator_on_edge : (k : ℕ) (A : List Vector) (s r : Vector) → IsEdge k (Cut k A) r → Cut k A s → Dominates A s r → OnRay s r
dominator_on_edge k A s r edge cs d =
    let h = shares k A s r cs edge.member d in
    edge.alone s h.other h.times cs h.other_in h.positive h.sum

-- and a generator that is the only one with its zeros is an edge
pub edge_of_alone : (k : ℕ) (A R : List Vector) (r : Vector) → Generates k A R → Cut k A r → (r ≡ zero_vector k → ⊥)
    → ((s : Vector) → Member s R → Dominates A s r → OnRay s r) → IsEdge k (Cut k A) r
edge_of_alone k A R r g cr some only = record {
  member = cr;
  nonzero = some;
  alone = λ y z t cy cz p e. on_ray_of_cone k r y cr.entries (in_ray y (g.all y cy) (flat_left k (ZeroOn r) A y z cy cz (flat_sum y z t e)));
} where
  have : OfLength k (r ∷ [])
  have = record { each = λ v m. elim m [ inl e ↦ ap length (sym e) ∙ cr.entries | inr n ↦ absurd n ] }

  flat_sum : (y z : Vector) (t : ℕ) → plus y z ≡ scale (pos t) r → Flat (ZeroOn r) A (plus y z)
  flat_sum y z t e a m h = ap (dot a) e ∙ dot-scale_zero a (pos t) r h

  back : (s : Vector) → OnRay s r → InCone k (r ∷ []) s
  back s o =
      let closed = cone_closed k (r ∷ []) have in let p = o.positive in
      closed.quotients (pos o.multiple) s (omega (arith, ints))
      (subst (InCone k (r ∷ [])) (sym o.same) (closed.multiples (pos o.times) r (omega (arith, ints)) (cone_has k (r ∷ []) r have (inl refl))))

  in_ray : (y : Vector) → InCone k R y → Flat (ZeroOn r) A y → InCone k (r ∷ []) y
  in_ray y h = (closed_cone k (FaceIn k A (ZeroOn r) (InCone k (r ∷ []))) R y
      (face_closed k A (ZeroOn r) (InCone k (r ∷ [])) (cone_closed k (r ∷ []) have))
      (λ s m. record { cut = inside_at g s m; inside = λ f. back s (only s m (record { zeros = f })) }) h).inside

-- ---- tests
pub zero_or_not : (z : ℤ) → (z ≡ pos 0) ⊎ (z ≡ pos 0 → ⊥)
zero_or_not (pos zero) = inl refl
zero_or_not (pos (suc n)) = inr (λ e. omega (arith, ints, e))
zero_or_not (negsuc n) = inr (λ e. omega (arith, ints, e))

pub dominates_or_not : (A : List Vector) (s r : Vector) → Dominates A s r ⊎ (Dominates A s r → ⊥)
dominates_or_not [] s r = inl (record { zeros = λ a m e. absurd (as_member [] m) })
dominates_or_not (b ∷ A) s r = elim (dominates_or_not A s r) [
  | inr miss ↦ inr (λ d. miss (record { zeros = λ a m e. d.zeros a (contained (b ∷ A) (inr (as_member A m))) e }))
  | inl rest ↦ elim (zero_or_not (dot b s)) [
    | inl none ↦ inl (record { zeros = λ a m e. elim (as_member (b ∷ A) m) [ inl f ↦ ap (λ (c : Vector). dot c s) (sym f) ∙ none | inr n ↦ rest.zeros a (contained A n) e ] })
    | inr some ↦ elim (zero_or_not (dot b r)) [
      | inl here ↦ inr (λ d. some (d.zeros b (contained (b ∷ A) (inl refl)) here))
      | inr not_here ↦ inl (record {
        zeros = λ a m e. elim (as_member (b ∷ A) m) [
          | inl f ↦ absurd (not_here (ap (λ (c : Vector). dot c r) f ∙ e))
          | inr n ↦ rest.zeros a (contained A n) e
        ];
      })
    ]
  ]
]

pub record Dominated (A : List Vector) (r : Vector) (others : List Vector) : Type 0 where
  pub by : Vector
  pub member : Member by others
  pub dominates : Dominates A by r

pub dominated_or_not : (A : List Vector) (r : Vector) (others : List Vector) → Dominated A r others ⊎ (Dominated A r others → ⊥)
dominated_or_not A r [] = inr (λ d. d.member)
dominated_or_not A r (s ∷ others) = elim (dominates_or_not A s r) [
  | inl hit ↦ inl (record { by = s; member = inl refl; dominates = hit })
  | inr miss ↦ elim (dominated_or_not A r others) [
    | inl d ↦ inl (record { by = d.by; member = inr d.member; dominates = d.dominates })
    | inr none ↦ inr (λ d. elim d.member [
      | inl e ↦ miss (subst (λ (u : Vector). Dominates A u r) (sym e) d.dominates)
      | inr m ↦ none (record { by = d.by; member = m; dominates = d.dominates })
    ])
  ]
]

-- ---- without the vector 0
record Nonzero (k : ℕ) (R : List Vector) : Type 0 where
  list : List Vector
  back : (x : Vector) → Member x list → Member x R
  some : (x : Vector) → Member x list → x ≡ zero_vector k → ⊥
  each : (x : Vector) → Member x R → (x ≡ zero_vector k) ⊎ Member x list

nonzero : (k : ℕ) (R : List Vector) → OfLength k R → Nonzero k R
nonzero k [] have = record { list = []; back = λ x m. m; some = λ x m. absurd m; each = λ x m. absurd m }
nonzero k (r ∷ R) have =
    let rest = nonzero k R (rest_of_length k r R have) in
    elim (vector_zero_or_not k r (have.each r (inl refl))) [
      | inl none ↦ record {
        list = rest.list;
        back = λ x m. inr (rest.back x m);
        some = rest.some;
        each = λ x m. elim m [ inl e ↦ inl (sym e ∙ none) | inr n ↦ rest.each x n ];
      }
      | inr some ↦ record {
        list = r ∷ rest.list;
        back = λ x m. elim m [ inl e ↦ inl e | inr n ↦ inr (rest.back x n) ];
        some = λ x m. elim m [ inl e ↦ (λ z. some (e ∙ z)) | inr n ↦ rest.some x n ];
        each = λ x m. elim m [ inl e ↦ inr (inl e) | inr n ↦ elim (rest.each x n) [ inl z ↦ inl z | inr o ↦ inr (inr o) ] ];
      }
    ]

-- ---- a dominated generator may go
module _ (k : ℕ) (A : List Vector) (pointed : IsPointed k (Cut k A)) where
  record Rest (r : Vector) (others : List Vector) (x : Vector) : Type 0 where
    multiple : ℕ
    positive : 0 < multiple
    times : ℕ
    rest : Vector
    rest_in : InCone k others rest
    sum : scale (pos multiple) x ≡ plus (scale (pos times) r) rest

  rest_of_cone : (r : Vector) (others : List Vector) (x : Vector) → OfLength k (r ∷ others) → InCone k (r ∷ others) x → Rest r others x
  rest_of_cone r others x have h = from h.weights h.sum where
    closed : IsClosed k (InCone k others)
    closed = cone_closed k others (rest_of_length k r others have)

    from : (ws : List ℕ) → scale (pos h.multiple) x ≡ combination k (map pos ws) (r ∷ others) → Rest r others x
    from [] e = record {
      multiple = h.multiple;
      positive = h.positive;
      times = 0;
      rest = zero_vector k;
      rest_in = closed.none;
      sum = e ∙ sym (ap (λ (u : Vector). plus u (zero_vector k)) (scale_none r k (have.each r (inl refl)))
          ∙ plus-zero (zero_vector k) k (length-zero k));
    }
    from (w ∷ ws) e = record {
      multiple = h.multiple;
      positive = h.positive;
      times = w;
      rest = combination k (map pos ws) others;
      rest_in = closed_combination k (InCone k others) closed ws others (λ v m. cone_has k others v (rest_of_length k r others have) m);
      sum = e;
    }

  -- q s + w r + o is q N r
  without : (r s : Vector) (others : List Vector) → OfLength k (r ∷ others) → ((x : Vector) → InCone k others x → Cut k A x) → Cut k A r → Cut k A s
      → InCone k others s
      → (s ≡ zero_vector k → ⊥) → Shares k A s r → ((x : Vector) → Cut k A x → InCone k (r ∷ others) x) → InCone k others r
  without r s others have inside cr cs s_in some h generated =
      let rest = rest_of_cone r others h.other have (generated h.other h.other_in) in
      let closed = cone_closed k others (rest_of_length k r others have) in
      let m = rest.multiple * h.times in
      let w = rest.times in
      let qs = scale (pos rest.multiple) s in
      let qs_in = closed.multiples (pos rest.multiple) s (omega (arith, ints)) s_in in
      let sum_in = closed.sums qs rest.rest qs_in rest.rest_in in
      let sum_r = sum_in.entries ∙ sym cr.entries in
      let zero_r = length-zero k ∙ sym cr.entries in
      let e : plus (plus qs rest.rest) (scale (pos w) r) ≡ plus (zero_vector k) (scale (pos m) r) =
      sym (plus-assoc qs rest.rest (scale (pos w) r)) ∙ ap (plus qs) (plus-comm rest.rest (scale (pos w) r) ∙ sym rest.sum)
      ∙ sym (scale-plus (pos rest.multiple) s h.other) ∙ ap (scale (pos rest.multiple)) h.sum ∙ scale-scale (pos rest.multiple) (pos h.times) r
      ∙ ap (λ (z : ℤ). scale z r) (pos-*ℤ-pos rest.multiple h.times) ∙ sym (zero-plus (scale (pos m) r) k (length-scale (pos m) r ∙ cr.entries)) in
      elim (cases_lt w m) [
        | inl less ↦
            let d = m - w in
            let back = trade (zero_vector k) (plus qs rest.rest) r (pos m) (pos w) (pos d) zero_r sum_r (omega (arith, ints)) (sym e) in
            closed.quotients (pos d) r (omega (arith, ints))
            (subst (InCone k others) (sym back ∙ zero-plus (scale (pos d) r) k (length-scale (pos d) r ∙ cr.entries)) sum_in)
        | inr more ↦
            let d = w - m in
            let gone = trade (plus qs rest.rest) (zero_vector k) r (pos w) (pos m) (pos d) sum_r zero_r (omega (arith, ints)) e in
            absurd (some (vanish k rest.multiple s rest.positive
            (pointed qs (plus rest.rest (scale (pos d) r)) (cuts.multiples (pos rest.multiple) s (omega (arith, ints)) cs)
            (cuts.sums _ _ (inside rest.rest rest.rest_in) (cuts.multiples (pos d) r (omega (arith, ints)) cr))
            (plus-assoc qs rest.rest (scale (pos d) r) ∙ gone))))
      ] where
        cuts : IsClosed k (Cut k A)
        cuts = cut_closed k A

  only : (R : List Vector) (r : Vector) → Fails (Dominated A) r R → (s : Vector) → Member s R → Dominates A s r → OnRay s r
  only R r f s m d = elim (pick_split f.pick s m) [
    | inl e ↦ on_own_ray (sym e)
    | inr n ↦ absurd (f.fails (record { by = s; member = n; dominates = d }))
  ]

  -- generators of the cone, none 0
  record NonzeroGenerators (R : List Vector) : Type 0 where
    generates : Generates k A R
    nonzero : (r : Vector) → Member r R → r ≡ zero_vector k → ⊥

  -- without one that another dominates
  fewer : (R : List Vector) → NonzeroGenerators R → (p : Chosen (Dominated A) R) → NonzeroGenerators p.others
  fewer R g p = record {
    generates = record { inside = λ r m. within r (pick_back p.pick r (as_member p.others m)); all = all };
    nonzero = λ r m. g.nonzero r (pick_back p.pick r m);
  } where
    within : (r : Vector) → Member r R → Cut k A r
    within = inside_at g.generates

    have : OfLength k p.others
    have = record { each = λ v m. (within v (pick_back p.pick v m)).entries }

    one_in : Cut k A p.one
    one_in = within p.one (pick_member p.pick)

    have_both : OfLength k (p.one ∷ p.others)
    have_both = more_of_length k p.one p.others one_in.entries have

    all_both : (x : Vector) → Cut k A x → InCone k (p.one ∷ p.others) x
    all_both x c = closed_cone k (InCone k (p.one ∷ p.others)) R x (cone_closed k (p.one ∷ p.others) have_both)
        (λ v m. cone_has k (p.one ∷ p.others) v have_both (pick_split p.pick v m)) (g.generates.all x c)

    by_in : Member p.holds.by R
    by_in = pick_back p.pick p.holds.by p.holds.member

    one_of : InCone k p.others p.one
    one_of = without p.one p.holds.by p.others have_both
        (λ x h. closed_cone k (Cut k A) p.others x (cut_closed k A) (λ v m. within v (pick_back p.pick v m)) h)
        one_in (within p.holds.by by_in) (cone_has k p.others p.holds.by have p.holds.member) (g.nonzero p.holds.by by_in)
        (shares k A p.holds.by p.one (within p.holds.by by_in) one_in p.holds.dominates) all_both

    all : (x : Vector) → Cut k A x → InCone k p.others x
    all x c = closed_cone k (InCone k p.others) (p.one ∷ p.others) x (cone_closed k p.others have)
        (λ v m. elim m [ inl e ↦ subst (InCone k p.others) e one_of | inr n ↦ cone_has k p.others v have n ]) (all_both x c)

  edges_generate_by : (D : Vector → Type 0) → IsClosed k D → ((x : Vector) → IsEdge k (Cut k A) x → D x)
      → (fuel : ℕ) (R : List Vector) → length R ≤ fuel → NonzeroGenerators R → (x : Vector) → Cut k A x → D x
  edges_generate_by D closed edges zero [] size g x c = closed_cone k D [] x closed (λ r m. absurd m) (g.generates.all x c)
  edges_generate_by D closed edges zero (r ∷ R) size g x c = absurd (omega arith)
  edges_generate_by D closed edges (suc fuel) R size g x c = elim (choose (Dominated A) (dominated_or_not A) R) [
    | inr none ↦ closed_cone k D R x closed (λ r m. edges r
        (edge_of_alone k A R r g.generates (inside_at g.generates r m) (g.nonzero r m) (only R r (none r m)))) (g.generates.all x c)
    | inl p ↦ edges_generate_by D closed edges fuel p.others (let e = p.pick.size in omega arith) (fewer R g p) x c
  ]

  nonzero_generators : (m : Generators k A) → (n : Nonzero k m.list) → NonzeroGenerators n.list
  nonzero_generators m n = record { generates = record { inside = λ r o. inside_at m.generates r (n.back r (as_member n.list o)); all = all }; nonzero = n.some } where
    have : OfLength k n.list
    have = record { each = λ r o. (inside_at m.generates r (n.back r o)).entries }

    all : (x : Vector) → Cut k A x → InCone k n.list x
    all x c = closed_cone k (InCone k n.list) m.list x (cone_closed k n.list have)
        (λ r o. elim (n.each r o) [ inl z ↦ subst (InCone k n.list) (sym z) ((cone_closed k n.list have).none) | inr p ↦ cone_has k n.list r have p ])
        (m.generates.all x c)

  -- what holds all edges, and is closed, holds the cone
  pub edges_generate : (D : Vector → Type 0) → IsClosed k D → ((x : Vector) → IsEdge k (Cut k A) x → D x) → (x : Vector) → Cut k A x → D x
  edges_generate D closed edges x c =
      let m = minkowski k A in
      let n = nonzero k m.list (generators_of_length k A m.list m.generates) in
      edges_generate_by D closed edges (length n.list) n.list (omega arith) (nonzero_generators m n) x c
