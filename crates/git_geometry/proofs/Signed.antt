-- Spans: the cones of vectors and their negatives.
use Rattle.std.proofs.Common.{◌≡◌, ◌<◌, ◌∙◌, ◌∷◌, [], List, ap, arith, inl, inr, length, map, refl, subst, sym, ℕ}
use Rattle.std.proofs.Math.IntN.{◌+ℤ◌, ◌*ℤ◌, neg_ℤ, negsuc, pos, ℤ}
use Rattle.std.proofs.lemmas.Int.{ints}
use borrow.Author.Differences.{up}
use Rattle.git_defs.specs.Cones.{IsClosed}
use Rattle.git_defs.proofs.Closed.{closed_combination, closed_cone, cone_closed, cone_has, sign_of}
use Rattle.git_lemmas.proofs.Integers.{diff, diff_add, diff_mul, diff_neg, diff_same}
use Rattle.git_defs.proofs.Linear.{length-scale}
use Rattle.git_lemmas.specs.Members.{Member}
use Rattle.git_defs.proofs.Lengths.{OfLength, rest_of_length}
use Rattle.git_defs.proofs.Sums.{scale-plus, scale-scale, scale-zero}
use Rattle.git_defs.specs.Vectors.{Vector, combination, plus, scale}
use Rattle.git_geometry.proofs.Identities.{negative_twice, scale-comm}
use Rattle.git_geometry.specs.Elimination.{InSpan, signed}

pub signed_of_length : (k : ℕ) (vs : List Vector) → OfLength k vs → OfLength k (signed vs)
signed_of_length k [] have = record { each = λ v m. absurd m }
signed_of_length k (v ∷ vs) have = record {
  each = λ u m. elim m [
    | inl e ↦ have.each u (inl e)
    | inr n ↦ elim n [
      | inl e ↦ ap length (sym e) ∙ length-scale (negsuc 0) v ∙ have.each v (inl refl)
      | inr o ↦ (signed_of_length k vs (rest_of_length k v vs have)).each u o
    ]
  ];
}

pub signed_has : (v : Vector) (vs : List Vector) → Member v vs → Member v (signed vs)
signed_has v [] m = absurd m
signed_has v (u ∷ vs) (inl e) = inl e
signed_has v (u ∷ vs) (inr m) = inr (inr (signed_has v vs m))

pub signed_negative : (v : Vector) (vs : List Vector) → Member v vs → Member (scale (negsuc 0) v) (signed vs)
signed_negative v [] m = absurd m
signed_negative v (u ∷ vs) (inl e) = inr (inl (ap (scale (negsuc 0)) e))
signed_negative v (u ∷ vs) (inr m) = inr (inr (signed_negative v vs m))

-- closed under every multiple
pub signed_multiple : (k : ℕ) (vs : List Vector) → OfLength k vs → (c : ℤ) (x : Vector) → InSpan k vs x → InSpan k vs (scale c x)
signed_multiple k vs have c x h = elim (sign_of c) [
  | inl up ↦ closed.multiples c x up h
  | inr low ↦ subst D (scale-scale (neg_ℤ c) (negsuc 0) x ∙ ap (λ (z : ℤ). scale z x) (back c))
      (closed.multiples (neg_ℤ c) _ (omega (arith, ints)) minus)
] where
  D : Vector → Type 0
  D = InSpan k vs

  closed : IsClosed k D
  closed = cone_closed k (signed vs) (signed_of_length k vs have)

  back : (c : ℤ) → neg_ℤ c *ℤ negsuc 0 ≡ c
  back c = diff_same (diff_mul (diff_neg (diff c)) (diff (negsuc 0))) (diff c) (omega arith)

  turned : IsClosed k (λ y. D (scale (negsuc 0) y))
  turned = record {
    entries = λ y g. sym (length-scale (negsuc 0) y) ∙ g.entries;
    none = subst D (sym (scale-zero (negsuc 0) k)) closed.none;
    sums = λ y z g j. subst D (sym (scale-plus (negsuc 0) y z)) (closed.sums _ _ g j);
    multiples = λ d y s g. subst D (scale-comm d (negsuc 0) y) (closed.multiples d _ s g);
    quotients = λ d y s g. closed.quotients d _ s (subst D (scale-comm (negsuc 0) d y) g);
  }

  each_minus : (us : List Vector) → ((u : Vector) → Member u us → Member u vs) → (v : Vector) → Member v (signed us) → D (scale (negsuc 0) v)
  each_minus [] within v m = absurd m
  each_minus (u ∷ us) within v (inl e) = cone_has k (signed vs) (scale (negsuc 0) v) (signed_of_length k vs have) (signed_negative v vs
      (within v (inl e)))
  each_minus (u ∷ us) within v (inr (inl e)) = subst D (sym (negative_twice u) ∙ ap (scale (negsuc 0)) e) (cone_has k (signed vs) u
      (signed_of_length k vs have) (signed_has u vs (within u (inl refl))))
  each_minus (u ∷ us) within v (inr (inr m)) = each_minus us (λ w n. within w (inr n)) v m

  minus : D (scale (negsuc 0) x)
  minus = closed_cone k (λ y. D (scale (negsuc 0) y)) (signed vs) x turned (each_minus vs (λ u m. m)) h

-- a positive multiple is an integer times v and a sum of the others
pub record Part (k : ℕ) (v : Vector) (vs : List Vector) (x : Vector) : Type 0 where
  pub multiple : ℕ
  pub positive : 0 < multiple
  pub times : ℤ
  pub rest : Vector
  pub rest_in : InSpan k vs rest
  pub sum : scale (pos multiple) x ≡ plus (scale times v) rest

pub signed_part : (k : ℕ) (v : Vector) (vs : List Vector) (x : Vector) → OfLength k (v ∷ vs) → InSpan k (v ∷ vs) x → Part k v vs x
signed_part k v vs x have h = from h.weights h.one_each h.sum where
  rest_have : OfLength k vs
  rest_have = rest_of_length k v vs have

  join : (c d : ℕ) (v o : Vector) → plus (scale (pos c) v) (plus (scale (pos d) (scale (negsuc 0) v)) o) ≡ plus (scale
      (pos c +ℤ pos d *ℤ negsuc 0) v) o
  join c d [] o = refl
  join c d (x ∷ v) [] = refl
  join c d (x ∷ v) (y ∷ o) =
      let e : pos c *ℤ x +ℤ (pos d *ℤ (negsuc 0 *ℤ x) +ℤ y) ≡ (pos c +ℤ pos d *ℤ negsuc 0) *ℤ x +ℤ y = diff_same
      (diff_add (diff_mul (diff (pos c)) (diff x)) (diff_add (diff_mul (diff (pos d)) (diff_mul (diff (negsuc 0)) (diff x))) (diff y)))
      (diff_add (diff_mul (diff_add (diff (pos c)) (diff_mul (diff (pos d)) (diff (negsuc 0)))) (diff x)) (diff y)) (omega arith) in
      λ i. e i ∷ join c d v o i

  from : (ws : List ℕ) → length ws ≡ length (signed (v ∷ vs)) → scale (pos h.multiple) x ≡ combination k (map pos ws) (signed (v ∷ vs))
      → Part k v vs x
  from [] n e = absurd (omega arith)
  from (c ∷ []) n e = absurd (omega arith)
  from (c ∷ (d ∷ ws)) n e = record {
    multiple = h.multiple;
    positive = h.positive;
    times = pos c +ℤ pos d *ℤ negsuc 0;
    rest = combination k (map pos ws) (signed vs);
    rest_in = closed_combination k (InSpan k vs) (cone_closed k (signed vs) (signed_of_length k vs rest_have)) ws (signed vs)
        (λ u m. cone_has k (signed vs) u (signed_of_length k vs rest_have) m);
    sum = e ∙ join c d v (combination k (map pos ws) (signed vs));
  }

pub signed_within : (k : ℕ) (us vs : List Vector) (x : Vector) → OfLength k us → ((v : Vector) → Member v vs → InSpan k us v)
    → InSpan k vs x → InSpan k us x
signed_within k us vs x have inside h = closed_cone k (InSpan k us) (signed vs) x (cone_closed k (signed us) (signed_of_length k us have))
    (each vs inside) h where
      each : (vs : List Vector) → ((v : Vector) → Member v vs → InSpan k us v) → (v : Vector) → Member v (signed vs) → InSpan k us v
      each [] inside v m = absurd m
      each (u ∷ vs) inside v (inl e) = subst (InSpan k us) e (inside u (inl refl))
      each (u ∷ vs) inside v (inr (inl e)) = subst (InSpan k us) e (signed_multiple k us have (negsuc 0) u (inside u (inl refl)))
      each (u ∷ vs) inside v (inr (inr m)) = each vs (λ w n. inside w (inr n)) v m
