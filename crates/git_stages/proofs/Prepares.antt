-- The prepared list: how it is made, what it keeps, and that there is one.
use Rattle.std.proofs.Common.{◌≡◌, ℕ, zero, suc, ◌+◌, ◌<◌, ◌≤◌, ◌^◌, List, [], ◌∷◌, ◌++◌, length, take, get_or, sym, ◌∙◌, ap, subst, arith, inl, inr}
use Rattle.std.proofs.Math.IntN.{ℤ, pos, ◌*ℤ◌}
use Rattle.std.specs.Prelude.{All, ◌≤ℤ◌}
use Rattle.std.specs.Int.RustNames.{unsigned_abs}
use Rattle.std.proofs.lemmas.Int.{ints, unsigned_abs-mul}
use Rattle.std.proofs.lemmas.List.Elements.{All-nil, All-cons, Contains-append_left}
use Rattle.git_defs.specs.Vectors.{Vector, zero_vector, scale, dot, IsPrimitive, HasRank}
use Rattle.git_defs.specs.Cones.{Cut, SameSet}
use Rattle.git_lemmas.proofs.Integers.{nonneg_of_mul, mul_nonneg}
use Rattle.git_lemmas.specs.Members.{Member}
use Rattle.git_defs.proofs.Lengths.{OfLength}
use Rattle.git_lemmas.proofs.Members.{all_member, member_all, contains_member, member_contains, as_member, contained}
use Rattle.git_defs.proofs.Linear.{dot-comm, dot-scale, dot-zero, length-scale}
use Rattle.git_defs.proofs.Sums.{scale-zero}
use Rattle.git_geometry.proofs.Cuts.{side_at, cut_of}
use Rattle.git_geometry.proofs.Independence.{rank_pointed}
use Rattle.git_geometry.proofs.Lists.{member_right, member_either}
use Rattle.git_geometry.proofs.Primitive.{vanish, primitive_nonzero, primitive_part}
use Rattle.git_geometry.proofs.Ranks.{pointed_rank}
use Rattle.git_geometry.proofs.Rays.{pointed_along, same_back}
use Rattle.git_geometry.proofs.Sorted.{sorted_once, ascending_of}
use Rattle.git_geometry.proofs.Squares.{vector_zero_or_not}
use Rattle.git_ints.specs.Padded.{AreWithin}
use Rattle.git_ints.specs.Content.{IsPrimitivePart}
use Rattle.git_stages.proofs.Fronts.{member_more, front_grows, last_in}
use Rattle.git_stages.proofs.Replaced.{part_once_by}
use Rattle.git_stages.specs.Prepared.{ArePrimitiveParts, IsSortedSet, IsPrepared, IsAlong}
use Rattle.git_stages.specs.Short.{IsShort}

-- one that is 0 leaves nothing
pub gather_skip : (k : ℕ) (given out : List Vector) (i : ℕ) (d w : Vector) → i < length given → length (get_or given i d) ≡ k → IsPrimitivePart (get_or given i d) w → w ≡ zero_vector k
    → ArePrimitiveParts (take i given) out → ArePrimitiveParts (take (i + 1) given) out
gather_skip k given out i d w h e part z g = record {
  primitive = g.primitive;
  from = λ x m. let f = g.from x m in (f.0, contained (take (i + 1) given) (front_grows given i d f.0 h (as_member (take i given) f.1)), f.2);
  each = λ x a m p l. elim (member_more given i d a h (as_member (take (i + 1) given) m)) [
    | inl n ↦ g.each x a (contained (take i given) n) p l
    | inr f ↦ absurd (
        let same : get_or given i d ≡ zero_vector k = part.is ∙ ap (scale (pos part.divisor)) z ∙ scale-zero (pos part.divisor) k in
        let len : length x ≡ k = sym (length-scale (pos l.times) x) ∙ ap length (sym l.is ∙ sym f) ∙ e in
        primitive_nonzero k x len p (vanish k l.times x l.positive (sym l.is ∙ sym f ∙ same)))
  ];
}

pub gather_more : (k : ℕ) (given out : List Vector) (i : ℕ) (d w : Vector) → i < length given → length (get_or given i d) ≡ k → IsPrimitivePart (get_or given i d) w → (w ≡ zero_vector k → ⊥)
    → ArePrimitiveParts (take i given) out → ArePrimitiveParts (take (i + 1) given) (out ++ w ∷ [])
gather_more k given out i d w h e part some g =
    let a0 = get_or given i d in
    let pw : IsPrimitive w = part.primitive (λ z. some (vanish k part.divisor w part.positive (sym part.is ∙ z ∙ ap zero_vector e))) in
    record {
      primitive = λ x m. elim (member_either x out (w ∷ []) (as_member (out ++ w ∷ []) m)) [
        | inl n ↦ g.primitive x (contained out n)
        | inr n ↦ elim n [ inl f ↦ subst IsPrimitive f pw | inr o ↦ absurd o ]
      ];
      from = λ x m. elim (member_either x out (w ∷ []) (as_member (out ++ w ∷ []) m)) [
        | inl n ↦ (let f = g.from x (contained out n) in (f.0, contained (take (i + 1) given) (front_grows given i d f.0 h (as_member (take i given) f.1)), f.2))
        | inr n ↦ elim n [
          | inl f ↦ (a0, contained (take (i + 1) given) (last_in given i d h), record { times = part.divisor; positive = part.positive; is = part.is ∙ ap (scale (pos part.divisor)) f })
          | inr o ↦ absurd o
        ]
      ];
      each = λ x a m p l. elim (member_more given i d a h (as_member (take (i + 1) given) m)) [
        | inl n ↦ Contains-append_left out (w ∷ []) x (g.each x a (contained (take i given) n) p l)
        | inr f ↦ contained (out ++ w ∷ []) (member_right x out (w ∷ [])
            (inl (part_once_by part.divisor l.times w x part.positive l.positive pw p (sym part.is ∙ f ∙ l.is))))
      ];
    }

pub prepare : (given out list : List Vector) → ArePrimitiveParts given out → IsSortedSet out list → IsPrepared given list
prepare given out list g t = record {
  sorted = t.sorted;
  primitive = λ x c. g.primitive x ((t.each x).0 c);
  from = λ x c. g.from x ((t.each x).0 c);
  each = λ x a c p l. (t.each x).1 (g.each x a c p l);
}

-- ---- what the prepared list keeps
module _ (k : ℕ) (given list : List Vector) (p : IsPrepared given list) (have : OfLength k given) where
  pub prepared_length : OfLength k list
  prepared_length = record {
    each = λ x m. let f = p.from x (member_contains x list m) in
        sym (length-scale (pos (f.2).times) x) ∙ ap length (sym (f.2).is) ∙ have.each f.0 (contains_member f.0 given f.1);
  }

  side_along : (x a y : Vector) → IsAlong x a → pos 0 ≤ℤ dot a y → pos 0 ≤ℤ dot x y
  side_along x a y l s =
      let e : dot a y ≡ pos l.times *ℤ dot x y = ap (λ (u : Vector). dot u y) l.is ∙ dot-comm (scale (pos l.times) x) y ∙ dot-scale y (pos l.times) x ∙ ap (λ (z : ℤ). pos l.times *ℤ z) (dot-comm y x) in
      nonneg_of_mul l.times (dot x y) l.positive (subst (λ (z : ℤ). pos 0 ≤ℤ z) e s)

  side_back : (x a y : Vector) → IsAlong x a → pos 0 ≤ℤ dot x y → pos 0 ≤ℤ dot a y
  side_back x a y l s =
      let e : dot a y ≡ pos l.times *ℤ dot x y = ap (λ (u : Vector). dot u y) l.is ∙ dot-comm (scale (pos l.times) x) y ∙ dot-scale y (pos l.times) x ∙ ap (λ (z : ℤ). pos l.times *ℤ z) (dot-comm y x) in
      subst (λ (z : ℤ). pos 0 ≤ℤ z) (sym e) (mul_nonneg (pos l.times) (dot x y) (omega (arith, ints)) s)

  pub prepared_cut : SameSet (Cut k given) (Cut k list)
  prepared_cut y = (
    λ c. cut_of c.entries (λ x m. let f = p.from x (member_contains x list m) in side_along x f.0 y f.2 (side_at c f.0 (contains_member f.0 given f.1))),
    λ c. cut_of c.entries (λ a m. back a m c),
  ) where
    back : (a : Vector) → Member a given → Cut k list y → pos 0 ≤ℤ dot a y
    back a m c = elim (vector_zero_or_not k a (have.each a m)) [
      | inl z ↦ (let e = ap (λ (u : Vector). dot u y) z ∙ dot-comm (zero_vector k) y ∙ dot-zero y k in subst (λ (w : ℤ). pos 0 ≤ℤ w) (sym e) (omega (arith, ints)))
      | inr s ↦ (
          let q = primitive_part k a (have.each a m) s in
          let l : IsAlong q.vector a = record { times = q.times; positive = q.positive; is = q.is } in
          side_back q.vector a y l (side_at c q.vector (contains_member q.vector list (p.each q.vector a (member_contains a given m) q.primitive l))))
    ]

  pub prepared_rank : HasRank k given → HasRank k list
  prepared_rank r = pointed_rank k list prepared_length (pointed_along k (Cut k given) (Cut k list) prepared_cut (rank_pointed k given have r))

  pub rank_of_prepared : HasRank k list → HasRank k given
  rank_of_prepared r = pointed_rank k given have (pointed_along k (Cut k list) (Cut k given) (same_back (Cut k given) (Cut k list) prepared_cut) (rank_pointed k list prepared_length r))

smaller : (n t : ℕ) (z : ℤ) → 0 < t → unsigned_abs (pos t *ℤ z) ≤ n → unsigned_abs z ≤ n
smaller n zero z h w = absurd (omega arith)
smaller n (suc t) z h w = let e = unsigned_abs-mul (pos (suc t)) z in omega (arith, e, w)

within_along : (n t : ℕ) (x : Vector) → 0 < t → AreWithin n (scale (pos t) x) → AreWithin n x
within_along n t [] h w = All-nil (λ z. unsigned_abs z ≤ n)
within_along n t (y ∷ x) h w = All-cons (λ z. unsigned_abs z ≤ n) y x (smaller n t y h (w 0 (pos 0) (omega arith))) (within_along n t x h (λ i d g. w (suc i) d (omega arith)))

pub prepared_short : (k : ℕ) (given list : List Vector) → IsPrepared given list → All (IsShort k) given → All (IsShort k) list
prepared_short k given list p all = member_all (IsShort k) list (λ x m.
    let f = p.from x (member_contains x list m) in
    let s = all_member (IsShort k) f.0 given all (contains_member f.0 given f.1) in
    record {
      entries = sym (length-scale (pos (f.2).times) x) ∙ ap length (sym (f.2).is) ∙ s.entries;
      within = within_along (2 ^ 40) (f.2).times x (f.2).positive (subst (AreWithin (2 ^ 40)) (f.2).is s.within);
    })

-- ---- there is one prepared list
pub prepared_once : (given us vs : List Vector) → IsPrepared given us → IsPrepared given vs → us ≡ vs
prepared_once given us vs p q = sorted_once us vs (ascending_of us p.sorted) (ascending_of vs q.sorted)
    (λ x m. let f = p.from x (member_contains x us m) in contains_member x vs (q.each x f.0 f.1 (p.primitive x (member_contains x us m)) f.2))
    (λ x m. let f = q.from x (member_contains x vs m) in contains_member x us (p.each x f.0 f.1 (q.primitive x (member_contains x vs m)) f.2))
