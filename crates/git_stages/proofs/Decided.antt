-- A list of inequalities of full rank is wide first at some stage, or never.
use Rattle.std.proofs.Common.{◌≡◌, ◌⊎◌, ℕ, zero, suc, ◌+◌, ◌-◌, ◌<◌, ◌≤◌, ◌^◌, List, [], ◌∷◌, ◌++◌, length, take, append-nil, append_assoc, refl, sym, subst, arith, inl, inr}
use Rattle.std.proofs.Math.IntN.{ℤ, pos}
use Rattle.std.specs.Prelude.{Contains}
use Rattle.std.specs.Cmp.Lexicographic.{slice_cmp}
use Rattle.std.specs.Ordering.{int_cmp}
use Rattle.std.specs.Int.RustNames.{unsigned_abs}
use Rattle.std.proofs.lemmas.List.Elements.{All-nil, All-cons}
use Rattle.std.proofs.Math.Nat.{eq-or-lt_of_le}
use Rattle.git_defs.specs.Vectors.{Vector, HasRank, AreIndependent, Precedes, units, AllOfLength}
use Rattle.git_defs.proofs.Closed.{cone_has}
use Rattle.git_lemmas.specs.Members.{Member}
use Rattle.git_defs.proofs.Lengths.{OfLength, all_of_length}
use Rattle.git_lemmas.proofs.Members.{member_contains, contains_member, all_member, member_all}
use Rattle.git_geometry.specs.Elimination.{InSpan, signed}
use Rattle.git_geometry.proofs.Elimination.{dependent}
use Rattle.git_geometry.proofs.Independence.{begin, crossing, run_more, elimination_of_independent, diagonal_independent}
use Rattle.git_geometry.proofs.Lists.{member_left, member_right, member_either}
use Rattle.git_geometry.proofs.Signed.{signed_of_length, signed_has, signed_within}
use Rattle.git_geometry.proofs.Spans.{independent_at_most}
use Rattle.git_geometry.proofs.Units.{units_of_length, length-units, units_span}
use Rattle.git_ints.specs.Padded.{AreWithin}
use Rattle.git_stages.specs.Eliminations.{IsSplit}
use Rattle.git_stages.specs.Ranks.{IsRank}
use Rattle.git_stages.specs.Stages.{IsStage}
use Rattle.git_stages.specs.Narrow.{IsNarrowAt, IsNarrowTo}
use Rattle.git_stages.specs.Wide.{IsLarge, IsLeastLarge, IsWhat, IsWideStage, IsWideAt, NeverWide}
use Rattle.git_stages.specs.declared.wide.WideWhat.{WideWhat}
use Rattle.git_stages.specs.declared.wide.WideWhat.TheVariants.{Entry, Many}
use Rattle.git_stages.proofs.Exist.{prepared_exists, rays_exist, lists_exist}
use Rattle.git_stages.proofs.Listed.{vectors_total, irreflexive, data_of, turned, equal_same}
use Rattle.git_stages.proofs.Once.{narrow_first}
use Rattle.git_stages.proofs.Prepares.{prepared_length, prepared_rank}
use Rattle.git_stages.proofs.Shorts.{within_or_not}
use Rattle.git_stages.proofs.Splits.{of_length_end, split_exists, run_end}

-- ---- the base of a split
pub split_independent : (k : ℕ) (taken left base rest : List Vector) → IsSplit k taken left base rest → AreIndependent k taken → AreIndependent k base
split_independent k taken [] base rest s free = subst (AreIndependent k) (sym s.0) free
split_independent k taken (b ∷ left) base rest (inl s) free = split_independent k (taken ++ b ∷ []) left base rest s.1 s.0
split_independent k taken (b ∷ left) base rest (inr s) free = split_independent k taken left base s.1 s.3 free

pub none_independent : (k : ℕ) → AreIndependent k []
none_independent k [] e z = All-nil (λ (c : ℤ). c ≡ pos 0)
none_independent k (c ∷ cs) e z = absurd (omega (arith, e))

split_has : (k : ℕ) (taken left base rest : List Vector) → IsSplit k taken left base rest → OfLength k (taken ++ left) → OfLength k base
split_has k taken [] base rest s have = subst (OfLength k) (sym s.0) (subst (OfLength k) (append-nil taken) have)
split_has k taken (b ∷ left) base rest (inl s) have = split_has k (taken ++ b ∷ []) left base rest s.1 (record {
  each = λ v m. elim (member_either v (taken ++ b ∷ []) left m) [
    | inl l ↦ elim (member_either v taken (b ∷ []) l) [
      | inl n ↦ have.each v (member_left v taken (b ∷ left) n)
      | inr n ↦ elim n [ inl e ↦ have.each v (member_right v taken (b ∷ left) (inl e)) | inr o ↦ absurd o ]
    ]
    | inr r ↦ have.each v (member_right v taken (b ∷ left) (inr r))
  ];
})
split_has k taken (b ∷ left) base rest (inr s) have = split_has k taken left base s.1 s.3 (record {
  each = λ v m. elim (member_either v taken left m) [
    | inl l ↦ have.each v (member_left v taken (b ∷ left) l)
    | inr r ↦ have.each v (member_right v taken (b ∷ left) (inr r))
  ];
})

-- the taken ones are in the base
split_front : (k : ℕ) (taken left base rest : List Vector) → IsSplit k taken left base rest → (v : Vector) → Member v taken → Member v base
split_front k taken [] base rest s v m = subst (Member v) (sym s.0) m
split_front k taken (b ∷ left) base rest (inl s) v m = split_front k (taken ++ b ∷ []) left base rest s.1 v (member_left v taken (b ∷ []) m)
split_front k taken (b ∷ left) base rest (inr s) v m = split_front k taken left base s.1 s.3 v m

-- one that isn't independent of the taken ones is in their span
in_span : (k : ℕ) (b : Vector) (taken : List Vector) → length b ≡ k → OfLength k taken → AreIndependent k taken → (AreIndependent k (taken ++ b ∷ []) → ⊥) → InSpan k taken b
in_span k b taken lb have free dep =
    let r = elimination_of_independent k taken have free in
    elim (crossing b r.free) [
      | inl c ↦ (
          let more = run_end k b taken (run_more k b taken lb r c) in
          absurd (dep (diagonal_independent k (taken ++ b ∷ []) more.rays (of_length_end k taken b have lb) more.state.diagonal)))
      | inr level ↦ dependent k b taken r.free r.rays lb have r.state level
    ]

span_up : (k : ℕ) (us vs : List Vector) (x : Vector) → OfLength k us → ((v : Vector) → Member v vs → Member v us) → InSpan k vs x → InSpan k us x
span_up k us vs x have within h = signed_within k us vs x have (λ v m. cone_has k (signed us) v (signed_of_length k us have) (signed_has v us (within v m))) h

split_spans : (k : ℕ) (taken left base rest : List Vector) → OfLength k taken → OfLength k left → OfLength k base → AreIndependent k taken → IsSplit k taken left base rest
    → (v : Vector) → Member v left → InSpan k base v
split_spans k taken [] base rest ht hl hb free s v m = absurd m
split_spans k taken (b ∷ left) base rest ht hl hb free (inl s) v m = elim m [
  | inl e ↦ cone_has k (signed base) v (signed_of_length k base hb) (signed_has v base (split_front k (taken ++ b ∷ []) left base rest s.1 v (member_right v taken (b ∷ []) (inl e))))
  | inr n ↦ split_spans k (taken ++ b ∷ []) left base rest (of_length_end k taken b ht (hl.each b (inl refl))) (record { each = λ w o. hl.each w (inr o) }) hb s.0 s.1 v n
]
split_spans k taken (b ∷ left) base rest ht hl hb free (inr s) v m = elim m [
  | inl e ↦ subst (InSpan k base) e (span_up k base taken b hb (split_front k taken left base s.1 s.3) (in_span k b taken (hl.each b (inl refl)) ht free s.0))
  | inr n ↦ split_spans k taken left base s.1 ht (record { each = λ w o. hl.each w (inr o) }) hb free s.3 v n
]

base_full : (k : ℕ) (list base rest : List Vector) → OfLength k list → HasRank k list → IsSplit k [] list base rest → length base ≡ k
base_full k list base rest have rank s =
    let hb = split_has k [] list base rest s have in
    let free = split_independent k [] list base rest s (none_independent k) in
    let low = independent_at_most k base rank.chosen hb
    (λ v m. split_spans k [] list base rest (record { each = λ w o. absurd o }) have hb (none_independent k) s v (contains_member v list (all_member (Contains list) v rank.chosen rank.from m))) rank.independent in
    let high = independent_at_most k (units k) base (units_of_length k) (λ v m. units_span k v (hb.each v m)) free in
    let n = rank.count in let u = length-units k in omega (arith, low, high, n, u)

-- ---- each stage has a list
stage_exists : (k : ℕ) (base rest : List Vector) (j : ℕ) → OfLength k base → AreIndependent k base → length base ≡ k → 0 < j → j ≤ k + length rest
    → (vs : List Vector) × IsStage k base rest j vs
stage_exists k base rest j have free full some few = elim (within_or_not j k) [
  | inl h ↦ (
      let l = lists_exist k base j have free (omega (arith, h, full)) in
      (l.free ++ l.rays, inl (record { some = some; few = h; free = l.free; rays = l.rays; lists = l.lists; is = refl })))
  | inr above ↦ (
      let more : k < j = (elim (within_or_not (suc k) j) [ inl h ↦ h | inr n ↦ absurd (above (low j k n)) ]) in
      let r = rays_exist k (base ++ take (j - k) rest) in
      (r.list, inr (record { more = j - k; some = omega (arith, more); few = omega (arith, few); is = omega (arith, more); rays = r.rays })))
] where
  low : (j k : ℕ) → (suc k ≤ j → ⊥) → j ≤ k
  low zero k n = omega arith
  low (suc j) zero n = absurd (n (omega arith))
  low (suc j) (suc k) n = let h = low j k (λ g. n (omega (arith, g))) in omega (arith, h)

-- ---- a stage is wide or not, with its evidence
small_or_large : (v : Vector) → AreWithin (2 ^ 40) v ⊎ IsLarge v
small_or_large [] = inl (All-nil (λ z. unsigned_abs z ≤ 2 ^ 40))
small_or_large (x ∷ v) = elim (within_or_not (unsigned_abs x) (2 ^ 40)) [
  | inr f ↦ inr (λ w. f (w 0 (pos 0) (omega arith)))
  | inl h ↦ elim (small_or_large v) [
    | inl w ↦ inl (All-cons (λ z. unsigned_abs z ≤ 2 ^ 40) x v h w)
    | inr l ↦ inr (λ w. l (λ i d g. w (suc i) d (omega arith)))
  ]
]

record LeastMember (vs : List Vector) (v : Vector) : Type 0 where
  member : Member v vs
  large : IsLarge v
  least : (u : Vector) → Member u vs → IsLarge u → Precedes u v → ⊥

abbrev Searched : List Vector → Type 0
Searched vs = ((v : Vector) × LeastMember vs v) ⊎ ((v : Vector) → Member v vs → IsLarge v → ⊥)

least_search : (vs : List Vector) → Searched vs
least_search [] = inr (λ v m l. absurd m)
least_search (x ∷ vs) = by x vs (small_or_large x) (least_search vs) where
  by : (x : Vector) (vs : List Vector) → AreWithin (2 ^ 40) x ⊎ IsLarge x → Searched vs → Searched (x ∷ vs)
  by x vs (inl s) (inl f) = inl (
    f.0,
    record {
      member = inr f.1.member;
      large = f.1.large;
      least = λ u m l p. elim m [ inl e ↦ l (subst (AreWithin (2 ^ 40)) e s) | inr n ↦ f.1.least u n l p ];
    },
  )
  by x vs (inl s) (inr none) = inr (λ v m l. elim m [ inl e ↦ l (subst (AreWithin (2 ^ 40)) e s) | inr n ↦ none v n l ])
  by x vs (inr l) (inr none) = inl (
    x,
    record {
      member = inl refl;
      large = l;
      least = λ u m k p. elim m [ inl e ↦ irreflexive x (subst (λ (y : Vector). Precedes y x) (sym e) p) | inr n ↦ none u n k ];
    },
  )
  by x vs (inr l) (inl f) = elim (data_of (slice_cmp int_cmp x f.0)) [
    | inl less ↦ inl (
      x,
      record {
        member = inl refl;
        large = l;
        least = λ u m k p. elim m [
          | inl e ↦ irreflexive x (subst (λ (y : Vector). Precedes y x) (sym e) p)
          | inr n ↦ f.1.least u n k (vectors_total.trans u x f.0 p less)
        ];
      },
    )
    | inr o ↦ inl (
      f.0,
      record {
        member = inr f.1.member;
        large = f.1.large;
        least = λ u m k p. elim m [
          | inr n ↦ f.1.least u n k p
          | inl e ↦ (let q = subst (λ (y : Vector). Precedes y f.0) (sym e) p in elim o [
            | inl same ↦ irreflexive f.0 (subst (λ (y : Vector). Precedes y f.0) (equal_same x f.0 same) q)
            | inr more ↦ irreflexive x (vectors_total.trans x f.0 x q (turned (slice_cmp int_cmp f.0 x) (slice_cmp int_cmp x f.0) (vectors_total.antisymm f.0 x) more))
          ])
        ];
      },
    )
  ]

abbrev Judged : ℕ → ℕ → List Vector → Type 0
Judged k j vs = (IsWideStage k j vs × ((what : WideWhat) × IsWhat vs what)) ⊎ (IsWideStage k j vs → ⊥)

judge : (k j : ℕ) (vs : List Vector) → Judged k j vs
judge k j vs = elim (least_search vs) [
  | inl f ↦ (
      let s : IsLeastLarge vs f.0 = record {
        member = member_contains f.0 vs f.1.member;
        large = f.1.large;
        least = λ u c l p. f.1.least u (contains_member u vs c) l p;
      } in
      inl (inl (f.0, s.member, s.large), (Entry f.0, s)))
  | inr none ↦ elim (within_or_not (suc k) j) [
    | inr early ↦ inr (λ w. elim w [ inl o ↦ none o.0 (contains_member o.0 vs o.1) o.2 | inr o ↦ early (let h = o.0 in omega (arith, h)) ])
    | inl late ↦ elim (within_or_not (length vs) 65536) [
      | inl few ↦ inr (λ w. elim w [ inl o ↦ none o.0 (contains_member o.0 vs o.1) o.2 | inr o ↦ (let h = o.1 in omega (arith, h, few)) ])
      | inr many ↦ inl (inr (omega (arith, late), above (length vs) 65536 many), (Many, λ v c l. none v (contains_member v vs c) l))
    ]
  ]
] where
  above : (m n : ℕ) → (m ≤ n → ⊥) → n < m
  above m n f = elim (within_or_not (suc n) m) [ inl h ↦ omega (arith, h) | inr g ↦ absurd (f (least m n g)) ] where
    least : (m n : ℕ) → (suc n ≤ m → ⊥) → m ≤ n
    least zero n g = omega arith
    least (suc m) zero g = absurd (g (omega arith))
    least (suc m) (suc n) g = let h = least m n (λ i. g (omega (arith, i))) in omega (arith, h)

-- ---- the first wide stage
record FirstAt (k : ℕ) (base rest : List Vector) : Type 0 where
  stage : ℕ
  vectors : List Vector
  is : IsStage k base rest stage vectors
  wide : IsWideStage k stage vectors
  what : WideWhat
  evidence : IsWhat vectors what
  first : (i : ℕ) (us : List Vector) → i < stage → IsStage k base rest i us → IsWideStage k i us → ⊥

abbrev Sought : ℕ → List Vector → List Vector → ℕ → Type 0
Sought k base rest n = FirstAt k base rest ⊎ IsNarrowTo k base rest n

seek : (k : ℕ) (base rest : List Vector) (n : ℕ) → OfLength k base → AreIndependent k base → length base ≡ k → n ≤ k + length rest → Sought k base rest n
seek k base rest zero have free full few = inr (λ i p q. absurd (omega (arith, p, q)))
seek k base rest (suc n) have free full few = elim (seek k base rest n have free full (omega (arith, few))) [
  | inl f ↦ inl f
  | inr to ↦ (
      let s = stage_exists k base rest (suc n) have free full (omega arith) few in
      elim (judge k (suc n) s.0) [
        | inl w ↦ inl (record {
          stage = suc n;
          vectors = s.0;
          is = s.1;
          wide = w.0;
          what = (w.1).0;
          evidence = (w.1).1;
          first = λ i us h. narrow_first k base rest n to i us (omega (arith, h));
        })
        | inr narrow ↦ inr (λ i p q. elim (eq-or-lt_of_le q) [
          | inl e ↦ subst (IsNarrowAt k base rest) (sym e) (record { list = s.0; stage = s.1; narrow = narrow })
          | inr h ↦ to i p (omega (arith, h))
        ])
      ])
]

last_stage : (k : ℕ) (base rest : List Vector) (i : ℕ) (us : List Vector) → IsStage k base rest i us → i ≤ k + length rest
last_stage k base rest i us (inl e) = let f = e.few in omega (arith, f)
last_stage k base rest i us (inr e) = let f = e.few in let g = e.is in omega (arith, f, g)

pub wide_decided : (k : ℕ) (given : List Vector) → AllOfLength k given → HasRank k given → NeverWide k given ⊎ ((stage : ℕ) × (what : WideWhat) × IsWideAt k given stage what)
wide_decided k given lengths rank =
    let have = all_of_length k given lengths in
    let p = prepared_exists given in
    let list_have = prepared_length k given p.list p.prepared have in
    let list_rank = prepared_rank k given p.list p.prepared have rank in
    let s = split_exists k [] p.list (record { each = λ v m. absurd m }) list_have (begin k) in
    let base_have = split_has k [] p.list s.base s.rest s.split list_have in
    let free = split_independent k [] p.list s.base s.rest s.split (none_independent k) in
    let full = base_full k p.list s.base s.rest list_have list_rank s.split in
    elim (seek k s.base s.rest (k + length s.rest) base_have free full (omega arith)) [
      | inl f ↦ inr (
        f.stage,
        f.what,
        record {
          vectors = f.vectors;
          first = record {
            prepared = p.list;
            is_prepared = p.prepared;
            base = s.base;
            rest = s.rest;
            split = s.split;
            stage = f.is;
            wide = f.wide;
            first = f.first;
          };
          evidence = f.evidence;
        },
      )
      | inr to ↦ inl (record {
        prepared = p.list;
        is_prepared = p.prepared;
        base = s.base;
        rest = s.rest;
        split = s.split;
        never = λ i us t. narrow_first k s.base s.rest (k + length s.rest) to i us (last_stage k s.base s.rest i us t) t;
      })
    ]

-- ---- the rank exists
split_within : (k : ℕ) (taken left base rest : List Vector) → IsSplit k taken left base rest → (v : Vector) → Member v base → Member v (taken ++ left)
split_within k taken [] base rest s v m = member_left v taken [] (subst (Member v) s.0 m)
split_within k taken (b ∷ left) base rest (inl s) v m = subst (Member v) (append_assoc taken (b ∷ []) left) (split_within k (taken ++ b ∷ []) left base rest s.1 v m)
split_within k taken (b ∷ left) base rest (inr s) v m = elim (member_either v taken left (split_within k taken left base s.1 s.3 v m)) [
  | inl l ↦ member_left v taken (b ∷ left) l
  | inr r ↦ member_right v taken (b ∷ left) (inr r)
]

pub rank_exists : (k : ℕ) (given : List Vector) → AllOfLength k given → (rank : ℕ) × IsRank k given rank
rank_exists k given lengths =
    let have = all_of_length k given lengths in
    let s = split_exists k [] given (record { each = λ v m. absurd m }) have (begin k) in
    let base_have = split_has k [] given s.base s.rest s.split have in
    let free = split_independent k [] given s.base s.rest s.split (none_independent k) in (
      length s.base,
      record {
        reached = record {
          chosen = s.base;
          from = member_all (Contains given) s.base (λ v m. member_contains v given (split_within k [] given s.base s.rest s.split v m));
          count = refl;
          independent = free;
        };
        greatest = λ h.
            let few = independent_at_most k s.base h.chosen base_have
            (λ v m. split_spans k [] given s.base s.rest (record { each = λ w o. absurd o }) have base_have (none_independent k) s.split v (contains_member v given (all_member (Contains given) v h.chosen h.from m))) h.independent in
            let n = h.count in omega (arith, n, few);
      },
    )
