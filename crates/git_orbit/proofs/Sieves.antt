-- The sieve of masks.
use Rattle.std.proofs.Common.{◌≡◌, ◌⊎◌, ℕ, zero, suc, ◌+◌, ◌<◌, ◌≤◌, List, [], ◌∷◌, ◌++◌, length, get_or, refl, sym, ◌∙◌, ap, subst, arith, inl, inr, Bool, true, false, eqb, ne_eqb, eq-eqb}
use Rattle.std.specs.Prelude.{AllPairs, Contains, IsPermutation}
use Rattle.std.specs.List.{IsDistinct, AllByRecursion}
use Rattle.std.proofs.lemmas.List.{map-append}
use Rattle.std.proofs.lemmas.List.Sorted.{Contains-permutation, IsPermutation-sym, IsPermutation-map}
use Rattle.std.proofs.lemmas.Map.Keys.{IsDistinct-IsPermutation, apart_from_distinct}
use Rattle.git_defs.specs.Vectors.{Vector}
use Rattle.git_defs.specs.Faces.{face, IsConeFace, SameCone, IsGreatestMask, IsLeastMask}
use Rattle.git_lemmas.specs.Members.{Member}
use Rattle.git_lemmas.proofs.Members.{member_contains, contains_member, as_member, contained}
use Rattle.git_stages.specs.Wide.{NeverWide, IsWideAt}
use Rattle.git_orbit.specs.Orbits.{AreFaces, IsOrbitCone, greatest_of, AreOrbitCones, IsConesFault, IsNewFault, IsOne, HasCone, Differ, Sieved}
use Rattle.git_orbit.specs.declared.orbit.OrbitCone.{OrbitCone}
use Rattle.git_orbit.specs.declared.orbit.ConesFault.{ConesFault}
use Rattle.git_orbit.specs.declared.orbit.ConesFault.TheVariants.{Wide, NoMemory}
use Rattle.std.proofs.lemmas.List.Elements.{Contains-append_left, Contains-push, Contains-push_cases}

order : (i j : ℕ) → (i < j) ⊎ (j ≤ i)
order zero zero = inr (omega arith)
order zero (suc j) = inl (omega arith)
order (suc i) zero = inr (omega arith)
order (suc i) (suc j) = elim (order i j) [ inl h ↦ inl (omega (arith, h)) | inr h ↦ inr (omega (arith, h)) ]

any_default : {X : Type 0} (xs : List X) (i : ℕ) (d e : X) → i < length xs → get_or xs i d ≡ get_or xs i e
any_default [] i d e h = absurd (omega arith)
any_default (x ∷ xs) zero d e h = refl
any_default (x ∷ xs) (suc i) d e h = any_default xs i d e (omega arith)

pub record From (list : List OrbitCone) (m : ℕ) : Type 0 where
  pub cone : OrbitCone
  pub member : Member cone list
  pub is : cone.greatest ≡ m

from_greatest : (list : List OrbitCone) (m : ℕ) → Member m (greatest_of list) → From list m
from_greatest [] m n = absurd n
from_greatest (e ∷ es) m (inl q) = record { cone = e; member = inl refl; is = q }
from_greatest (e ∷ es) m (inr q) = let f = from_greatest es m q in record { cone = f.cone; member = inr f.member; is = f.is }

to_greatest : (list : List OrbitCone) (e : OrbitCone) → Member e list → Member e.greatest (greatest_of list)
to_greatest [] e n = absurd n
to_greatest (f ∷ fs) e (inl q) = inl (ap (λ (c : OrbitCone). c.greatest) q)
to_greatest (f ∷ fs) e (inr q) = inr (to_greatest fs e q)

differ_push : (xs : List ℕ) (y : ℕ) → Differ xs → ((x : ℕ) → Member x xs → x ≡ y → ⊥) → Differ (xs ++ y ∷ [])
differ_push [] y d new = ((λ z n e. absurd (as_member [] n)), tt)
differ_push (x ∷ xs) y d new = ((λ z n e. elim (Contains-push_cases xs y z n) [ inl o ↦ d.0 z o e | inr o ↦ new x (inl refl) (e ∙ sym o) ]), differ_push xs y d.1 (λ z n. new z (inr n)))

each_apart : (x : ℕ) (xs : List ℕ) → ((y : ℕ) → Member y xs → x ≡ y → ⊥) → AllByRecursion (λ y. eqb x y ≡ false) xs
each_apart x [] h = tt
each_apart x (y ∷ ys) h = (ne_eqb x y (h y (inl refl)), each_apart x ys (λ z n. h z (inr n)))

distinct_of : (xs : List ℕ) → Differ xs → IsDistinct eqb xs
unfolding IsDistinct
distinct_of [] d = tt
distinct_of (x ∷ xs) d = (each_apart x xs (λ y n. d.0 y (contained xs n)), distinct_of xs d.1)

eqb_flips : (x y : ℕ) → eqb x y ≡ eqb y x
eqb_flips x y = elim (order x y) [
  | inl l ↦ ne_eqb x y (λ e. omega (arith, l, e)) ∙ sym (ne_eqb y x (λ e. omega (arith, l, e)))
  | inr l ↦ elim (order y x) [
    | inl o ↦ ne_eqb x y (λ e. omega (arith, o, e)) ∙ sym (ne_eqb y x (λ e. omega (arith, o, e)))
    | inr o ↦ (let e : x ≡ y = omega (arith, l, o) in eq-eqb x y e ∙ sym (eq-eqb y x (sym e)))
  ]
]

same_self : (k : ℕ) (Q : List Vector) (m : ℕ) → SameCone k Q m m
same_self k Q m x = (λ h. h, λ h. h)

same_sym : (k : ℕ) (Q : List Vector) (m n : ℕ) → SameCone k Q m n → SameCone k Q n m
same_sym k Q m n s x = ((s x).1, (s x).0)

same_trans : (k : ℕ) (Q : List Vector) (m n o : ℕ) → SameCone k Q m n → SameCone k Q n o → SameCone k Q m o
same_trans k Q m n o s t x = (λ h. (t x).0 ((s x).0 h), λ h. (s x).1 ((t x).1 h))

module _ (k : ℕ) (Q : List Vector) (masks : List ℕ) (faces : AreFaces k Q masks) where
  abbrev at : ℕ → ℕ
  at p = get_or masks p 0

  pub at_accepted : (p : ℕ) → p < length masks → Contains masks (at p)
  at_accepted p h = (p, h, any_default masks p (at p) 0 h)

  pub at_face : (p : ℕ) → p < length masks → IsConeFace k Q (Contains masks) (at p)
  at_face p h = record { in_range = faces.in_range p 0 h; full = faces.full p 0 h; is_accepted = at_accepted p h }

  record Place (n : ℕ) : Type 0 where
    pub p : ℕ
    pub in_range : p < length masks
    pub is : at p ≡ n

  place_of : (n : ℕ) → Contains masks n → Place n
  place_of n c = record { p = c.0; in_range = c.1; is = any_default masks c.0 0 n c.1 ∙ c.2 }

  -- masks at earlier places are greater
  at_order : (p q : ℕ) → p ≤ q → q < length masks → at q ≤ at p
  at_order p q l h = elim (order p q) [
    | inl s ↦ (let d = faces.descending p q 0 s h in omega (arith, d))
    | inr s ↦ (let e : p ≡ q = omega (arith, l, s) in subst (λ (i : ℕ). at q ≤ at i) (sym e) (omega arith))
  ]

  pub sieve_none : (seen : List Bool) → length seen ≡ length masks → ((p : ℕ) → p < length masks → get_or seen p true ≡ false) → Sieved k Q masks (length masks) seen []
  sieve_none seen long none = record {
    long = long;
    each = λ e n. absurd (as_member [] n);
    narrow = λ e n. absurd (as_member [] n);
    marks = λ p h. ((λ t. let f = none p h in cc (t, f)), (λ c. absurd (as_member [] c.member)));
    all = λ p l h. absurd (omega (arith, l, h));
    differ = tt;
  }

  pub sieve_skip : (c : ℕ) (seen : List Bool) (list : List OrbitCone) → Sieved k Q masks (c + 1) seen list → get_or seen c true ≡ true → Sieved k Q masks c seen list
  sieve_skip c seen list s h = record {
    long = s.long;
    each = s.each;
    narrow = s.narrow;
    marks = λ p l. s.marks p (omega (arith, l));
    all = λ p l i. elim (order c p) [
      | inl q ↦ s.all p (omega (arith, q)) i
      | inr q ↦ (let e : c ≡ p = omega (arith, l, q) in subst (λ (j : ℕ). HasCone k Q list (at j)) e ((s.marks c (omega arith)).0 h))
    ];
    differ = s.differ;
  }

  module _ (c : ℕ) (seen : List Bool) (list : List OrbitCone) (s : Sieved k Q masks (c + 1) seen list) (in_range : c < length masks) (unseen : get_or seen c true ≡ true → ⊥) where
    fresh : HasCone k Q list (at c) → ⊥
    fresh h = unseen ((s.marks c (omega arith)).1 h)

    -- a mask at a later place has another cone
    later : (p : ℕ) → c < p → p < length masks → SameCone k Q (at p) (at c) → ⊥
    later p l h t =
        let a = s.all p (omega (arith, l)) h in
        fresh (record { cone = a.cone; member = a.member; same = same_trans k Q (at c) (at p) a.cone.greatest (same_sym k Q (at p) (at c) t) a.same })

    least_here : IsLeastMask k Q (Contains masks) (at c)
    least_here = record {
      is_face = at_face c in_range;
      least = λ n f t.
          let p = place_of n f.is_accepted in
          elim (order c p.p) [
            | inl l ↦ absurd (later p.p l p.in_range (subst (λ (j : ℕ). SameCone k Q j (at c)) (sym p.is) t))
            | inr l ↦ subst (λ (j : ℕ). at c ≤ j) p.is (at_order p.p c l in_range)
          ];
    }

    first_wide : (n : ℕ) → IsLeastMask k Q (Contains masks) n → n < at c → NeverWide k (face Q n)
    first_wide n l lt =
        let p = place_of n l.is_face.is_accepted in
        elim (order c p.p) [
          | inl after ↦ (
              let a = s.all p.p (omega (arith, after)) p.in_range in
              let e = a.cone in
              let o = s.each e a.member in
              let to_least : SameCone k Q n e.least = same_trans k Q n e.greatest e.least (subst (λ (j : ℕ). SameCone k Q j e.greatest) p.is a.same) o.same in
              let one : n ≤ e.least = l.least e.least o.least.is_face (same_sym k Q n e.least to_least) in
              let two : e.least ≤ n = o.least.least n l.is_face to_least in
              let is : e.least ≡ n = omega (arith, one, two) in
              subst (λ (j : ℕ). NeverWide k (face Q j)) is (s.narrow e a.member))
          | inr before ↦ absurd (let d = at_order p.p c before in_range in let i = p.is in omega (arith, d, i, lt))
        ]

    pub sieve_fault : (f : ConesFault) → IsConesFault k Q (at c) f → IsNewFault k Q (Contains masks) f
    sieve_fault (Wide mask wide) h = (
      record {
        is_least = subst (IsLeastMask k Q (Contains masks)) (sym h.0) least_here;
        first = λ m l lt. first_wide m l (subst (λ (j : ℕ). m < j) h.0 lt);
      },
      subst (λ (j : ℕ). IsWideAt k (face Q j) wide.stage wide.what) (sym h.0) h.1,
    )
    sieve_fault NoMemory h = tt

    module _ (new : List Bool) (e : OrbitCone) (one : IsOne k Q masks c seen new e) where
      best_same : SameCone k Q (at one.best) (at c)
      best_same = elim one.swept.hit [
        | inl q ↦ subst (λ (j : ℕ). SameCone k Q (at j) (at c)) (sym q) (same_self k Q (at c))
        | inr q ↦ q
      ]

      greatest_same : SameCone k Q e.greatest (at c)
      greatest_same = subst (λ (j : ℕ). SameCone k Q j (at c)) (sym one.greatest) best_same

      best_greatest : IsGreatestMask k Q (Contains masks) (at one.best)
      best_greatest =
          let few = one.swept.few in record {
            is_face = at_face one.best (omega (arith, few, in_range));
            greatest = λ n f t.
                let p = place_of n f.is_accepted in
                let same : SameCone k Q (at p.p) (at c) = same_trans k Q (at p.p) (at one.best) (at c) (subst (λ (j : ℕ). SameCone k Q j (at one.best)) (sym p.is) t) best_same in
                subst (λ (j : ℕ). j ≤ at one.best) p.is (elim (order p.p c) [
                  | inl l ↦ at_order one.best p.p (one.swept.first p.p l same) p.in_range
                  | inr l ↦ elim (order c p.p) [
                    | inl after ↦ absurd (later p.p after p.in_range same)
                    | inr o ↦ at_order one.best p.p (omega (arith, few, l)) p.in_range
                  ]
                ]);
          }

      orbit_cone : IsOrbitCone k Q (Contains masks) e
      orbit_cone = record {
        greatest = subst (IsGreatestMask k Q (Contains masks)) (sym one.greatest) best_greatest;
        least = subst (IsLeastMask k Q (Contains masks)) (sym one.least) least_here;
        same = subst (λ (j : ℕ). SameCone k Q e.greatest j) (sym one.least) greatest_same;
        canon = one.canon;
      }

      grown : (m : ℕ) → HasCone k Q list m → HasCone k Q (list ++ e ∷ []) m
      grown m h = record { cone = h.cone; member = Contains-append_left list (e ∷ []) h.cone h.member; same = h.same }

      added : (m : ℕ) → SameCone k Q m (at c) → HasCone k Q (list ++ e ∷ []) m
      added m t = record { cone = e; member = Contains-push list e; same = same_trans k Q m (at c) e.greatest t (same_sym k Q e.greatest (at c) greatest_same) }

      differs : (x : ℕ) → Member x (greatest_of list) → x ≡ e.greatest → ⊥
      differs x n q =
          let f = from_greatest list x n in
          fresh (record { cone = f.cone; member = contained list f.member; same = subst (λ (j : ℕ). SameCone k Q (at c) j) (sym (f.is ∙ q)) (same_sym k Q e.greatest (at c) greatest_same) })

      pub sieve_new : Sieved k Q masks c new (list ++ e ∷ [])
      sieve_new = record {
        long = one.swept.long ∙ s.long;
        each = λ f n. elim (Contains-push_cases list e f n) [ inl o ↦ s.each f o | inr o ↦ subst (IsOrbitCone k Q (Contains masks)) o orbit_cone ];
        narrow = λ f n. elim (Contains-push_cases list e f n) [ inl o ↦ s.narrow f o | inr o ↦ subst (λ (g : OrbitCone). NeverWide k (face Q g.least)) o one.narrow ];
        marks = λ p l. (
          λ t. elim ((one.swept.marks p l).0 t) [ inl o ↦ grown (at p) ((s.marks p (omega (arith, l))).0 o) | inr o ↦ added (at p) o ],
          λ h. (one.swept.marks p l).1 (elim (Contains-push_cases list e h.cone h.member) [
            | inl o ↦ inl ((s.marks p (omega (arith, l))).1 (record { cone = h.cone; member = o; same = h.same }))
            | inr o ↦ inr (same_trans k Q (at p) e.greatest (at c) (subst (λ (g : OrbitCone). SameCone k Q (at p) g.greatest) (sym o) h.same) greatest_same)
          ]),
        );
        all = λ p l i. elim (order c p) [
          | inl q ↦ grown (at p) (s.all p (omega (arith, q)) i)
          | inr q ↦ (let is : c ≡ p = omega (arith, l, q) in subst (λ (j : ℕ). HasCone k Q (list ++ e ∷ []) (at j)) is (added (at c) (same_self k Q (at c))))
        ];
        differ = subst Differ (sym (map-append (λ (f : OrbitCone). f.greatest) list (e ∷ []))) (differ_push (greatest_of list) e.greatest s.differ differs);
      }

  -- ---- the end
  module _ (seen : List Bool) (list out : List OrbitCone) (s : Sieved k Q masks 0 seen list) (same : IsPermutation list out) (falling : AllPairs (λ (c d : OrbitCone). d.greatest ≤ c.greatest) out) where
    back : (e : OrbitCone) → Contains out e → Contains list e
    back e n = Contains-permutation out list e (IsPermutation-sym list out same) n

    forth : (e : OrbitCone) → Contains list e → Contains out e
    forth e n = Contains-permutation list out e same n

    distinct : IsDistinct eqb (greatest_of out)
    distinct = IsDistinct-IsPermutation eqb eqb_flips (greatest_of list) (greatest_of out) (IsPermutation-map (λ (e : OrbitCone). e.greatest) list out same) (distinct_of (greatest_of list) s.differ)

    greatest_at : (es : List OrbitCone) (i : ℕ) (d : OrbitCone) (n : ℕ) → i < length es → get_or (greatest_of es) i n ≡ (get_or es i d).greatest
    greatest_at [] i d n h = absurd (omega arith)
    greatest_at (e ∷ es) zero d n h = refl
    greatest_at (e ∷ es) (suc i) d n h = greatest_at es i d n (omega arith)

    greatest_long : (es : List OrbitCone) → length (greatest_of es) ≡ length es
    greatest_long [] = refl
    greatest_long (e ∷ es) = ap suc (greatest_long es)

    first_cone : (es : List OrbitCone) (i : ℕ) → i < length es → OrbitCone
    first_cone [] i h = absurd (omega arith)
    first_cone (e ∷ es) i h = e

    descending : AllPairs (λ (m n : ℕ). n < m) (greatest_of out)
    descending i j n l h =
        let long = greatest_long out in
        let hj : j < length out = omega (arith, h, long) in
        let d = first_cone out j hj in
        let fall = falling i j d l hj in
        let a = greatest_at out i d n (omega (arith, l, hj)) in
        let b = greatest_at out j d n hj in
        let apart = apart_from_distinct eqb (greatest_of out) i j n distinct l h in
        strict (get_or (greatest_of out) i n) (get_or (greatest_of out) j n) apart (omega (arith, fall, a, b))
      where
        strict : (x y : ℕ) → eqb x y ≡ false → y ≤ x → y < x
        strict x y f l = elim (order y x) [
          | inl o ↦ o
          | inr o ↦ absurd (let e : x ≡ y = omega (arith, l, o) in let t = eq-eqb x y e in cc (t, f))
        ]

    pub sieve_end : AreOrbitCones k Q (Contains masks) out
    sieve_end = record {
      each = λ e n. s.each e (back e n);
      narrow = λ e n. s.narrow e (back e n);
      cones = record {
        descending = descending;
        each = λ m. (
          λ c. let f = from_greatest out m (contains_member m (greatest_of out) c) in subst (IsGreatestMask k Q (Contains masks)) f.is (s.each f.cone (back f.cone (contained out f.member))).greatest,
          λ g.
              let p = place_of m g.is_face.is_accepted in
              let a = s.all p.p (omega arith) p.in_range in
              let o = s.each a.cone a.member in
              let t : SameCone k Q m a.cone.greatest = subst (λ (j : ℕ). SameCone k Q j a.cone.greatest) p.is a.same in
              let one : m ≤ a.cone.greatest = o.greatest.greatest m g.is_face t in
              let two : a.cone.greatest ≤ m = g.greatest a.cone.greatest o.greatest.is_face (same_sym k Q m a.cone.greatest t) in
              let is : a.cone.greatest ≡ m = omega (arith, one, two) in
              member_contains m (greatest_of out) (subst (λ (j : ℕ). Member j (greatest_of out)) is (to_greatest out a.cone (as_member out (forth a.cone a.member)))),
        );
      };
    }
