-- Where the way from x to w first leaves what normals cut out, and how many normals are still to be crossed.
use Rattle.std.proofs.Common.{◌≡◌, ◌+◌, ◌<◌, ◌≤◌, ◌∙◌, ◌⊎◌, ◌∷◌, [], List, arith, inl, inr, length, refl, subst, suc, sym, zero, ℕ}
use Rattle.std.proofs.Math.IntN.{◌+ℤ◌, ◌*ℤ◌, neg_ℤ, negsuc, pos, ℤ}
use Rattle.std.proofs.lemmas.Int.{ints}
use Rattle.std.specs.Prelude.{◌<ℤ◌, ◌≤ℤ◌}
use Rattle.git_defs.specs.Vectors.{Vector, dot, plus, scale}
use Rattle.git_defs.proofs.Closed.{sign_of}
use Rattle.git_defs.proofs.Linear.{dot-plus, dot-scale, length-scale}
use Rattle.git_lemmas.specs.Members.{Member}
use Rattle.git_lemmas.proofs.Integers.{add_nonneg, mul_nonneg}
use Rattle.git_cover.proofs.Numbers.{cancels, transit}

-- n at the vector of the way at which m is 0
abbrev pub after : Vector → Vector → Vector → Vector → ℤ
after w x m n = (neg_ℤ (dot m w) *ℤ dot n x) +ℤ (dot m x *ℤ dot n w)

abbrev pub step : Vector → Vector → Vector → Vector
step w x m = plus (scale (neg_ℤ (dot m w)) x) (scale (dot m x) w)

pub dot-step : (w x m n : Vector) → length x ≡ length w → dot n (step w x m) ≡ after w x m n
dot-step w x m n e = dot-plus n (scale (neg_ℤ (dot m w)) x) (scale (dot m x) w) (length-scale (neg_ℤ (dot m w)) x ∙ e ∙ sym (length-scale (dot m x) w))
    ∙ (λ i. dot-scale n (neg_ℤ (dot m w)) x i +ℤ dot-scale n (dot m x) w i)

pub record Exit (w x : Vector) (ns : List Vector) : Type 0 where
  pub facet : Vector
  pub member : Member facet ns
  pub below : dot facet w <ℤ pos 0
  pub least : (n : Vector) → Member n ns → pos 0 ≤ℤ after w x facet n

upward : (w x m n : Vector) → dot m w <ℤ pos 0 → pos 0 ≤ℤ dot m x → pos 0 ≤ℤ dot n x → pos 0 ≤ℤ dot n w → pos 0 ≤ℤ after w x m n
upward w x m n low mx nx nw = add_nonneg (neg_ℤ (dot m w) *ℤ dot n x) (dot m x *ℤ dot n w)
    (mul_nonneg (neg_ℤ (dot m w)) (dot n x) (omega (arith, ints)) nx) (mul_nonneg (dot m x) (dot n w) mx nw)

pub itself : (w x m : Vector) → after w x m m ≡ pos 0
itself w x m = cancels (dot m w) (dot m x)

at_itself : (w x m : Vector) → pos 0 ≤ℤ after w x m m
at_itself w x m = let e = itself w x m in omega (arith, ints, e)

either : (P : Vector → Type 0) (v : Vector) (vs : List Vector) → P v → ((n : Vector) → Member n vs → P n) → (n : Vector) → Member n (v ∷ vs) → P n
either P v vs here more n m = elim m [ inl e ↦ subst P e here | inr o ↦ more n o ]

abbrev Found : Vector → Vector → List Vector → Type 0
Found w x ns = ((n : Vector) → Member n ns → pos 0 ≤ℤ dot n w) ⊎ Exit w x ns

kept : (w x v : Vector) (vs : List Vector) (e : Exit w x vs) → pos 0 ≤ℤ after w x e.facet v → Exit w x (v ∷ vs)
kept w x v vs e h = record { facet = e.facet; member = inr e.member; below = e.below; least = either (λ (n : Vector). pos 0 ≤ℤ after w x e.facet n) v vs h e.least }

replaced : (w x v : Vector) (vs : List Vector) → dot v w <ℤ pos 0 → ((n : Vector) → Member n vs → pos 0 ≤ℤ after w x v n) → Exit w x (v ∷ vs)
replaced w x v vs low h = record { facet = v; member = inl refl; below = low; least = either (λ (n : Vector). pos 0 ≤ℤ after w x v n) v vs (at_itself w x v) h }

one_more : (w x v : Vector) (vs : List Vector) → pos 0 ≤ℤ dot v x → ((n : Vector) → Member n vs → pos 0 ≤ℤ dot n x) → Found w x vs → Found w x (v ∷ vs)
one_more w x v vs here more found = elim (sign_of (dot v w)) [
  | inl up ↦ elim found [
    | inl none ↦ inl (either (λ (n : Vector). pos 0 ≤ℤ dot n w) v vs up none)
    | inr e ↦ inr (kept w x v vs e (upward w x e.facet v e.below (more e.facet e.member) here up))
  ]
  | inr low ↦ elim found [
    | inl none ↦ inr (replaced w x v vs low (λ n m. upward w x v n low here (more n m) (none n m)))
    | inr e ↦ elim (sign_of (after w x e.facet v)) [
      | inl later ↦ inr (kept w x v vs e later)
      | inr sooner ↦ inr (replaced w x v vs low (λ n m. elim (sign_of (dot n w)) [
        | inl up ↦ upward w x v n low here (more n m) up
        | inr down ↦ transit (dot e.facet w) (dot e.facet x) (dot v w) (dot v x) (dot n x) (dot n w) e.below low down (e.least n m) sooner
      ]))
    ]
  ]
]

pub first_exit : (w x : Vector) (ns : List Vector) → ((n : Vector) → Member n ns → pos 0 ≤ℤ dot n x) → Found w x ns
first_exit w x [] holds = inl (λ n m. absurd m)
first_exit w x (v ∷ vs) holds = one_more w x v vs (holds v (inl refl)) (λ n m. holds n (inr m)) (first_exit w x vs (λ n m. holds n (inr m)))

-- ---- normals that are positive at x and negative at w
abbrev one : ℤ → ℤ → ℕ
one (pos (suc a)) (negsuc b) = 1
one (pos (suc a)) (pos b) = 0
one (pos zero) v = 0
one (negsuc a) v = 0

abbrev pub ahead : Vector → Vector → List Vector → ℕ
ahead w x [] = 0
ahead w x (n ∷ ns) = one (dot n x) (dot n w) + ahead w x ns

one_le : (u t v : ℤ) → (v <ℤ pos 0 → pos 0 <ℤ t → pos 0 <ℤ u) → one t v ≤ one u v
one_le u (pos zero) v h = omega arith
one_le u (negsuc t) v h = omega arith
one_le u (pos (suc t)) (pos v) h = omega arith
one_le (pos (suc u)) (pos (suc t)) (negsuc v) h = omega arith
one_le (pos zero) (pos (suc t)) (negsuc v) h = absurd (let p = h (omega (arith, ints)) (omega (arith, ints)) in omega (arith, ints, p))
one_le (negsuc u) (pos (suc t)) (negsuc v) h = absurd (let p = h (omega (arith, ints)) (omega (arith, ints)) in omega (arith, ints, p))

one_less : (u t v : ℤ) → v <ℤ pos 0 → pos 0 <ℤ u → t ≡ pos 0 → one t v < one u v
one_less (pos (suc u)) t (negsuc v) p q e = subst (λ (s : ℤ). one s (negsuc v) < 1) (sym e) (omega arith)
one_less (pos (suc u)) t (pos v) p q e = absurd (omega (arith, ints))
one_less (pos zero) t v p q e = absurd (omega (arith, ints))
one_less (negsuc u) t v p q e = absurd (omega (arith, ints))

pub ahead_le : (w x y : Vector) (ns : List Vector) → ((n : Vector) → dot n w <ℤ pos 0 → pos 0 <ℤ dot n y → pos 0 <ℤ dot n x) → ahead w y ns ≤ ahead w x ns
ahead_le w x y [] h = omega arith
ahead_le w x y (n ∷ ns) h = let a = one_le (dot n x) (dot n y) (dot n w) (h n) in let b = ahead_le w x y ns h in omega (arith, a, b)

pub ahead_less : (w x y : Vector) (ns : List Vector) (m : Vector) → Member m ns → ((n : Vector) → dot n w <ℤ pos 0 → pos 0 <ℤ dot n y → pos 0 <ℤ dot n x)
    → dot m w <ℤ pos 0 → pos 0 <ℤ dot m x → dot m y ≡ pos 0 → ahead w y ns < ahead w x ns
ahead_less w x y [] m o h p q e = absurd o
ahead_less w x y (n ∷ ns) m o h p q e = elim o [
  | inl i ↦
      let a = subst (λ (u : Vector). one (dot u y) (dot u w) < one (dot u x) (dot u w)) (sym i) (one_less (dot m x) (dot m y) (dot m w) p q e) in
      let b = ahead_le w x y ns h in omega (arith, a, b)
  | inr i ↦ let a = one_le (dot n x) (dot n y) (dot n w) (h n) in let b = ahead_less w x y ns m i h p q e in omega (arith, a, b)
]
