-- Some cones have one verdict, or one first wide pair.
use Rattle.std.proofs.Common.{◌≡◌, ◌∙◌, ◌+◌, ◌<◌, ◌∷◌, [], List, ap, arith, get_or, inl, inr, length, refl, subst, suc, sym, zero, ℕ}
use Rattle.std.proofs.lemmas.Bool.{cases_lt}
use Rattle.git_lemmas.specs.Members.{Member}
use Rattle.git_lemmas.proofs.Members.{contained}
use Rattle.git_stages.specs.declared.wide.WideAt.{WideAt}
use Rattle.git_stages.proofs.Uniqueness.{wide_not_never, wide_once}
use Rattle.git_cone_faces.specs.Families.{Cone}
use Rattle.git_allcones.specs.Cones.{cone_at}
use Rattle.git_allcones.specs.Verdicts.{IsFirstPair, IsVerdict, PairFails, PairIsFine, PairIsWide}
use Rattle.git_allcones.specs.declared.verdict.FanVerdict.{FanVerdict}
use Rattle.git_allcones.specs.declared.verdict.FanVerdict.TheVariants.{Yes, No}
use Rattle.git_cone_text.specs.Laws.{IsFirstWidePair}

-- what no fine pair has
abbrev IsBad : ℕ → (Cone → Cone → Type 0) → Type 0
IsBad k P = (C D : Cone) → P C D → PairIsFine k C D → ⊥

wide_is_bad : (k : ℕ) (at : WideAt) → IsBad k (λ C D. PairIsWide k C D at)
wide_is_bad k at C D w fine = wide_not_never k _ at.stage at.what w fine.narrow

failing_is_bad : (k : ℕ) → IsBad k (PairFails k)
failing_is_bad k C D f fine = f.apart fine.meets

module _ (k : ℕ) (cones : List Cone) where
  -- two first pairs stand at the same places
  pub same_places : (first second other_first other_second : ℕ) (P Q : Cone → Cone → Type 0) → IsBad k P → IsBad k Q
      → (a : IsFirstPair k cones first second P) → (b : IsFirstPair k cones other_first other_second Q) → (a.one ≡ b.one) × (a.other ≡ b.other)
  same_places first second other_first other_second P Q bad_p bad_q a b = elim (cases_lt a.one b.one) [
    | inl less ↦ absurd (bad_p _ _ a.holds (b.before a.one a.other a.ordered a.listed (inl less)))
    | inr more ↦ elim (cases_lt b.one a.one) [
      | inl less ↦ absurd (bad_q _ _ b.holds (a.before b.one b.other b.ordered b.listed (inl less)))
      | inr same ↦
          let e : a.one ≡ b.one = omega (arith, more, same) in (
            e,
            elim (cases_lt a.other b.other) [
              | inl less ↦ absurd (bad_p _ _ a.holds (b.before a.one a.other a.ordered a.listed (inr (e, less))))
              | inr above ↦ elim (cases_lt b.other a.other) [
                | inl less ↦ absurd (bad_q _ _ b.holds (a.before b.one b.other b.ordered b.listed (inr (sym e, less))))
                | inr below ↦ omega (arith, above, below)
              ]
            ],
          )
    ]
  ]

  same_numbers : (first second other_first other_second : ℕ) (P Q : Cone → Cone → Type 0) → IsBad k P → IsBad k Q
      → IsFirstPair k cones first second P → IsFirstPair k cones other_first other_second Q → (first ≡ other_first) × (second ≡ other_second)
  same_numbers first second other_first other_second P Q bad_p bad_q a b =
      let places = same_places first second other_first other_second P Q bad_p bad_q a b in
      (a.one_is ∙ ap (λ (n : ℕ). n + 1) places.0 ∙ sym b.one_is, a.other_is ∙ ap (λ (n : ℕ). n + 1) places.1 ∙ sym b.other_is)

  pub wide_pair_once : (first second other_first other_second : ℕ) (at other_at : WideAt) → IsFirstWidePair k cones first second at
      → IsFirstWidePair k cones other_first other_second other_at → (first ≡ other_first) × (second ≡ other_second) × (at ≡ other_at)
  wide_pair_once first second other_first other_second at other_at a b =
      let P = λ (C D : Cone). PairIsWide k C D at in let Q = λ (C D : Cone). PairIsWide k C D other_at in
      let places = same_places first second other_first other_second P Q (wide_is_bad k at) (wide_is_bad k other_at) a b in
      let numbers = same_numbers first second other_first other_second P Q (wide_is_bad k at) (wide_is_bad k other_at) a b in
      let there : Q (cone_at cones a.one) (cone_at cones a.other) =
      subst (λ (n : ℕ). Q (cone_at cones a.one) (cone_at cones n)) (sym places.1) (subst (λ (n : ℕ). Q (cone_at cones n) (cone_at cones b.other)) (sym places.0) b.holds) in
      let once = wide_once k _ at.stage other_at.stage at.what other_at.what a.holds there in
      (numbers.0, numbers.1, λ i. record { stage = once.0 i; what = once.1 i })

  at_place : (cones : List Cone) (i : ℕ) (d : Cone) → i < length cones → Member (get_or cones i d) cones
  at_place [] i d h = absurd (omega arith)
  at_place (c ∷ cones) zero d h = inl refl
  at_place (c ∷ cones) (suc i) d h = inr (at_place cones i d (omega arith))

  -- a fan has no pair that fails
  none_fails : (first second : ℕ) → IsVerdict k cones Yes → IsFirstPair k cones first second (PairFails k) → ⊥
  none_fails first second fan a =
      let long : a.one < length cones = let o = a.ordered in let l = a.listed in omega (arith, o, l) in
      a.holds.apart (fan.0 (cone_at cones a.one) (cone_at cones a.other) (contained cones (at_place cones a.one _ long)) (contained cones (at_place cones a.other _ a.listed)))

  pub verdict_once : (v w : FanVerdict) → IsVerdict k cones v → IsVerdict k cones w → v ≡ w
  verdict_once Yes Yes a b = refl
  verdict_once Yes (No first second) a b = absurd (none_fails first second a b)
  verdict_once (No first second) Yes a b = absurd (none_fails first second b a)
  verdict_once (No first second) (No other_first other_second) a b =
      let n = same_numbers first second other_first other_second (PairFails k) (PairFails k) (failing_is_bad k) (failing_is_bad k) a b in
      λ i. No (n.0 i) (n.1 i)

  pub not_both : (v : FanVerdict) (first second : ℕ) (at : WideAt) → IsVerdict k cones v → IsFirstWidePair k cones first second at → ⊥
  not_both Yes first second at fan w = wide_not_never k _ at.stage at.what w.holds (fan.1 w.one w.other w.ordered w.listed)
  not_both (No other_first other_second) first second at fails w =
      let P = λ (C D : Cone). PairIsWide k C D at in
      let places = same_places first second other_first other_second P (PairFails k) (wide_is_bad k at) (failing_is_bad k) w fails in
      let there : PairFails k (cone_at cones w.one) (cone_at cones w.other) =
      subst (λ (n : ℕ). PairFails k (cone_at cones w.one) (cone_at cones n)) (sym places.1) (subst (λ (n : ℕ). PairFails k (cone_at cones n) (cone_at cones fails.other)) (sym places.0) fails.holds) in
      wide_not_never k _ at.stage at.what w.holds there.narrow
