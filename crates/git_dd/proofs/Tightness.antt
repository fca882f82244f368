-- Tight inequalities, one more.
use Rattle.std.proofs.Common.{◌≡◌, ◌⊎◌, ℕ, zero, suc, ◌+◌, ◌<◌, ◌≤◌, List, [], ◌∷◌, ◌++◌, length, take, get_or, refl, sym, ◌∙◌, ap, subst, arith, inl, inr, length-take, length-append}
use Rattle.std.proofs.Math.IntN.{pos}
use Rattle.std.proofs.Math.ListN.{get_or-append}
use Rattle.std.proofs.Math.Seq.{get_or-append_seam}
use Rattle.std.proofs.lemmas.List.{get_or-take}
use Rattle.std.proofs.lemmas.List.Quantifiers.{all_pairs_push}
use Rattle.std.proofs.lemmas.List.Elements.{Contains-push, Contains-push_cases, Contains-append_left, Contains-get_or}
use Rattle.std.specs.Prelude.{Contains}
use Rattle.git_defs.specs.Vectors.{Vector, dot}
use Rattle.git_stages.proofs.Fronts.{any_default}
use Rattle.git_dd.specs.Tights.{AreTight, AreAllTight}

front_size : (P : List Vector) (n : ℕ) → n ≤ length P → length (take n P) ≡ n
front_size P n h = let e = length-take n P in omega (arith, e, h)

step : (j i : ℕ) → j < i + 1 → (j < i) ⊎ (j ≡ i)
step zero zero h = inr refl
step zero (suc i) h = inl (omega arith)
step (suc j) zero h = absurd (omega (arith, h))
step (suc j) (suc i) h = elim (step j i (omega (arith, h))) [ inl l ↦ inl (omega (arith, l)) | inr e ↦ inr (ap suc e) ]

at_front : (P : List Vector) (x : Vector) (i j : ℕ) → j < i → i < length P → dot (get_or (take (i + 1) P) j []) x ≡ dot (get_or (take i P) j []) x
at_front P x i j h l = ap (λ (u : Vector). dot u x) (get_or-take (i + 1) P j [] (omega (arith, h)) ∙ sym (get_or-take i P j [] h))

at_last : (P : List Vector) (x : Vector) (i j : ℕ) (d : Vector) → j ≡ i → i < length P → dot (get_or (take (i + 1) P) j []) x ≡ dot (get_or P i d) x
at_last P x i j d e l = ap (λ (u : Vector). dot u x) (ap (λ (n : ℕ). get_or (take (i + 1) P) n []) e ∙ get_or-take (i + 1) P i [] (omega arith) ∙ any_default P i [] d l)

pub tight_more : (P : List Vector) (x : Vector) (places : List ℕ) (i : ℕ) (d : Vector) → i < length P → AreTight (take i P) x places → dot (get_or P i d) x ≡ pos 0 → AreTight (take (i + 1) P) x (places ++ i ∷ [])
tight_more P x places i d h t z = record {
  ascending = all_pairs_push (λ (m n : ℕ). m < n) places i t.ascending
      (λ q e l. let c = ((t.each (get_or places q e)).0 (Contains-get_or places q e l)).0 in let s = front_size P i (omega arith) in omega (arith, c, s));
  each = λ j. (
    λ c. elim (Contains-push_cases places i j c) [
      | inl o ↦ (let f = (t.each j).0 o in let s = front_size P i (omega arith) in let s2 = front_size P (i + 1) (omega arith) in let l = f.0 in
          ((omega (arith, l, s, s2)), at_front P x i j (omega (arith, l, s)) h ∙ f.1))
      | inr e ↦ ((let s2 = front_size P (i + 1) (omega arith) in omega (arith, s2, e)), at_last P x i j d (sym e) h ∙ z)
    ],
    λ f. let s2 = front_size P (i + 1) (omega arith) in let l = f.0 in elim (step j i (omega (arith, l, s2))) [
      | inl o ↦ Contains-append_left places (i ∷ []) j ((t.each j).1 ((let s = front_size P i (omega arith) in omega (arith, s, o)), sym (at_front P x i j o h) ∙ f.1))
      | inr e ↦ subst (Contains (places ++ i ∷ [])) (sym e) (Contains-push places i)
    ],
  );
}

pub tight_skip : (P : List Vector) (x : Vector) (places : List ℕ) (i : ℕ) (d : Vector) → i < length P → AreTight (take i P) x places → (dot (get_or P i d) x ≡ pos 0 → ⊥) → AreTight (take (i + 1) P) x places
tight_skip P x places i d h t some = record {
  ascending = t.ascending;
  each = λ j. (
    λ c. (let f = (t.each j).0 c in let s = front_size P i (omega arith) in let s2 = front_size P (i + 1) (omega arith) in let l = f.0 in
        ((omega (arith, l, s, s2)), at_front P x i j (omega (arith, l, s)) h ∙ f.1)),
    λ f. let s2 = front_size P (i + 1) (omega arith) in let l = f.0 in elim (step j i (omega (arith, l, s2))) [
      | inl o ↦ (t.each j).1 ((let s = front_size P i (omega arith) in omega (arith, s, o)), sym (at_front P x i j o h) ∙ f.1)
      | inr e ↦ absurd (some (sym (at_last P x i j d e h) ∙ f.1))
    ],
  );
}

pub all_tight_more : (P L : List Vector) (tight : List (List ℕ)) (places : List ℕ) (i : ℕ) (d : Vector) → i < length L → AreAllTight P (take i L) tight → AreTight P (get_or L i d) places → AreAllTight P (take (i + 1) L) (tight ++ places ∷ [])
all_tight_more P L tight places i d h t here =
    let s = front_size L i (omega arith) in let s2 = front_size L (i + 1) (omega arith) in
    let n = length-append tight (places ∷ []) in let o = t.one_each in
    let long : length tight ≡ i = omega (arith, o, s) in
    record {
      one_each = omega (arith, n, o, s, s2);
      exact = λ j l. elim (step j i (omega (arith, l, s2))) [
        | inl b ↦ subst (λ (u : Vector). AreTight P u (get_or (tight ++ places ∷ []) j [])) (get_or-take i L j [] b ∙ sym (get_or-take (i + 1) L j [] (omega (arith, b))))
            (subst (AreTight P (get_or (take i L) j [])) (sym (get_or-append tight (places ∷ []) [] j (omega (arith, b, long)))) (t.exact j (omega (arith, b, s))))
        | inr e ↦ subst (λ (m : ℕ). AreTight P (get_or (take (i + 1) L) m []) (get_or (tight ++ places ∷ []) m [])) (sym e)
            (subst (λ (u : Vector). AreTight P u (get_or (tight ++ places ∷ []) i [])) (any_default L i d [] h ∙ sym (get_or-take (i + 1) L i [] (omega arith)))
            (subst (AreTight P (get_or L i d)) (sym (ap (λ (m : ℕ). get_or (tight ++ places ∷ []) m []) (sym long) ∙ get_or-append_seam tight places [] [])) here))
      ];
    }
