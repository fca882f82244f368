-- What marks say of vectors.
use Rattle.std.proofs.Common.{◌≡◌, ◌⊎◌, ℕ, zero, suc, ◌+◌, ◌<◌, List, [], ◌∷◌, ◌++◌, length, take, get_or, refl, sym, ◌∙◌, ap, subst, arith, inl, inr, length-append, length-take}
use Rattle.std.proofs.Math.IntN.{pos, ◌*ℤ◌}
use Rattle.std.proofs.Math.ListN.{get_or-append}
use Rattle.std.proofs.Math.Seq.{get_or-append_seam}
use Rattle.std.proofs.lemmas.List.{take_more}
use Rattle.std.specs.Prelude.{◌↔◌, ◌<ℤ◌}
use Rattle.std.proofs.lemmas.Int.{ints}
use Rattle.git_defs.specs.Vectors.{Vector, dot}
use Rattle.git_defs.specs.Cones.{Cut}
use Rattle.git_lemmas.proofs.Integers.{zero_of_mul}
use Rattle.git_defs.proofs.Linear.{dot-scale}
use Rattle.git_geometry.proofs.Blends.{blend_level, blend_flat, flat_blend}
use Rattle.git_geometry.proofs.Identities.{product_zero}
use Rattle.git_geometry.specs.Stages.{blend}
use Rattle.git_geometry.specs.Zeros.{Flat, ZeroOnBoth}
use Rattle.git_ints.specs.Content.{IsPrimitivePart}
use Rattle.git_stages.proofs.Fronts.{member_at}
use Rattle.git_adjacency.specs.Marks.{HasMark, IsMarked}
use Rattle.std.proofs.lemmas.List.Elements.{Contains-get_or}

-- ---- one inequality more
end_or_before : (A : List Vector) (b : Vector) (j : ℕ) → j < length (A ++ b ∷ []) → (j < length A) ⊎ (j ≡ length A)
end_or_before A b j h = split j (length A) (let e = length-append A (b ∷ []) in omega (arith, e, h)) where
  split : (i n : ℕ) → i < n + 1 → (i < n) ⊎ (i ≡ n)
  split zero zero h = inr refl
  split zero (suc n) h = inl (omega arith)
  split (suc i) zero h = absurd (omega (arith, h))
  split (suc i) (suc n) h = elim (split i n (omega (arith, h))) [ inl l ↦ inl (omega (arith, l)) | inr e ↦ inr (ap suc e) ]

at_end : (A : List Vector) (b x : Vector) (j : ℕ) → j ≡ length A → dot (get_or (A ++ b ∷ []) j []) x ≡ dot b x
at_end A b x j e = ap (λ (n : ℕ). dot (get_or (A ++ b ∷ []) n []) x) e ∙ ap (λ (u : Vector). dot u x) (get_or-append_seam A b [] [])

before_end : (A : List Vector) (b x : Vector) (j : ℕ) → j < length A → dot (get_or (A ++ b ∷ []) j []) x ≡ dot (get_or A j []) x
before_end A b x j h = ap (λ (u : Vector). dot u x) (get_or-append A (b ∷ []) [] j h)

longer : (A : List Vector) (b : Vector) → length (A ++ b ∷ []) ≡ length A + 1
longer A b = length-append A (b ∷ [])

-- 0 there: its mark is set
pub marked_level : (A : List Vector) (b x : Vector) (width : ℕ) (words more : List ℕ) → IsMarked A width x words → dot b x ≡ pos 0 → length more ≡ length words
    → ((j : ℕ) → HasMark more j ↔ (HasMark words j ⊎ (j ≡ length A))) → IsMarked (A ++ b ∷ []) width x more
marked_level A b x width words more m z long each = record {
  long = long ∙ m.long;
  each = λ j. (
    λ h. elim ((each j).0 h) [
      | inl g ↦ (let f = (m.each j).0 g in (let l = f.0 in let e = longer A b in omega (arith, l, e), before_end A b x j f.0 ∙ f.1))
      | inr e ↦ ((let l = longer A b in omega (arith, e, l)), at_end A b x j e ∙ z)
    ],
    λ h. elim (end_or_before A b j h.0) [
      | inl l ↦ (each j).1 (inl ((m.each j).1 (l, sym (before_end A b x j l) ∙ h.1)))
      | inr e ↦ (each j).1 (inr e)
    ],
  );
}

-- not 0 there: the marks stay
pub marked_off : (A : List Vector) (b x : Vector) (width : ℕ) (words : List ℕ) → IsMarked A width x words → (dot b x ≡ pos 0 → ⊥) → IsMarked (A ++ b ∷ []) width x words
marked_off A b x width words m some = record {
  long = m.long;
  each = λ j. (
    λ h. let f = (m.each j).0 h in ((let l = f.0 in let e = longer A b in omega (arith, l, e)), before_end A b x j f.0 ∙ f.1),
    λ h. elim (end_or_before A b j h.0) [
      | inl l ↦ (m.each j).1 (l, sym (before_end A b x j l) ∙ h.1)
      | inr e ↦ absurd (some (sym (at_end A b x j e) ∙ h.1))
    ],
  );
}

pub marked_none : (width : ℕ) (x : Vector) (words : List ℕ) → length words ≡ width → ((j : ℕ) → HasMark words j → ⊥) → IsMarked [] width x words
marked_none width x words long none = record { long = long; each = λ j. (λ h. absurd (none j h), λ h. absurd (omega (arith, h.0))) }

-- ---- the test of three vectors
place : (us : List Vector) (i : ℕ) (d : Vector) → i < length us → get_or us i d ≡ d → get_or us i [] ≡ d
place [] i d h e = absurd (omega arith)
place (u ∷ us) zero d h e = e
place (u ∷ us) (suc i) d h e = place us i d (omega arith) e

module _ (A : List Vector) (width : ℕ) (r s t : Vector) (wr ws wt : List ℕ) (mr : IsMarked A width r wr) (ms : IsMarked A width s ws) (mt : IsMarked A width t wt) where
  pub marks_flat : ((j : ℕ) → HasMark wr j → HasMark ws j → HasMark wt j) → Flat (ZeroOnBoth r s) A t
  marks_flat all a c z =
      let at : get_or A c.0 [] ≡ a = place A c.0 a c.1 c.2 in
      ap (λ (u : Vector). dot u t) (sym at)
      ∙ ((mt.each c.0).0 (all c.0 ((mr.each c.0).1 (c.1, ap (λ (u : Vector). dot u r) at ∙ z.0)) ((ms.each c.0).1 (c.1, ap (λ (u : Vector). dot u s) at ∙ z.1)))).1

  pub flat_marks : Flat (ZeroOnBoth r s) A t → (j : ℕ) → HasMark wr j → HasMark ws j → HasMark wt j
  flat_marks flat j hr hs =
      let f = (mr.each j).0 hr in let g = (ms.each j).0 hs in
      (mt.each j).1 (f.0, flat (get_or A j []) (Contains-get_or A j [] f.0) (f.1, g.1))

-- ---- the blend of two vectors
module _ (k : ℕ) (A : List Vector) (b r s w : Vector) (width : ℕ) (wr ws ww : List ℕ) (cr : Cut k A r) (cs : Cut k A s) (up : pos 0 <ℤ dot b r) (low : dot b s <ℤ pos 0)
    (part : IsPrimitivePart (blend b r s) w) (mr : IsMarked A width r wr) (ms : IsMarked A width s ws) where
  whole : (a : Vector) → dot a (blend b r s) ≡ pos part.divisor *ℤ dot a w
  whole a = ap (dot a) part.is ∙ dot-scale a (pos part.divisor) w

  zero_part : (a : Vector) → dot a (blend b r s) ≡ pos 0 → dot a w ≡ pos 0
  zero_part a z = let p = part.positive in zero_of_mul (pos part.divisor) (dot a w) (omega (arith, ints, p)) (sym (whole a) ∙ z)

  zero_whole : (a : Vector) → dot a w ≡ pos 0 → dot a (blend b r s) ≡ pos 0
  zero_whole a z = whole a ∙ product_zero (pos part.divisor) (dot a w) z

  pub marked_blend : length ww ≡ length wr → ((j : ℕ) → HasMark ww j ↔ ((HasMark wr j × HasMark ws j) ⊎ (j ≡ length A))) → IsMarked (A ++ b ∷ []) width w ww
  marked_blend long each = record {
    long = long ∙ mr.long;
    each = λ j. (
      λ h. elim ((each j).0 h) [
        | inl g ↦ (
            let f = (mr.each j).0 g.0 in let q = (ms.each j).0 g.1 in (
              (let l = f.0 in let e = longer A b in omega (arith, l, e)),
              before_end A b w j f.0 ∙ zero_part (get_or A j []) (blend_flat k A b r s cr cs up low (get_or A j []) (f.1, q.1)),
            ))
        | inr e ↦ ((let l = longer A b in omega (arith, e, l)), at_end A b w j e ∙ zero_part b (blend_level k A b r s cr cs up low))
      ],
      λ h. elim (end_or_before A b j h.0) [
        | inl l ↦ (
            let z = flat_blend k A b r s cr cs up low (get_or A j []) (member_at A j [] l) (zero_whole (get_or A j []) (sym (before_end A b w j l) ∙ h.1)) in
            (each j).1 (inl ((mr.each j).1 (l, z.0), (ms.each j).1 (l, z.1))))
        | inr e ↦ (each j).1 (inr e)
      ],
    );
  }

-- ---- one inequality of a list more
front_length : (A : List Vector) (j : ℕ) → j < length A → length (take j A) ≡ j
front_length A j h = let e = length-take j A in omega (arith, e, h)

pub more_level : (A : List Vector) (x : Vector) (width : ℕ) (words more : List ℕ) (j : ℕ) (d : Vector) → j < length A → IsMarked (take j A) width x words → dot (get_or A j d) x ≡ pos 0
    → length more ≡ length words → ((i : ℕ) → HasMark more i ↔ (HasMark words i ⊎ (i ≡ j))) → IsMarked (take (j + 1) A) width x more
more_level A x width words more j d h m z long each = subst (λ (u : List Vector). IsMarked u width x more) (sym (take_more A j d h))
    (marked_level (take j A) (get_or A j d) x width words more m z long
    (subst (λ (n : ℕ). (i : ℕ) → HasMark more i ↔ (HasMark words i ⊎ (i ≡ n))) (sym (front_length A j h)) each))

pub more_off : (A : List Vector) (x : Vector) (width : ℕ) (words : List ℕ) (j : ℕ) (d : Vector) → j < length A → IsMarked (take j A) width x words → (dot (get_or A j d) x ≡ pos 0 → ⊥)
    → IsMarked (take (j + 1) A) width x words
more_off A x width words j d h m some = subst (λ (u : List Vector). IsMarked u width x words) (sym (take_more A j d h)) (marked_off (take j A) (get_or A j d) x width words m some)

-- an inequality that isn't 0 there may go
pub unmarked : (A : List Vector) (b x : Vector) (width : ℕ) (words : List ℕ) → (dot b x ≡ pos 0 → ⊥) → IsMarked (A ++ b ∷ []) width x words → IsMarked A width x words
unmarked A b x width words some m = record {
  long = m.long;
  each = λ j. (
    λ h. let f = (m.each j).0 h in elim (end_or_before A b j f.0) [
      | inl l ↦ (l, sym (before_end A b x j l) ∙ f.1)
      | inr e ↦ absurd (some (sym (at_end A b x j e) ∙ f.1))
    ],
    λ h. (m.each j).1 ((let l = h.0 in let e = longer A b in omega (arith, l, e)), before_end A b x j h.0 ∙ h.1),
  );
}
