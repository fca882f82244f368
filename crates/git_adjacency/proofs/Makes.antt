-- Blends as they are made, one more.
use Rattle.std.proofs.Common.{◌≡◌, ◌⊎◌, ℕ, ◌+◌, ◌<◌, List, [], ◌∷◌, ◌++◌, length, take, get_or, sym, ◌∙◌, ap, subst, inl, inr, append_assoc}
use Rattle.std.proofs.Math.IntN.{pos}
use Rattle.std.specs.Prelude.{◌<ℤ◌, Contains}
use Rattle.git_defs.specs.Vectors.{Vector, dot}
use Rattle.git_geometry.specs.Zeros.{Flat, Adjacent, ZeroOnBoth}
use Rattle.git_geometry.specs.Stages.{blend}
use Rattle.git_ints.specs.Content.{IsPrimitivePart}
use Rattle.git_stages.proofs.Fronts.{contains_more}
use Rattle.git_adjacency.specs.Making.{IsMade, Makes, MakesAll}
use Rattle.std.proofs.lemmas.List.Elements.{Contains-append_left, Contains-append_right, Contains-append_cases, Contains-push, Contains-push_cases}
use Rattle.git_lemmas.proofs.Members.{as_member}

pub adjacent_more : (A R : List Vector) (r s : Vector) (i : ℕ) (d : Vector) → i < length R → Adjacent A (take i R) r s
    → (Flat (ZeroOnBoth r s) A (get_or R i d) → (r ≡ get_or R i d) ⊎ (s ≡ get_or R i d)) → Adjacent A (take (i + 1) R) r s
adjacent_more A R r s i d h before here = record {
  only = λ t m f. elim (contains_more R i d t h m) [
    | inl l ↦ before.only t l f
    | inr e ↦ elim (here (subst (Flat (ZeroOnBoth r s) A) (sym e) f)) [ inl g ↦ inl (g ∙ e) | inr g ↦ inr (g ∙ e) ]
  ];
}

pub makes_none : (A R : List Vector) (b r : Vector) (old new : List Vector) → new ≡ old ++ [] → Makes A R b r [] old new
makes_none A R b r old new e = record { more = []; is = e; from = λ x m. absurd (as_member [] m); each = λ s m a. absurd (as_member [] m) }

pub makes_more : (A R S : List Vector) (b r x : Vector) (old new : List Vector) (i : ℕ) (d : Vector) → i < length S → Contains R r → Contains R (get_or S i d) → pos 0 <ℤ dot b r → Makes A R b r (take i S) old new
    → dot b (get_or S i d) <ℤ pos 0 → Adjacent A R r (get_or S i d) → IsPrimitivePart (blend b r (get_or S i d)) x → Makes A R b r (take (i + 1) S) old (new ++ x ∷ [])
makes_more A R S b r x old new i d h r_in s_in above before below adjacent part = record {
  more = before.more ++ x ∷ [];
  is = ap (λ (u : List Vector). u ++ x ∷ []) before.is ∙ append_assoc old before.more (x ∷ []);
  from = λ y m. elim (Contains-push_cases before.more x y m) [
    | inl l ↦ before.from y l
    | inr e ↦ subst (IsMade A R b) e (record {
      over = r;
      under = get_or S i d;
      over_in = r_in;
      under_in = s_in;
      above = above;
      below = below;
      adjacent = adjacent;
      part = part;
    })
  ];
  each = λ s m a. elim (contains_more S i d s h m) [
    | inl l ↦ (let g = before.each s l a in record { one = g.one; member = Contains-append_left before.more (x ∷ []) g.one g.member; part = g.part })
    | inr e ↦ record { one = x; member = Contains-push before.more x; part = subst (λ (u : Vector). IsPrimitivePart (blend b r u) x) e part }
  ];
}

pub makes_skip : (A R S : List Vector) (b r : Vector) (old new : List Vector) (i : ℕ) (d : Vector) → i < length S → Makes A R b r (take i S) old new
    → (Adjacent A R r (get_or S i d) → ⊥) → Makes A R b r (take (i + 1) S) old new
makes_skip A R S b r old new i d h before none = record {
  more = before.more;
  is = before.is;
  from = before.from;
  each = λ s m a. elim (contains_more S i d s h m) [
    | inl l ↦ before.each s l a
    | inr e ↦ absurd (none (subst (Adjacent A R r) (sym e) a))
  ];
}

pub makes_all_none : (A R S : List Vector) (b : Vector) (old new : List Vector) → new ≡ old ++ [] → MakesAll A R b [] S old new
makes_all_none A R S b old new e = record { more = []; is = e; from = λ x m. absurd (as_member [] m); each = λ r s m n a. absurd (as_member [] m) }

pub makes_all_more : (A R T S : List Vector) (b : Vector) (old new newer : List Vector) (i : ℕ) (d : Vector) → i < length T → MakesAll A R b (take i T) S old new → Makes A R b (get_or T i d) S new newer
    → MakesAll A R b (take (i + 1) T) S old newer
makes_all_more A R T S b old new newer i d h before here = record {
  more = before.more ++ here.more;
  is = here.is ∙ ap (λ (u : List Vector). u ++ here.more) before.is ∙ append_assoc old before.more here.more;
  from = λ x m. elim (Contains-append_cases before.more here.more x m) [ inl l ↦ before.from x l | inr r ↦ here.from x r ];
  each = λ r s m n a. elim (contains_more T i d r h m) [
    | inl l ↦ (let g = before.each r s l n a in record { one = g.one; member = Contains-append_left before.more here.more g.one g.member; part = g.part })
    | inr e ↦ (let g = here.each s n (subst (λ (u : Vector). Adjacent A R u s) (sym e) a) in
        record { one = g.one; member = Contains-append_right before.more here.more g.one g.member; part = subst (λ (u : Vector). IsPrimitivePart (blend b u s) g.one) e g.part })
  ];
}
