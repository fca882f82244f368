-- The least vector with a large entry, one vector more.
use Rattle.std.proofs.Common.{◌≡◌, ◌⊎◌, ℕ, ◌+◌, ◌<◌, ◌^◌, List, [], ◌∷◌, ◌++◌, length, take, get_or, refl, sym, ◌∙◌, ap, subst, inl, inr, append_assoc, Option, Some, None, true}
use Rattle.std.proofs.lemmas.List.{take_more}
use Rattle.std.specs.Prelude.{Contains}
use Rattle.std.specs.Ordering.{is_lt}
use Rattle.std.specs.declared.cmp.Ordering.{Ordering}
use Rattle.std.specs.declared.cmp.Ordering.TheVariants.{Equal, Greater, Less}
use Rattle.git_defs.specs.Vectors.{Vector, Precedes}
use Rattle.git_lemmas.proofs.Members.{contains_member, member_contains}
use Rattle.git_geometry.proofs.Lists.{member_left, member_right, member_either}
use Rattle.git_ints.specs.Padded.{AreWithin}
use Rattle.git_stages.proofs.Listed.{irreflexive, vectors_total}
use Rattle.git_stages.specs.Wide.{IsLeastLarge, IsLarge, IsLeastOf}

in_end : (seen : List Vector) (v x : Vector) → Contains (seen ++ v ∷ []) x → Contains seen x ⊎ (v ≡ x)
in_end seen v x c = elim (member_either x seen (v ∷ []) (contains_member x (seen ++ v ∷ []) c)) [
  | inl m ↦ inl (member_contains x seen m)
  | inr m ↦ elim m [ inl e ↦ inr e | inr n ↦ absurd n ]
]

end_in : (seen : List Vector) (v : Vector) → Contains (seen ++ v ∷ []) v
end_in seen v = member_contains v (seen ++ v ∷ []) (member_right v seen (v ∷ []) (inl refl))

front_in : (seen : List Vector) (v x : Vector) → Contains seen x → Contains (seen ++ v ∷ []) x
front_in seen v x c = member_contains x (seen ++ v ∷ []) (member_left x seen (v ∷ []) (contains_member x seen c))

pub least_first : (seen : List Vector) (v : Vector) → IsLeastOf seen None → IsLarge v → IsLeastLarge (seen ++ v ∷ []) v
least_first seen v none large = record {
  member = end_in seen v;
  large = large;
  least = λ u c l h. elim (in_end seen v u c) [ inl d ↦ none u d l | inr e ↦ irreflexive v (subst (λ (x : Vector). Precedes x v) (sym e) h) ];
}

pub least_less : (seen : List Vector) (u v : Vector) → IsLeastLarge seen u → IsLarge v → Precedes v u → IsLeastLarge (seen ++ v ∷ []) v
least_less seen u v least large less = record {
  member = end_in seen v;
  large = large;
  least = λ x c l h. elim (in_end seen v x c) [
    | inl d ↦ least.least x d l (vectors_total.trans x v u h less)
    | inr e ↦ irreflexive v (subst (λ (y : Vector). Precedes y v) (sym e) h)
  ];
}

skip : (seen : List Vector) (v : Vector) (o : Option Vector) → IsLeastOf seen o → AreWithin (2 ^ 40) v → IsLeastOf (seen ++ v ∷ []) o
skip seen v None none small = λ u c l. elim (in_end seen v u c) [ inl d ↦ none u d l | inr e ↦ l (subst (AreWithin (2 ^ 40)) e small) ]
skip seen v (Some u) least small = record {
  member = front_in seen v u least.member;
  large = least.large;
  least = λ x c l h. elim (in_end seen v x c) [
    | inl d ↦ least.least x d l h
    | inr e ↦ l (subst (AreWithin (2 ^ 40)) e small)
  ];
}

front_more : (seen vs : List Vector) (i : ℕ) (d : Vector) → i < length vs → (seen ++ take i vs) ++ get_or vs i d ∷ [] ≡ seen ++ take (i + 1) vs
front_more seen vs i d h = append_assoc seen (take i vs) (get_or vs i d ∷ []) ∙ ap (λ (u : List Vector). seen ++ u) (sym (take_more vs i d h))

pub least_more : (seen vs : List Vector) (i : ℕ) (d : Vector) (o : Option Vector) → i < length vs → IsLeastOf ((seen ++ take i vs) ++ get_or vs i d ∷ []) o → IsLeastOf (seen ++ take (i + 1) vs) o
least_more seen vs i d o h l = subst (λ (u : List Vector). IsLeastOf u o) (front_more seen vs i d h) l

pub least_skip : (seen vs : List Vector) (i : ℕ) (d : Vector) (o : Option Vector) → i < length vs → IsLeastOf (seen ++ take i vs) o → AreWithin (2 ^ 40) (get_or vs i d) → IsLeastOf (seen ++ take (i + 1) vs) o
least_skip seen vs i d o h l small = least_more seen vs i d o h (skip (seen ++ take i vs) (get_or vs i d) o l small)

pub less_of : (o : Ordering) → is_lt o ≡ true → o ≡ Less
less_of Less e = refl
less_of Equal e = cc e
less_of Greater e = cc e
