-- A list with nothing twice that grows by what it lacks.
use Rattle.std.proofs.Common.{◌≡◌, ◌≢◌, ◌⊎◌, ℕ, ◌+◌, ◌<◌, Bool, true, false, List, [], ◌∷◌, ◌++◌, length, get_or, sym, ap, ◌∙◌, subst, inl, inr, append-nil, append_assoc, nat_eq}
use Rattle.std.specs.List.{Contains, list_any}
use Rattle.std.specs.Cmp.Lexicographic.{pointwise, nat_list_eq_equiv}
use Rattle.std.proofs.lemmas.Bool.{cases_Bool}
use Rattle.std.proofs.lemmas.List.Elements.{All-weaker, All-push, All-nil, All-contains_itself, Contains-append_left, Contains-push, Contains-get_or}
use Rattle.std.proofs.lemmas.List.Quantifiers.{all_pairs_push}
use Rattle.std.proofs.lemmas.Map.Views.{Contains-from_any, list_any-from_Contains}
use Rattle.indexmap.specs.IndexSet.{insert_key}
use Rattle.git_machine.specs.Signatures.{Signature}
use Rattle.git_machine.specs.Reach.{IsOnce}
use Rattle.git_machine.specs.Ties.{equal_words}
use Rattle.git_plain.specs.Closing.{IsGrown}

abbrev pub same : Signature → Signature → Bool
same = pointwise nat_eq

has : (xs : List Signature) (x : Signature) → list_any (same x) xs ≡ true → Contains xs x
has xs x found = Contains-from_any (λ a b e. (equal_words a b).0 e) x xs found

lacks : (xs : List Signature) (x : Signature) → list_any (same x) xs ≡ false → ¬ Contains xs x
lacks xs x none c = let found = list_any-from_Contains nat_list_eq_equiv x xs c in let bad : false ≡ true = sym none ∙ found in cc

inserted : (xs : List Signature) (x : Signature) → (Contains xs x × (insert_key same xs x ≡ xs)) ⊎ ((¬ Contains xs x) × (insert_key same xs x ≡ xs ++ x ∷ []))
inserted xs x = elim (cases_Bool (list_any (same x) xs)) [
  | inl found ↦ inl (has xs x found, ap (λ b. Rattle.std.proofs.Common.cond b xs (xs ++ x ∷ [])) found)
  | inr none ↦ inr (lacks xs x none, ap (λ b. Rattle.std.proofs.Common.cond b xs (xs ++ x ∷ [])) none)
]

pub starts : (xs : List Signature) → IsOnce xs → IsGrown xs [] xs
starts xs once = record {
  begins = ([], sym (append-nil xs));
  from = All-weaker (Contains xs) (λ x. Contains xs x ⊎ Contains [] x) (λ x c. inl c) xs (All-contains_itself xs);
  whole = All-nil (Contains xs);
  once = once;
}

module _ (old more now : List Signature) (x : Signature) (h : IsGrown old more now) where
  abbrev From : Signature → Type 0
  From y = Contains old y ⊎ Contains (more ++ x ∷ []) y

  from_more : (y : Signature) → Contains old y ⊎ Contains more y → From y
  from_more y c = elim c [ inl a ↦ inl a | inr b ↦ inr (Contains-append_left more (x ∷ []) y b) ]

  skips : Contains now x → IsGrown old (more ++ x ∷ []) now
  skips c = record {
    begins = h.begins;
    from = All-weaker (λ y. Contains old y ⊎ Contains more y) From from_more now h.from;
    whole = All-push (Contains now) more x h.whole c;
    once = h.once;
  }

  adds : ¬ Contains now x → IsGrown old (more ++ x ∷ []) (now ++ x ∷ [])
  adds new = record {
    begins = let b = h.begins in (b.0 ++ x ∷ [], ap (λ (l : List Signature). l ++ x ∷ []) b.1 ∙ append_assoc old b.0 (x ∷ []));
    from = All-push From now x (All-weaker (λ y. Contains old y ⊎ Contains more y) From from_more now h.from) (inr (Contains-push more x));
    whole = All-push (Contains (now ++ x ∷ [])) more x (All-weaker (Contains now) (Contains (now ++ x ∷ [])) (λ y c. Contains-append_left now (x ∷ []) y c) more h.whole) (Contains-push now x);
    once = all_pairs_push (λ a b. a ≢ b) now x h.once (λ k d l e. new (subst (Contains now) e (Contains-get_or now k d l)));
  }

  pub grows : IsGrown old (more ++ x ∷ []) (insert_key same now x)
  grows = elim (inserted now x) [
    | inl p ↦ subst (IsGrown old (more ++ x ∷ [])) (sym p.1) (skips p.0)
    | inr p ↦ subst (IsGrown old (more ++ x ∷ [])) (sym p.1) (adds p.0)
  ]
