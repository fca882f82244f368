-- Numbers at signatures.
use Rattle.std.proofs.Common.{◌≡◌, ◌<◌, ◌∙◌, ◌⊎◌, ◌+◌, ◌++◌, ◌∷◌, [], Bool, List, Option, Some, ap, arith, false, get_or, inl, inr, length, refl, subst, suc, sym, take, true, zero, ℕ}
use Rattle.std.specs.Prelude.{IsSome, cond, slice_get}
use Rattle.std.specs.BTreeMap.{BTreeMap, Updates, get, is_at}
use Rattle.std.proofs.lemmas.List.Elements.{All-append, All-cons, All-nil, All-weaker}
use Rattle.std.proofs.lemmas.List.{map-append}
use Rattle.std.proofs.Math.Seq.{take-suc}
use Rattle.std.proofs.lemmas.Option.{slice_get_within}
use Rattle.std.specs.Ordering.{is_eq}
use Rattle.std.specs.Cmp.{tied_itself}
use Rattle.git_lemmas.proofs.Options.{some_is}
use Rattle.git_machine.specs.Signatures.{Signature, signature_cmp}
use Rattle.git_machine.specs.Ties.{equal_words, level_words, signature_total}
use Rattle.git_chamber.specs.Views.{FanChamber}
use Rattle.git_assemble.specs.Making.{IsNumbering, signatures_in}

slice_left : (xs ys : List Signature) (i : ℕ) (s : Signature) → slice_get xs i ≡ Some s → slice_get (xs ++ ys) i ≡ Some s
slice_left [] ys i s e = absurd (let h : i < 0 = slice_get_within [] i s e in omega (arith, h))
slice_left (x ∷ xs) ys zero s e = e
slice_left (x ∷ xs) ys (suc i) s e = slice_left xs ys i s e

slice_last : (xs : List Signature) (s : Signature) → slice_get (xs ++ s ∷ []) (length xs) ≡ Some s
slice_last [] s = refl
slice_last (x ∷ xs) s = slice_last xs s

some_either : (b : Bool) (n : ℕ) (o : Option ℕ) → IsSome o → IsSome (cond b (Some n) o)
some_either true n o some = search
some_either false n o some = some

some_here : (b : Bool) (n : ℕ) (o : Option ℕ) → b ≡ true → IsSome (cond b (Some n) o)
some_here true n o e = search
some_here false n o e = absurd cc

level_itself : (s : Signature) → is_at (signature_cmp s) s ≡ true
level_itself s = ap is_eq (tied_itself signature_total s)

-- the number at a signature, after one more
by_which : (b : Bool) (n m : ℕ) (o : Option ℕ) → cond b (Some n) o ≡ Some m → ((b ≡ true) × (m ≡ n)) ⊎ (o ≡ Some m)
by_which true n m o e = inl (refl, sym (some_is n m e))
by_which false n m o e = inr e

pub one_more_number : (sigs : List Signature) (m new : BTreeMap Signature ℕ) (s : Signature) (n : ℕ) → IsNumbering sigs m → n ≡ length sigs + 1
    → Updates signature_cmp m new s (Some n) → IsNumbering (sigs ++ s ∷ []) new
one_more_number sigs m new s n is number updates = record {
  each = All-append (λ t. IsSome (get signature_cmp new t)) sigs (s ∷ []) (All-weaker (λ t. IsSome (get signature_cmp m t)) (λ t. IsSome (get signature_cmp new t)) old sigs is.each)
      (All-cons (λ t. IsSome (get signature_cmp new t)) s [] here (All-nil (λ t. IsSome (get signature_cmp new t))));
  right = right;
} where
  old : (t : Signature) → IsSome (get signature_cmp m t) → IsSome (get signature_cmp new t)
  old t some = subst IsSome (sym (updates.0 t)) (some_either (is_at (signature_cmp s) t) n (get signature_cmp m t) some)

  here : IsSome (get signature_cmp new s)
  here = subst IsSome (sym (updates.0 s)) (some_here (is_at (signature_cmp s) s) n (get signature_cmp m s) (level_itself s))

  right : (t : Signature) (k : ℕ) → get signature_cmp new t ≡ Some k → (p : ℕ) × (k ≡ p + 1) × (slice_get (sigs ++ s ∷ []) p ≡ Some t)
  right t k e = elim (by_which (is_at (signature_cmp s) t) n k (get signature_cmp m t) (sym (updates.0 t) ∙ e)) [
    | inl new ↦ (length sigs, new.1 ∙ number, slice_last sigs s ∙ ap Some ((equal_words s t).0 (level_words s t new.0)))
    | inr before ↦ (let r = is.right t k before in (r.0, r.1, slice_left sigs (s ∷ []) r.0 t r.2))
  ]

-- the signatures of one chamber more
pub one_more_chamber : (cs : List FanChamber) (i : ℕ) (d : FanChamber) → i < length cs → signatures_in (take (i + 1) cs) ≡ signatures_in (take i cs) ++ (get_or cs i d).sig ∷ []
one_more_chamber cs i d low = ap signatures_in (ap (λ n. take n cs) next ∙ take-suc cs i d low) ∙ map-append (λ (c : FanChamber). c.sig) (take i cs) (get_or cs i d ∷ []) where
  next : i + 1 ≡ suc i
  next = omega arith

pub count_before : (cs : List FanChamber) (i : ℕ) → i < length cs → length (signatures_in (take i cs)) ≡ i
count_before cs zero low = refl
count_before [] (suc i) low = absurd (omega arith)
count_before (c ∷ cs) (suc i) low = ap suc (count_before cs i (omega arith))
