-- Members of the front of a list, and elements by their places.
use Rattle.std.proofs.Common.{◌≡◌, ◌⊎◌, ℕ, zero, suc, ◌+◌, ◌<◌, ◌≤◌, List, [], ◌∷◌, ◌++◌, length, take, get_or, refl, sym, ◌∙◌, ap, subst, arith, inl, inr, drop, ◌-◌, length-drop, Some}
use Rattle.std.proofs.lemmas.List.{take_more, take_all}
use Rattle.std.specs.Prelude.{slice_get, Contains}
use Rattle.git_defs.specs.Vectors.{Vector}
use Rattle.git_lemmas.specs.Members.{Member}
use Rattle.git_defs.proofs.Lengths.{OfLength}
use Rattle.git_geometry.proofs.Lists.{member_either, member_left, member_right, pick_first, pick_later}
use Rattle.git_geometry.specs.Elimination.{IsPick}
use Rattle.std.proofs.Math.Seq.{drop-cons}
use Rattle.std.proofs.lemmas.List.Elements.{Contains-push_cases}

-- ---- members of a front
pub member_more : (xs : List Vector) (i : ℕ) (d x : Vector) → i < length xs → Member x (take (i + 1) xs) → Member x (take i xs) ⊎ (get_or xs i d ≡ x)
member_more xs i d x h m = elim (member_either x (take i xs) (get_or xs i d ∷ []) (subst (Member x) (take_more xs i d h) m)) [
  | inl l ↦ inl l
  | inr r ↦ elim r [ inl e ↦ inr e | inr n ↦ absurd n ]
]

pub contains_more : (xs : List Vector) (i : ℕ) (d x : Vector) → i < length xs → Contains (take (i + 1) xs) x → Contains (take i xs) x ⊎ (get_or xs i d ≡ x)
contains_more xs i d x h c = Contains-push_cases (take i xs) (get_or xs i d) x (subst (λ (u : List Vector). Contains u x) (take_more xs i d h) c)

pub member_at : (xs : List Vector) (i : ℕ) (d : Vector) → i < length xs → Member (get_or xs i d) xs
member_at [] i d h = absurd (omega arith)
member_at (x ∷ xs) zero d h = inl refl
member_at (x ∷ xs) (suc i) d h = inr (member_at xs i d (omega arith))

pub front_grows : (xs : List Vector) (i : ℕ) (d x : Vector) → i < length xs → Member x (take i xs) → Member x (take (i + 1) xs)
front_grows xs i d x h m = subst (Member x) (sym (take_more xs i d h)) (member_left x (take i xs) (get_or xs i d ∷ []) m)

pub last_in : (xs : List Vector) (i : ℕ) (d : Vector) → i < length xs → Member (get_or xs i d) (take (i + 1) xs)
last_in xs i d h = subst (Member (get_or xs i d)) (sym (take_more xs i d h)) (member_right (get_or xs i d) (take i xs) (get_or xs i d ∷ []) (inl refl))

pick_suc : (us : List Vector) (i : ℕ) (d : Vector) → i < length us → IsPick (get_or us i d) (take i us ++ drop (suc i) us) us
pick_suc [] i d h = absurd (omega arith)
pick_suc (u ∷ us) zero d h = pick_first u us
pick_suc (u ∷ us) (suc i) d h = pick_later u (get_or us i d) (take i us ++ drop (suc i) us) us (pick_suc us i d (omega arith))

pub pick_at : (us : List Vector) (i : ℕ) (d : Vector) → i < length us → IsPick (get_or us i d) (take i us ++ drop (i + 1) us) us
pick_at us i d h = let e : suc i ≡ i + 1 = omega arith in subst (λ (n : ℕ). IsPick (get_or us i d) (take i us ++ drop n us) us) e (pick_suc us i d h)

pub any_default : (us : List Vector) (i : ℕ) (d e : Vector) → i < length us → get_or us i d ≡ get_or us i e
any_default [] i d e h = absurd (omega arith)
any_default (u ∷ us) zero d e h = refl
any_default (u ∷ us) (suc i) d e h = any_default us i d e (omega arith)

pub tail_whole : (us : List Vector) (i : ℕ) → take (length us - i) (drop i us) ≡ drop i us
tail_whole us i = take_all (length us - i) (drop i us) (omega (arith, length-drop i us))

pub got : (xs : List Vector) (i : ℕ) (d w : Vector) → slice_get xs i ≡ Some w → get_or xs i d ≡ w
got [] i d w e = cc e
got (x ∷ xs) zero d w e = let g : x ≡ w = cc e in g
got (x ∷ xs) (suc i) d w e = got xs i d w e

pub one_more : (xs out more : List Vector) (i : ℕ) (w : Vector) → i < length xs → out ≡ take i xs → slice_get xs i ≡ Some w → more ≡ out ++ w ∷ [] → more ≡ take (i + 1) xs
one_more xs out more i w h e g m = m ∙ (λ j. e j ++ sym (got xs i w w g) j ∷ []) ∙ sym (take_more xs i w h)

-- ---- exactness
pub front_in_front : (A : List Vector) (i j : ℕ) (x : Vector) → i ≤ j → Member x (take i A) → Member x (take j A)
front_in_front A zero j x h m = absurd m
front_in_front [] (suc i) zero x h m = m
front_in_front [] (suc i) (suc j) x h m = m
front_in_front (a ∷ A) (suc i) zero x h m = absurd (omega arith)
front_in_front (a ∷ A) (suc i) (suc j) x h (inl e) = inl e
front_in_front (a ∷ A) (suc i) (suc j) x h (inr m) = inr (front_in_front A i j x (omega arith) m)

pub later_member : (xs : List Vector) (m : ℕ) (x : Vector) → Member x (drop m xs) → Member x xs
later_member xs zero x n = n
later_member [] (suc m) x n = absurd n
later_member (y ∷ xs) (suc m) x n = inr (later_member xs m x n)

pub left_length : (k : ℕ) (xs : List Vector) (m : ℕ) → OfLength k xs → OfLength k (drop m xs)
left_length k xs m have = record { each = λ v n. have.each v (later_member xs m v n) }

pub drop_more : (xs : List Vector) (m : ℕ) (d : Vector) → m < length xs → drop m xs ≡ get_or xs m d ∷ drop (m + 1) xs
drop_more xs m d h = let e : suc m ≡ m + 1 = omega arith in drop-cons xs m d h ∙ ap (λ (n : ℕ). get_or xs m d ∷ drop n xs) e

pub left_of : (prepared : List Vector) (m : ℕ) (b : Vector) → m < length prepared → b ≡ get_or prepared m b → drop m prepared ≡ b ∷ drop (m + 1) prepared
left_of prepared m b h is = drop_more prepared m b h ∙ ap (λ (u : Vector). u ∷ drop (m + 1) prepared) (sym is)
