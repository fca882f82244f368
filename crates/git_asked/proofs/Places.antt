-- What stands at a place of a list.
use Rattle.std.proofs.Common.{◌≡◌, ◌∙◌, ◌∷◌, [], ◌<◌, All, Contains, List, Some, ap, arith, get_or, length, map, refl, subst, suc, sym, zero, ℕ}
use Rattle.std.specs.Prelude.{slice_get}
use Rattle.std.specs.List.{AllZip}
use Rattle.git_lemmas.proofs.Members.{contains_member, member_place}
use Rattle.git_lemmas.proofs.Options.{some_is}

pub got : {A : Type 0} (xs : List A) (i : ℕ) → i < length xs → (x : A) × (slice_get xs i ≡ Some x)
got [] i h = absurd (omega arith)
got (x ∷ xs) zero h = (x, refl)
got (x ∷ xs) (suc i) h = got xs i (omega arith)

pub within : {A : Type 0} (xs : List A) (i : ℕ) (x : A) → slice_get xs i ≡ Some x → i < length xs
within [] i x e = absurd (cc e)
within (y ∷ xs) zero x e = omega arith
within (y ∷ xs) (suc i) x e = let h = within xs i x e in omega (arith, h)

pub one_at : {A : Type 0} (xs : List A) (i : ℕ) (x y : A) → slice_get xs i ≡ Some x → slice_get xs i ≡ Some y → x ≡ y
one_at xs i x y e f = some_is x y (sym e ∙ f)

pub get_or_is : {A : Type 0} (xs : List A) (i : ℕ) (x d : A) → slice_get xs i ≡ Some x → get_or xs i d ≡ x
get_or_is [] i x d e = absurd (cc e)
get_or_is (y ∷ xs) zero x d e = some_is y x e
get_or_is (y ∷ xs) (suc i) x d e = get_or_is xs i x d e

pub all_got : {A : Type 0} (P : A → Type 0) (xs : List A) → ((i : ℕ) (x : A) → slice_get xs i ≡ Some x → P x) → All P xs
all_got P xs h = λ i d low. (let x = got xs i low in subst P (sym (get_or_is xs i x.0 d x.1)) (h i x.0 x.1))

pub all_at : {A : Type 0} (P : A → Type 0) (xs : List A) (i : ℕ) (x : A) → All P xs → slice_get xs i ≡ Some x → P x
all_at P xs i x h e = subst P (get_or_is xs i x x e) (h i x (within xs i x e))

pub contains_at : {A : Type 0} (xs : List A) (i : ℕ) (x : A) → slice_get xs i ≡ Some x → Contains xs x
contains_at xs i x e = (i, within xs i x e, get_or_is xs i x x e)

pub place_of : {A : Type 0} (xs : List A) (x : A) → Contains xs x → (i : ℕ) × (slice_get xs i ≡ Some x)
place_of xs x h = member_place x xs (contains_member x xs h)

pub map_at : {A B : Type 0} (g : A → B) (xs : List A) (i : ℕ) (x : A) → slice_get xs i ≡ Some x → slice_get (map g xs) i ≡ Some (g x)
map_at g [] i x e = absurd (cc e)
map_at g (y ∷ xs) zero x e = ap (λ z. Some (g z)) (some_is y x e)
map_at g (y ∷ xs) (suc i) x e = map_at g xs i x e

pub map_from : {A B : Type 0} (g : A → B) (xs : List A) (i : ℕ) (y : B) → slice_get (map g xs) i ≡ Some y → (x : A) × (slice_get xs i ≡ Some x) × (g x ≡ y)
map_from g [] i y e = absurd (cc e)
map_from g (x ∷ xs) zero y e = (x, refl, some_is (g x) y e)
map_from g (x ∷ xs) (suc i) y e = map_from g xs i y e

-- ---- two lists
pub zipped : {A B : Type 0} (R : A → B → Type 0) (xs : List A) (ys : List B) → length xs ≡ length ys
    → ((i : ℕ) (x : A) (y : B) → slice_get xs i ≡ Some x → slice_get ys i ≡ Some y → R x y) → AllZip R xs ys
zipped R [] [] e h = tt
zipped R [] (y ∷ ys) e h = absurd (omega (arith, e))
zipped R (x ∷ xs) [] e h = absurd (omega (arith, e))
zipped R (x ∷ xs) (y ∷ ys) e h = (h 0 x y refl refl, zipped R xs ys (omega (arith, e)) (λ i a b f g. h (suc i) a b f g))

pub zipped_at : {A B : Type 0} (R : A → B → Type 0) (xs : List A) (ys : List B) (i : ℕ) (x : A) (y : B) → AllZip R xs ys → slice_get xs i ≡ Some x → slice_get ys i ≡ Some y → R x y
zipped_at R [] ys i x y z e f = absurd (cc e)
zipped_at R (a ∷ xs) [] i x y z e f = absurd (cc f)
zipped_at R (a ∷ xs) (b ∷ ys) zero x y z e f = subst (R x) (some_is b y f) (subst (λ c. R c b) (some_is a x e) z.0)
zipped_at R (a ∷ xs) (b ∷ ys) (suc i) x y z e f = zipped_at R xs ys i x y z.1 e f

pub zipped_length : {A B : Type 0} (R : A → B → Type 0) (xs : List A) (ys : List B) → AllZip R xs ys → length xs ≡ length ys
zipped_length R [] [] z = refl
zipped_length R [] (y ∷ ys) z = absurd z
zipped_length R (x ∷ xs) [] z = absurd z
zipped_length R (x ∷ xs) (y ∷ ys) z = ap suc (zipped_length R xs ys z.1)
