-- Members of a list, by recursion, beside the library's words by index.
use Rattle.std.proofs.Common.{◌≡◌, ℕ, zero, suc, ◌<◌, List, [], ◌∷◌, length, get_or, refl, ap, subst, arith, inl, inr}
use Rattle.git_lemmas.specs.Members.{Member}
use Rattle.std.specs.Prelude.{All, Contains, Some, slice_get}
use Rattle.std.proofs.lemmas.List.Elements.{All-nil, All-cons}

pub member_contains : {X : Type 0} (x : X) (vs : List X) → Member x vs → Contains vs x
member_contains x [] m = absurd m
member_contains x (v ∷ vs) (inl e) = (0, omega arith, e)
member_contains x (v ∷ vs) (inr m) = let c = member_contains x vs m in (suc c.0, (let h = c.1 in omega arith), c.2)

at_member : {X : Type 0} (k : ℕ) (x : X) (vs : List X) → k < length vs → get_or vs k x ≡ x → Member x vs
at_member k x [] h e = absurd (omega arith)
at_member zero x (v ∷ vs) h e = inl e
at_member (suc k) x (v ∷ vs) h e = inr (at_member k x vs (omega arith) e)

pub contains_member : {X : Type 0} (x : X) (vs : List X) → Contains vs x → Member x vs
contains_member x vs c = at_member c.0 x vs c.1 c.2

-- the same two, where the element is known from what is wanted
pub contained : {X : Type 0} {x : X} (vs : List X) → Member x vs → Contains vs x
contained {x = x} vs m = member_contains x vs m

pub as_member : {X : Type 0} {x : X} (vs : List X) → Contains vs x → Member x vs
as_member {x = x} vs c = contains_member x vs c

-- what holds of all holds of a member
pub all_member : {X : Type 0} (P : X → Type 0) (x : X) (vs : List X) → All P vs → Member x vs → P x
all_member P x vs each m = let c = member_contains x vs m in subst P c.2 (each c.0 x c.1)

pub member_all : {X : Type 0} (P : X → Type 0) (vs : List X) → ((x : X) → Member x vs → P x) → All P vs
member_all P [] each = All-nil P
member_all P (v ∷ vs) each = All-cons P v vs (each v (inl refl)) (member_all P vs (λ x m. each x (inr m)))

-- ---- by place
pub member_place : {X : Type 0} (x : X) (xs : List X) → Member x xs → (i : ℕ) × (slice_get xs i ≡ Some x)
member_place x [] m = absurd m
member_place x (y ∷ xs) (inl e) = (0, ap Some e)
member_place x (y ∷ xs) (inr m) = let r = member_place x xs m in (suc r.0, r.1)
