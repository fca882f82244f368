-- What the limits of a listing's text say of its chambers.
use Rattle.std.proofs.Common.{ℕ, ◌^◌, ◌≤◌, All, List, [], ◌∷◌, map, subst}
use Rattle.std.specs.List.{AllByRecursion}
use Rattle.std.specs.Int.RustNames.{unsigned_abs}
use Rattle.git_lemmas.specs.Members.{Member}
use Rattle.git_lemmas.proofs.Members.{member_all}
use Rattle.std.proofs.Common.{inl, inr, ℤ}
use Rattle.git_defs.specs.Vectors.{Vector}
use Rattle.git_stages.specs.Short.{IsShort}
use Rattle.git_listing.specs.Limits.{FitsChamber, FitsFacet, FitsListing, FitsVector}
use Rattle.git_listing.specs.Listings.{Chamber, Facet, Listing, normals_of}
use Rattle.git_check_chambers.specs.Judged.{IsSizedChamber}

pub each_of : {A : Type 0} (P : A → Type 0) (xs : List A) → AllByRecursion P xs → All P xs
each_of P xs h = member_all P xs (one P xs h) where
  one : {A : Type 0} (P : A → Type 0) (xs : List A) → AllByRecursion P xs → (x : A) → Member x xs → P x
  one P [] h x m = absurd m
  one P (y ∷ xs) h x m = elim m [ inl e ↦ subst P e h.0 | inr o ↦ one P xs h.1 x o ]

mapped : {A B : Type 0} (P : B → Type 0) (g : A → B) (xs : List A) → AllByRecursion (λ x. P (g x)) xs → AllByRecursion P (map g xs)
mapped P g [] h = tt
mapped P g (x ∷ xs) h = (h.0, mapped P g xs h.1)

along : {A : Type 0} (P Q : A → Type 0) (xs : List A) → ((x : A) → P x → Q x) → AllByRecursion P xs → AllByRecursion Q xs
along P Q [] f h = tt
along P Q (x ∷ xs) f h = (f x h.0, along P Q xs f h.1)

short : (k : ℕ) (v : Vector) → FitsVector k (2 ^ 40) v → IsShort k v
short k v h = record { entries = h.entries; within = each_of (λ (z : ℤ). unsigned_abs z ≤ 2 ^ 40) v h.small }

sized : (version k : ℕ) (c : Chamber) → FitsChamber version k c → IsSizedChamber k c
sized version k c h = record {
  rays = each_of (IsShort k) c.rays (along (FitsVector k (2 ^ 40)) (IsShort k) c.rays (short k) h.rays);
  few = h.ray_count.1;
  normals = each_of (IsShort k) (normals_of c) (mapped (IsShort k) (λ (f : Facet). f.normal) c.facets (along (FitsFacet version k) (λ (f : Facet). IsShort k f.normal) c.facets (λ f g. short k f.normal g.0) h.facets));
}

pub all_sized : (l : Listing) → FitsListing l → All (IsSizedChamber l.k) l.chambers
all_sized l h = each_of (IsSizedChamber l.k) l.chambers (along (FitsChamber l.version l.k) (IsSizedChamber l.k) l.chambers (sized l.version l.k) h.chambers)
