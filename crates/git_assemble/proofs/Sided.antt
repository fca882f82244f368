-- Facets and chambers as they are listed.
use Rattle.std.proofs.Common.{◌≡◌, ◌<◌, ◌++◌, ◌∷◌, [], All, List, arith, length, length-append, map, refl, subst, suc, sym}
use Rattle.std.proofs.Math.Seq.{get_or-append_seam}
use Rattle.std.specs.List.{AllZip}
use Rattle.std.proofs.lemmas.List.Elements.{All-cons, All-nil}
use Rattle.git_defs.specs.Vectors.{Vector}
use Rattle.git_listing.specs.Listings.{Facet, Side}
use Rattle.git_listing.specs.Views.{facet_of, side_of}
use Rattle.git_listing.specs.declared.listing.ListedFacet.{ListedFacet}

pub normals_of : (fs : List ListedFacet) → map (λ (f : Facet). f.normal) (map facet_of fs) ≡ map (λ (f : ListedFacet). f.normal) fs
normals_of [] = refl
normals_of (f ∷ fs) = λ i. f.normal ∷ normals_of fs i

pub sides_of : (P : Vector → Side → Type 0) (fs : List ListedFacet) → All (λ (f : ListedFacet). P f.normal (side_of f.side)) fs
    → All (λ (f : Facet). P f.normal f.side) (map facet_of fs)
sides_of P [] all = All-nil (λ (f : Facet). P f.normal f.side)
sides_of P (f ∷ fs) all = All-cons (λ (g : Facet). P g.normal g.side) (facet_of f) (map facet_of fs) (all 0 f (omega arith)) (sides_of P fs (λ i d h. all (suc i) d (omega arith)))

-- one more pair at the end
pub one_more_pair : {A B : Type 0} (R : A → B → Type 0) (xs : List A) (ys : List B) (x : A) (y : B) → AllZip R xs ys → R x y → AllZip R (xs ++ x ∷ []) (ys ++ y ∷ [])
one_more_pair R [] [] x y z r = (r, tt)
one_more_pair R [] (w ∷ ys) x y z r = absurd z
one_more_pair R (v ∷ xs) [] x y z r = absurd z
one_more_pair R (v ∷ xs) (w ∷ ys) x y z r = (z.0, one_more_pair R xs ys x y z.1 r)

-- what holds of all holds of one in the middle
pub one_of_all : {X : Type 0} (P : X → Type 0) (front rest all : List X) (x : X) → front ++ x ∷ rest ≡ all → All P all → P x
one_of_all P front rest all x e each = subst P (get_or-append_seam front x rest x) (subst (All P) (sym e) each (length front) x (subst (λ n. length front < n) (sym (length-append front (x ∷ rest))) (omega arith)))
