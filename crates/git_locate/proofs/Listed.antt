-- The listed chambers that hold a weight, by their places.
use Rattle.std.proofs.Common.{◌≡◌, ◌∙◌, ◌+◌, ◌<◌, ◌≤◌, [], List, ap, arith, get_or, length, map, refl, subst, sym, ℕ}
use Rattle.std.specs.Prelude.{All}
use Rattle.std.proofs.lemmas.List.{get_or-map, length-map}
use Rattle.std.proofs.lemmas.List.Elements.{All-get_or}
use Rattle.git_defs.specs.Cones.{InCone}
use Rattle.git_defs.specs.Vectors.{Vector}
use Rattle.git_cone_faces.specs.Families.{Cone}
use Rattle.git_chamber.specs.Listings.{no_chamber}
use Rattle.git_listing.specs.Listings.{Chamber}
use Rattle.git_listing.specs.Views.{chamber_of}
use Rattle.git_listing.specs.declared.listing.ListedChamber.{ListedChamber}
use Rattle.git_allcones.specs.Cones.{IsShortCone, cone_of_chamber}
use Rattle.git_locate.specs.Positions.{AreNumbersOf, IsListedAround}
use Rattle.git_locate.proofs.Numbers.{Below, no_numbers, numbers_along}

abbrev no_cone : Cone
no_cone = record { rays = []; facets = [] }

pub none_at_zero : (k : ℕ) (chambers : List Chamber) (w : Vector) → AreNumbersOf (Below (IsListedAround k chambers w) 1) []
none_at_zero k chambers w = no_numbers (Below (IsListedAround k chambers w) 1) (λ m p. let low = p.0 in let at = p.1.is in omega (arith, low, at))

module _ (k : ℕ) (cs : List ListedChamber) (w : Vector) (i : ℕ) (c : ListedChamber) (low : i < length cs) (at : c ≡ get_or cs i c) where
  chamber_is : get_or (map chamber_of cs) i no_chamber ≡ chamber_of c
  chamber_is = get_or-map chamber_of cs i c no_chamber low ∙ ap chamber_of (sym at)

  low_view : i < length (map chamber_of cs)
  low_view = omega (arith, low, length-map cs chamber_of)

  pub cone_short : All (IsShortCone k) (map cone_of_chamber (map chamber_of cs)) → IsShortCone k (cone_of_chamber (chamber_of c))
  cone_short all = subst (IsShortCone k) (get_or-map cone_of_chamber (map chamber_of cs) i no_chamber no_cone low_view ∙ ap cone_of_chamber chamber_is)
      (All-get_or (IsShortCone k) (map cone_of_chamber (map chamber_of cs)) i no_cone (omega (arith, low_view, length-map (map chamber_of cs) cone_of_chamber)) all)

  pub is_listed : InCone k c.rays.items w → IsListedAround k (map chamber_of cs) w (i + 1)
  is_listed h = record { place = i; in_range = low_view; is = refl; holds = subst (λ (d : Chamber). InCone k d.rays w) (sym chamber_is) h }

  pub not_listed : (InCone k c.rays.items w → ⊥) → IsListedAround k (map chamber_of cs) w (i + 1) → ⊥
  not_listed out l = out (subst (λ (d : Chamber). InCone k d.rays w) chamber_is (subst (λ (j : ℕ). InCone k (get_or (map chamber_of cs) j no_chamber).rays w) (let e = l.is in omega (arith, e)) l.holds))

pub all_listed : (k : ℕ) (chambers : List Chamber) (w : Vector) (i : ℕ) (ns : List ℕ) → length chambers ≤ i → AreNumbersOf (Below (IsListedAround k chambers w) (i + 1)) ns
    → AreNumbersOf (IsListedAround k chambers w) ns
all_listed k chambers w i ns end a = numbers_along (Below (IsListedAround k chambers w) (i + 1)) (IsListedAround k chambers w) ns
    (λ n. (λ p. p.1, λ p. (let low = p.in_range in let at = p.is in omega (arith, low, at, end), p))) a
