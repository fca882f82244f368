-- The chambers of an input's listing are cones of full dimension with small entries.
use Rattle.std.proofs.Common.{ℕ, length, subst, sym}
use Rattle.git_input.specs.Inputs.{InputValue}
use Rattle.git_orbit.specs.Orbits.{Fan, IsFan}
use Rattle.git_orbit.specs.Signatures.{IsSignature}
use Rattle.git_chamber.specs.Chambers.{first_germ}
use Rattle.git_listing.specs.Listings.{Listing}
use Rattle.git_chamber.specs.Views.{Graph, IsGraph}
use Rattle.git_chamber.proofs.Firsts.{first_legal}
use Rattle.git_allcones.specs.Cones.{AreShortCones, cones_of}
use Rattle.git_covering.proofs.Short.{short_listing}
use Rattle.git_answers.specs.Fan.{IsListingOf}

module _ (v : InputValue) (fan : Fan) (l : Listing) (graph : IsGraph (record { fan = fan; columns = v.degrees.columns })) (is : IsListingOf v fan l) where
  pub is_fan : IsFan fan.k fan.list
  is_fan = record { columns = v.degrees.columns; grading = graph.grading; masks = graph.cones.masks; faces = graph.cones.faces; cones = graph.cones.cones }

  pub short_in_fan : AreShortCones fan.k (cones_of l)
  short_in_fan =
      let g : Graph = record { fan = fan; columns = v.degrees.columns } in
      let first = subst (λ (k : ℕ). IsSignature fan (first_germ k v.degrees.columns) is.first) (sym is.opening.is_fan.k) is.opening.is_first in
      short_listing fan is_fan is.first (length v.degrees.columns) l (first_legal g graph is.first first) is.listing

  pub listed_short : AreShortCones l.k (cones_of l)
  listed_short = subst (λ (k : ℕ). AreShortCones k (cones_of l)) (sym is.listing.k) short_in_fan
