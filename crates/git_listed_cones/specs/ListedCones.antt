-- The listing of an input beside its cones.
use Rattle.std.specs.Prelude.{◌≡◌, ◌↔◌, ℕ, ◌<◌, ◌≤◌, List, length, Contains}
use Rattle.git_input.specs.Inputs.{InputValue}
use Rattle.git_ideals.specs.Faces.{IsAFace}
use Rattle.git_facecert.specs.declared.certificate.FaceVerdict.{FaceVerdict}
use Rattle.git_orbit.specs.Orbits.{AreFaces, AreOrbitCones, Fan}
use Rattle.git_chamber.specs.Views.{Graph}
use Rattle.git_listing.specs.Listings.{Listing}
use Rattle.git_listing.specs.Views.{listing_of}
use Rattle.git_allcones.specs.Cones.{AreShortCones, cones_of}
use Rattle.git_input_cones.specs.InputCones.{free_masks_of}
use Rattle.git_answers.specs.Ends.{spelled}
use Rattle.git_answers.specs.Verdicts.{IsFullFace, whole_face}
use Rattle.git_answers.specs.Fan.{Options, refuses}
use Rattle.git_fan.specs.Fans.{HasListing}
use Rattle.git_fan.specs.declared.listing.Listed.{Listed}
use Rattle.git_fan.specs.declared.listing.Listed.TheVariants.{Refused, Chambers}

-- the masks are those of the full a-faces of the input, descending, with that of the whole face, and these are their cones
pub record AreConesOfFree (v : InputValue) (masks : List ℕ) (fan : Fan) : Type 0 where
  pub k : fan.k ≡ v.degrees.k
  pub faces : AreFaces v.degrees.k v.degrees.columns masks
  pub whole : Contains masks (whole_face v)
  pub each : (m : ℕ) → IsFullFace v m → Contains masks m ↔ IsAFace v.generators m
  pub cones : AreOrbitCones v.degrees.k v.degrees.columns (Contains masks) fan.list

-- the input isn't refused, these are its graph, its verdicts and its listing, and the cones are those of the free masks; there is a cone,
-- the chambers are no more than the table allows, and each is a cone of full dimension with small entries
pub record HasCones (v : InputValue) (n : Options) (g : Graph) (faces : List FaceVerdict) (l : Listing) : Type 0 where
  pub listed : HasListing v (refuses n v) g faces l
  pub free : AreConesOfFree v (free_masks_of faces) g.fan
  pub some : 0 < length g.fan.list
  pub few : length l.chambers ≤ n.table
  pub short : AreShortCones g.fan.k (cones_of l)

-- the input is refused, or its chambers are listed beside its cones
abbrev pub IsListedWithCones : InputValue → Options → Listed → Type 0
IsListedWithCones v n (Refused a) = spelled v (refuses n v) a.status a.text.items
IsListedWithCones v n (Chambers graph faces listing) = HasCones v n graph faces.items (listing_of listing)
