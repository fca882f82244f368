-- What is answered of a listing by all cones, by cases in order.
use Rattle.std.specs.Prelude.{◌≡◌, ℕ, List}
use Rattle.git_base.specs.declared.status.Status.TheVariants.{Done, TooMany, Wide}
use Rattle.git_stages.specs.declared.wide.WideAt.{WideAt}
use Rattle.git_cone_faces.specs.Families.{AreRaysOfSomeFace}
use Rattle.git_listing.specs.Listings.{Listing}
use Rattle.git_allcones.specs.Cones.{cones_of}
use Rattle.git_allcones.specs.Faces.{AreAllFaces, Face, HaveMany}
use Rattle.git_allcones.specs.Verdicts.{IsVerdict}
use Rattle.git_allcones.specs.declared.verdict.FanVerdict.{FanVerdict}
use Rattle.git_cone_text.specs.ConesText.{cones_text}
use Rattle.git_cone_text.specs.Laws.{IsFirstWidePair}
use Rattle.git_replies.specs.Cases.{Case, ◌otherwise◌, says}
use Rattle.git_cone_replies.specs.ConeLines.{many_text, wide_pair_text}

-- the faces of the chambers and the rays in them are more than the limit
abbrev pub too_many : Listing → Case
too_many l o = HaveMany (AreRaysOfSomeFace l.k (cones_of l)) × (o ≡ says TooMany many_text)

-- a pair of chambers is wide, and all pairs before it are neither wide nor meet elsewhere than in a face of both
abbrev pub wide_pair : Listing → Case
wide_pair l o = (first second : ℕ) × (at : WideAt) × IsFirstWidePair l.k (cones_of l) first second at × (o ≡ says Wide (wide_pair_text first second at))

-- all faces and the verdict
abbrev pub tells : Listing → Case
tells l o = (faces : List Face) × (v : FanVerdict) × AreAllFaces l.k (cones_of l) faces × IsVerdict l.k (cones_of l) v × (o ≡ says Done (cones_text l.k faces v))

-- the verdict, or that there is none
abbrev pub judges : Listing → Case
judges l = wide_pair l otherwise tells l

abbrev pub cones_case : Listing → Case
cones_case l = too_many l otherwise judges l
