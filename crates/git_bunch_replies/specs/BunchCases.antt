-- What is answered of the listing of an input by bunches.
use Rattle.std.specs.Prelude.{◌≡◌, ◌⊎◌, ℕ, List}
use Rattle.git_base.specs.declared.status.Status.TheVariants.{Done}
use Rattle.git_defs.specs.Faces.{IsConeFace}
use Rattle.git_ideals.specs.Faces.{IsAFace}
use Rattle.git_input.specs.Inputs.{InputValue}
use Rattle.git_orbit.specs.Orbits.{Fan}
use Rattle.git_listing.specs.Listings.{Listing}
use Rattle.git_replies.specs.Cases.{Case, says}
use Rattle.git_answers.specs.Fan.{Options, listed_then}
use Rattle.git_answers.specs.Verdicts.{IsFullFace}
use Rattle.git_bunch.specs.Stable.{AreDescending, Family, family}
use Rattle.git_bunch.specs.Bunches.{AreBunches, BunchValue}
use Rattle.git_bunch.specs.BunchText.{bunches_text}

-- the bunches of the listing's chambers are told
abbrev pub bunch_case : Family → Listing → Case
bunch_case F l o = (bunches : List BunchValue) × AreBunches F l.chambers bunches × (o ≡ says Done (bunches_text bunches))

-- a full face of the input that is an a-face
abbrev pub IsFullAFace : InputValue → ℕ → Type 0
IsFullAFace v = IsConeFace v.degrees.k v.degrees.columns (IsAFace v.generators)

-- the same over the fan of an input and all its full a-faces
abbrev pub tells : InputValue → Fan → Listing → Case
tells v fan l o = (free : List ℕ) × AreDescending (IsFullAFace v) free × bunch_case (family fan v.degrees.columns free) l o

-- what is answered of an input: why its chambers aren't listed, or their bunches
abbrev pub bunches_of : Options → InputValue → Case
bunches_of n v = listed_then n (tells v) v

-- of each full face it is decided whether it is an a-face
abbrev pub AreDecided : InputValue → Type 0
AreDecided v = (m : ℕ) → IsFullFace v m → IsAFace v.generators m ⊎ (IsAFace v.generators m → ⊥)
