use Rattle.std.proofs.Common.{All, map}
use Rattle.git_listing.specs.Views.{chamber_of}
use Rattle.git_allcones.specs.Cones.{IsShortCone, cone_of_chamber}
use Rattle.git_face_tests.proofs.chambers.listing.Given as goal

abbrev pub invariant-loop-text : goal.invariant-loop-text
invariant-loop-text l = All (IsShortCone l.k) (map cone_of_chamber (map chamber_of l.chambers.items))
