-- What holds of the list of all faces.
use Rattle.std.specs.Prelude.{◌≡◌, ◌↔◌, ◌<◌, ℕ, List}
use Rattle.git_cone_faces.specs.Families.{AreRaysOfSomeFace, Cone}
use Rattle.git_allcones.specs.Faces.{AreAllFaces, Face, HaveMany, faces_size}
use Rattle.git_allcones.specs.declared.sets.TheConstants.{FACES}

-- some cones have one list of all faces
abbrev pub ListOfFacesIsOne : Type 0
ListOfFacesIsOne = (k : ℕ) (cones : List Cone) (faces others : List Face) → AreAllFaces k cones faces → AreAllFaces k cones others → faces ≡ others

-- faces are too many exactly where that list passes the limit
abbrev pub ManyFacesPassTheLimit : Type 0
ManyFacesPassTheLimit = (k : ℕ) (cones : List Cone) (faces : List Face) → AreAllFaces k cones faces
    → (HaveMany (AreRaysOfSomeFace k cones) ↔ FACES < faces_size faces)
