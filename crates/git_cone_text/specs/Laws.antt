-- What holds of the list of all cones, of the verdict on them and of their text.
use Rattle.std.specs.Prelude.{◌≡◌, ◌⊎◌, ◌+◌, ℕ, List}
use Rattle.std.specs.List.{flat_map, range_with_len}
use Rattle.git_stages.specs.declared.wide.WideAt.{WideAt}
use Rattle.git_cone_faces.specs.Families.{Cone}
use Rattle.git_allcones.specs.Cones.{AreShortCones}
use Rattle.git_allcones.specs.Faces.{AreAllFaces, Face}
use Rattle.git_allcones.specs.Verdicts.{IsFirstPair, IsVerdict, PairIsWide}
use Rattle.git_allcones.specs.declared.verdict.FanVerdict.{FanVerdict}
use Rattle.git_cone_text.specs.ConesText.{cones_text, faces_of}

-- each face stands under its dimension, and so all of them stand in the text, in the order of their list
abbrev pub AllFacesAreShown : Type 0
AllFacesAreShown = (k : ℕ) (cones : List Cone) (faces : List Face) → AreAllFaces k cones faces
    → flat_map (λ d. faces_of d faces) (range_with_len 0 (k + 1)) ≡ faces

-- the first wide pair of the cones, all pairs before it being fine
abbrev pub IsFirstWidePair : ℕ → List Cone → ℕ → ℕ → WideAt → Type 0
IsFirstWidePair k cones first second at = IsFirstPair k cones first second (λ C D. PairIsWide k C D at)

-- there is one verdict at most
abbrev pub VerdictIsOne : Type 0
VerdictIsOne = (k : ℕ) (cones : List Cone) (v w : FanVerdict) → IsVerdict k cones v → IsVerdict k cones w → v ≡ w

-- one wide pair at most
abbrev pub WidePairIsOne : Type 0
WidePairIsOne = (k : ℕ) (cones : List Cone) (first second other_first other_second : ℕ) (at other_at : WideAt)
    → IsFirstWidePair k cones first second at → IsFirstWidePair k cones other_first other_second other_at
    → (first ≡ other_first) × (second ≡ other_second) × (at ≡ other_at)

-- not both
abbrev pub VerdictOrWidePair : Type 0
VerdictOrWidePair = (k : ℕ) (cones : List Cone) (v : FanVerdict) (first second : ℕ) (at : WideAt)
    → IsVerdict k cones v → IsFirstWidePair k cones first second at → ⊥

-- and one of the two
abbrev pub VerdictIsDecided : Type 0
VerdictIsDecided = (k : ℕ) (cones : List Cone) → AreShortCones k cones
    → ((v : FanVerdict) × IsVerdict k cones v) ⊎ ((first second : ℕ) × (at : WideAt) × IsFirstWidePair k cones first second at)

-- there is a list of all faces
abbrev pub AllFacesExist : Type 0
AllFacesExist = (k : ℕ) (cones : List Cone) → AreShortCones k cones → (faces : List Face) × AreAllFaces k cones faces

-- and one text
abbrev pub TextIsOne : Type 0
TextIsOne = (k : ℕ) (cones : List Cone) (faces others : List Face) (v w : FanVerdict) → AreAllFaces k cones faces → AreAllFaces k cones others
    → IsVerdict k cones v → IsVerdict k cones w → cones_text k faces v ≡ cones_text k others w
