-- The entries of a map of terms.
use Rattle.std.specs.Prelude.{◌<◌, [], ◌∷◌}
use Rattle.git_field.specs.declared.TheConstants.{MODULUS}
use Rattle.git_algebra.specs.Sums.{Sum}

-- each number is from 1 to 32002
abbrev pub AreNumbers : Sum → Type 0
AreNumbers [] = Unit {0}
AreNumbers (t ∷ p) = (0 < t.1) × (t.1 < MODULUS) × AreNumbers p
