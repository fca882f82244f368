-- What the values of the code stand for.
use Rattle.std.specs.Prelude.{◌≡◌, ℕ, List}
use Rattle.git_defs.specs.Vectors.{Vector}
use Rattle.git_machine.specs.Signatures.{Signature}
use Rattle.git_orbit.specs.Orbits.{Fan}
use Rattle.git_chamber.specs.Chambers.{IsWideSignature}
use Rattle.git_locate.specs.Places.{Place, Placed, inside, outside}
use Rattle.git_locate.specs.Positions.{IsWideAround}
use Rattle.git_locate.specs.Lists.{IsFirstWideWeight}
use Rattle.git_locate.specs.declared.located.LocateAllFault.{LocateAllFault}
use Rattle.git_locate.specs.declared.located.LocateAllFault.TheVariants as every
use Rattle.git_locate.specs.declared.located.LocateFault.{LocateFault}
use Rattle.git_locate.specs.declared.located.LocateFault.TheVariants.{NoMemory, Wide}
use Rattle.git_locate.specs.declared.located.Located.{Located}
use Rattle.git_locate.specs.declared.located.Located.TheVariants.{At, Outside}
use Rattle.git_locate.specs.declared.located.LocatedWeight.{LocatedWeight}

abbrev pub place_of : Located → Place
place_of (Outside n) = outside n
place_of (At cones rays dimension chambers) = inside (record { cones = cones.items; rays = rays.items; dimension = dimension; chambers = chambers.items })

abbrev pub placed_of : LocatedWeight → Placed
placed_of p = record { weight = p.weight; place = place_of p.place }

-- what a refusal of a weight means
abbrev pub IsLocateFault : Fan → Vector → LocateFault → Type 0
IsLocateFault fan w (Wide at) = IsWideAround fan w at
IsLocateFault fan w NoMemory = Unit {0}

-- and of what the cones of a signature have in common
abbrev pub IsCommonFault : Fan → Signature → LocateFault → Type 0
IsCommonFault fan sig (Wide at) = IsWideSignature fan sig at
IsCommonFault fan sig NoMemory = Unit {0}

-- what a refusal of the weight with this number means
abbrev pub IsFaultAt : Fan → ℕ → Vector → LocateAllFault → Type 0
IsFaultAt fan number w (every.Wide n at) = (n ≡ number) × IsWideAround fan w at
IsFaultAt fan number w every.NoMemory = Unit {0}

-- what a refusal of several weights means
abbrev pub IsLocateAllFault : Fan → List Vector → LocateAllFault → Type 0
IsLocateAllFault fan weights (every.Wide number at) = IsFirstWideWeight fan weights number at
IsLocateAllFault fan weights every.NoMemory = Unit {0}
