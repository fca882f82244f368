-- What the first line of a block announces, as the code holds it.
use Rattle.git_certtext.specs.declared.blocks.Announced.{Announced}
use Rattle.git_certtext.specs.declared.blocks.Announced.TheVariants.{Members, Cofactors}
use Rattle.git_certtext.specs.CertReading.{Kind, members, cofactors}

abbrev pub kind_of : Announced → Kind
kind_of (Members n) = members n
kind_of (Cofactors power n) = cofactors power n
