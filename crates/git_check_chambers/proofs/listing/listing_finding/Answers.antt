use Rattle.std.proofs.Common.{◌≡◌, ◌∙◌, All, ℕ, ap, subst}
use Rattle.git_orbit.specs.Orbits.{Fan}
use Rattle.git_listing.specs.Views.{listing_of}
use Rattle.git_check_chambers.specs.Judged.{IsSizedChamber}
use Rattle.git_check_chambers.proofs.Sizes.{all_sized}
use Rattle.git_check_chambers.proofs.listing.listing_finding.Goals as goal

pub judged-requires-clause-sized : goal.judged-requires-clause-sized
judged-requires-clause-sized c =
    let l = listing_of c.args.listing.now in
    let rows : l.k ≡ c.args.cones.now.k = c.if-listing-cones.false ∙ ap (λ (f : Fan). f.k) c.cones.view_is in
    subst (λ (k : ℕ). All (IsSizedChamber k) l.chambers) rows (all_sized l c.requires.fits)
