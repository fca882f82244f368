-- The certificate at a place.
use Rattle.std.proofs.Common.{◌≡◌, ◌<◌, ℕ, List, Some, length, get_or}
use Rattle.std.specs.Prelude.{slice_get}
use Rattle.git_facecert.specs.declared.certificate.FaceVerdict.{FaceVerdict}
use Rattle.git_certtext.specs.Blocks.{FitsBlock, FitsCerts, block_of, blocks_of}
use Rattle.git_asked.proofs.Places.{all_at, map_at}
use Rattle.git_walk.proofs.WalkLemmas.{got_is}
use Rattle.git_check_chambers.proofs.Sizes.{each_of}

module _ (bs : List FaceVerdict) (i : ℕ) (b : FaceVerdict) (low : i < length bs) (is : b ≡ get_or bs i b) where
  pub block_at : slice_get (blocks_of bs) i ≡ Some (block_of b)
  block_at = map_at block_of bs i b (got_is bs i b low is)

  pub fits_at : (r : ℕ) → FitsCerts r (blocks_of bs) → FitsBlock r (block_of b)
  fits_at r h = all_at (FitsBlock r) (blocks_of bs) i (block_of b) (each_of (FitsBlock r) (blocks_of bs) h.each) block_at
