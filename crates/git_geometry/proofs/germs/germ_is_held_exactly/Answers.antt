use Rattle.git_defs.proofs.Lengths.{all_of_length}
use Rattle.git_geometry.proofs.Signs.{holds_of_signs, signs_of_holds}
use Rattle.git_geometry.proofs.germs.germ_is_held_exactly.Goals as goal

pub returns : goal.returns
returns c = λ k normals germ have. (
  signs_of_holds k normals germ (all_of_length k germ have),
  holds_of_signs k normals germ
      (all_of_length k germ have),
)
