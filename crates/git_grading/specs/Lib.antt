pub use Rattle.git_defs.specs.Faces
pub use Rattle.git_defs.specs.Vectors
pub use Rattle.git_minors.specs.Minors
pub mod Gradings
pub mod Tables
