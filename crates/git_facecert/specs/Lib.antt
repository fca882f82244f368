pub use Rattle.git_algebra.specs.Exponents
pub use Rattle.git_algebra.specs.Operations
pub use Rattle.git_ideals.specs.Division
pub use Rattle.git_ideals.specs.Faces
pub use Rattle.git_ideals.specs.Ideals
pub mod Certificates
pub mod Answers
pub mod Laws
