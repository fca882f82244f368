pub use Rattle.git_algebra.specs.Exponents
pub use Rattle.git_algebra.specs.Operations
pub use Rattle.git_algebra.specs.Polynomials
pub use Rattle.git_algebra.specs.Sums
pub use Rattle.git_ideals.specs.Division
pub use Rattle.git_ideals.specs.Ideals
pub mod Entries
pub mod Steps
