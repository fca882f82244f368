pub use Rattle.git_defs.specs.Vectors
pub use Rattle.git_algebra.specs.Exponents
pub use Rattle.git_algebra.specs.Operations
pub use Rattle.git_algebra.specs.Order
pub use Rattle.git_algebra.specs.Polynomials
pub use Rattle.git_algebra.specs.Sums
pub mod Terms
pub mod Degrees
