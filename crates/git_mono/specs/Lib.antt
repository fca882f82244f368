pub use Rattle.git_algebra.specs.Exponents
pub use Rattle.git_algebra.specs.Order
