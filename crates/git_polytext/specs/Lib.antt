pub use Rattle.git_lines.specs.Reading as LinesReading
pub use Rattle.git_algebra.specs.Exponents
pub use Rattle.git_algebra.specs.Polynomials
pub mod Pieces
pub mod Terms
pub mod Views
pub mod Reading
pub mod Grammar
pub mod Printing
pub mod Laws
