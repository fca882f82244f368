pub use Rattle.git_lines.specs.Lines
pub use Rattle.git_lines.specs.Printing
pub use Rattle.git_polytext.specs.Printing as PolynomialPrinting
pub mod CertificateText
pub mod Faults
pub mod Blocks
pub mod CertReading
pub mod BlockViews
pub mod Laws
