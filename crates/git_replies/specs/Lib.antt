pub use Rattle.git_lines.specs.Printing
pub mod Cases
pub mod Refusals
pub mod Lines
pub mod Counts
pub mod Reads
pub mod Readings
