pub use Rattle.git_replies.specs.Cases
pub use Rattle.git_lines.specs.Printing
pub mod WeightedInputs
pub mod Refusals
pub mod Reads
pub mod Readings
pub mod Laws
