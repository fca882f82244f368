pub use Rattle.git_replies.specs.Cases
pub use Rattle.git_lines.specs.Printing
pub mod CheckText
pub mod Refusals
pub mod Reads
pub mod Views
pub mod Readings
pub mod Laws
