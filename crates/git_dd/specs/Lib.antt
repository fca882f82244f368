pub use Rattle.git_adjacency.specs.Marks
pub use Rattle.git_elimination.specs.Progress
pub mod Answers
pub mod Converted
pub mod Stops
pub mod Tights
