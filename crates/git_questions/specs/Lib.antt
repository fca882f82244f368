pub use Rattle.git_answers.specs.Ends
pub use Rattle.git_answers.specs.Fan
pub mod Questions
