pub use Rattle.git_base.specs.Faults
pub use Rattle.git_base.specs.Prefixes
pub use Rattle.git_answers.specs.Ends
pub use Rattle.git_questions.specs.Questions
pub mod Commands
