pub use Rattle.git_lines.specs.Lines
pub use Rattle.git_lines.specs.Printing
pub use Rattle.git_lines.specs.Reading as LinesReading
pub use Rattle.git_lines.specs.Views as LinesViews
pub mod Faults
pub mod Reading
pub mod Spelling
