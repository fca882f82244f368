pub use Rattle.git_grading.specs.Gradings
pub use Rattle.git_lines.specs.Lines
pub use Rattle.git_lines.specs.Printing
pub use Rattle.git_lines.specs.Reading as LinesReading
pub use Rattle.git_lines.specs.Views as LinesViews
pub use Rattle.git_polytext.specs.Printing as PolytextPrinting
pub use Rattle.git_input.specs.Inputs
pub mod Grammar
pub mod Faults
pub mod OneDegree
pub mod Reading
pub mod Views
pub mod Laws
pub mod Writing
pub mod Fronts
