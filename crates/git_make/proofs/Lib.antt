pub mod Positive
pub mod Gradings
pub mod Relations
pub mod Inputs
pub mod Drawing
