pub use Rattle.git_defs.specs.Vectors
pub mod Padded
pub mod Content
