pub mod LineCounts
pub mod Texts
pub mod Parts
