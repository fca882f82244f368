pub mod Fields
pub mod Comparing
