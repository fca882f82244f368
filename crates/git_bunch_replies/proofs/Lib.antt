mod Crossed
mod Families
pub mod Replied
