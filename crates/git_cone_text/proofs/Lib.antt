pub mod Decides
pub mod Exists
pub mod Once
mod Shown
