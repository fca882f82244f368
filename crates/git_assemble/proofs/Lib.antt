pub mod Founds
pub mod Numbered
pub mod Sided
pub mod OneListing
pub mod Reaching
pub mod Assembled
pub mod Exists
mod Listed
