pub mod Ends
pub mod Extends
pub mod Finals
pub mod Lates
pub mod Tightness
