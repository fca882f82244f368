pub mod TermMaps
pub mod Dividing
pub mod Raising
