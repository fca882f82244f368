pub mod Masks
pub mod Accepted
pub mod Made
pub mod Openings
