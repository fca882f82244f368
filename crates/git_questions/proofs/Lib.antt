pub mod Chambers
pub mod Told
pub mod AllCones
pub mod Weighted
