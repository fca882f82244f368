pub mod Bounds
pub mod Swaps
pub mod Terms
