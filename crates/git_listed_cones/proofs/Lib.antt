pub mod Once
pub mod Cones
