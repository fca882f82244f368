pub mod Torsions
pub mod Degrees
pub mod Laws
