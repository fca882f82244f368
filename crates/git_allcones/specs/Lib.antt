pub mod Cones
pub mod Faces
pub mod Laws
pub mod Meets
pub mod Sets
pub mod Verdicts
