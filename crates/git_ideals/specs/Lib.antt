pub mod Ideals
pub mod Division
pub mod Faces
pub mod Laws
pub mod Extra
