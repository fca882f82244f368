pub mod Faces
pub mod Families
pub mod Filters
pub mod Laws
