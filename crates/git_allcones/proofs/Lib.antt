pub mod AllFaces
pub mod FaceLists
pub mod Meets
pub mod Pairs
pub mod Passings
pub mod Sizes
pub mod Sorts
