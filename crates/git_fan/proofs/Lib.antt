pub mod FullFaces
pub mod Wide
pub mod NotGood
pub mod Opens
pub mod Listings
