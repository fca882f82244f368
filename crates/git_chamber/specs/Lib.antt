pub mod Views
pub mod Chambers
pub mod Faults
pub mod Listings
pub mod Nexts
pub mod Laws
