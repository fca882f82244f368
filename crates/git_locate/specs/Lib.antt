pub mod Places
pub mod Positions
pub mod Lists
pub mod Views
pub mod Laws
pub mod PlaceText
