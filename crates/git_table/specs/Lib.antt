pub mod Offers
pub mod Takes
pub mod Listings
pub mod Views
pub mod Calls
pub mod Stacks
pub mod Seats
