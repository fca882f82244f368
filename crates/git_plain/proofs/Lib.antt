pub mod Grows
pub mod Closes
pub mod Ordered
pub mod Listed
