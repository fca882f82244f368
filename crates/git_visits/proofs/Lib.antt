pub mod Cuts
pub mod Facts
pub mod Counts
pub mod Works
pub mod Draws
pub mod Stores
pub mod Loads
pub mod Publishes
pub mod Begins
pub mod Events
pub mod Seating
mod Passages
