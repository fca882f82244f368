pub mod Integers
pub mod Divisions
pub mod Members
pub mod Options
pub mod Order
pub mod Padding
pub mod Sorting
