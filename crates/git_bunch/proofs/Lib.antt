mod Falling
mod Changing
mod Columns
mod Gathers
mod Grouping
mod Naming
mod Sides
mod Within
pub mod Numbered
mod Minimals
pub mod Once
pub mod Exist
