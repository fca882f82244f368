pub mod Hinting
pub mod Views
