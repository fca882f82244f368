pub mod Numbers
pub mod Sides
pub mod Listed
pub mod Gathered
pub mod Once
pub mod Existing
pub mod Several
pub mod Insides
