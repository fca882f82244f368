pub mod Making
pub mod Assembling
pub mod Laws
