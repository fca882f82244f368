pub mod Numbers
pub mod OneSetting
pub mod Sets
pub mod Samples
pub mod Decided
pub mod OneCommand
