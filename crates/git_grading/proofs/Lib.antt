pub mod Sizes
pub mod Walks
pub mod Tables
pub mod OneSided
pub mod Judged
