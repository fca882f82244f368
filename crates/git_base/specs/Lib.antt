pub mod Faults
pub mod Prefixes
pub mod Memory
pub mod Status
