pub mod Numbers
pub mod Avoiding
pub mod Exits
pub mod Boundaries
pub mod Walks
