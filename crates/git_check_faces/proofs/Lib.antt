pub mod Certs
pub mod Exact
pub mod LineCounts
pub mod Reasons
