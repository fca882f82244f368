pub mod Families
pub mod Exact
pub mod Judged
