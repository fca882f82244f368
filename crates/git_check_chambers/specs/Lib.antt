pub mod Families
pub mod Judged
