pub mod Places
pub mod Reasons
pub mod Joined
pub mod Right
pub mod Held
pub mod Listed
pub mod Olds
pub mod Families
