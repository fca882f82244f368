pub mod CaseLaws
pub mod ReadLaws
pub mod NumberWords
pub mod Tallies
pub mod Refused
