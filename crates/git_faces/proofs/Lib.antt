pub mod FullMasks
pub mod Outcomes
pub mod Firsts
pub mod FullLists
pub mod FirstStops
pub mod Certified
