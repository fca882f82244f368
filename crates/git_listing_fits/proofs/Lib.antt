pub mod FewFacets
pub mod Chambers
pub mod Fits
pub mod Counts
