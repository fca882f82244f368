pub mod Sizes
pub mod Joins
pub mod Lists
pub mod Marks
pub mod LineCounts
pub mod Whole
pub mod OwnReasons
pub mod FacetReasons
