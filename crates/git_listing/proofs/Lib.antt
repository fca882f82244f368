mod Olds
pub mod ListingLines
pub mod ChamberSteps
pub mod Whole
pub mod ListingTexts
pub mod ReadingLaws
