pub mod TermLists
pub mod Merging
pub mod Shifting
pub mod Splitting
pub mod Faces
pub mod Searching
pub mod Closing
pub mod Grading
pub mod Parting
pub mod Ending
mod Pieces
