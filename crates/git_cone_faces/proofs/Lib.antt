pub mod Walls
pub mod Levels
pub mod Faces
pub mod Filters
pub mod Passes
pub mod Full
pub mod Meetings
