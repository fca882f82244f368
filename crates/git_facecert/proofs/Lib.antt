pub mod Showing
pub mod AnswerOnce
pub mod FacePowers
pub mod Firsts
pub mod Combinations
pub mod Pairs
pub mod Graded
pub mod SomeAnswer
