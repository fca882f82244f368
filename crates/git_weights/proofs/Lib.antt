pub mod ExactLines
pub mod ExactText
pub mod Answers
pub mod Small
