pub mod Sizes
pub mod Answered
pub mod OneText
pub mod FitCerts
pub mod Written
