pub mod Among
pub mod Words
pub mod Puts
pub mod Written
pub mod Runs
pub mod Steps
pub mod Once
