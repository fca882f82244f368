pub mod Starts
pub mod Traded
pub mod Stops
pub mod Verdicts
pub mod Laws
