pub mod Findings
pub mod Ways
pub mod Asked
pub mod Asks
pub mod Alike
pub mod Held
pub mod Laws
