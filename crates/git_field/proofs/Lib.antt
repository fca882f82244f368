pub mod Divisors
pub mod Inverses
