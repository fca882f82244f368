pub mod Exponents
pub mod Order
pub mod Sums
pub mod Polynomials
pub mod Operations
pub mod Laws
