pub mod CheckLines
pub mod CheckCases
pub mod Laws
