pub mod BunchCases
pub mod Laws
