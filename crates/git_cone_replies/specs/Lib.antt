pub mod ConeLines
pub mod ConeCases
pub mod Laws
