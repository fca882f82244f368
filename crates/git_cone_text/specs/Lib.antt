pub mod ConesText
pub mod Laws
