pub mod Field
pub mod Prime
pub mod Laws
pub mod Inverse
