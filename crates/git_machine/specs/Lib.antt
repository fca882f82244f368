pub mod Signatures
pub mod Ties
pub mod SignatureLaws
pub mod Reach
pub mod Machine
pub mod Laws
pub mod States
