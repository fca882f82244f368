pub mod Mov
pub mod Parts
pub mod Moving
pub mod Text
pub mod Laws
