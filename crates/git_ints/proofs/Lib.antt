pub mod Sizes
pub mod Dots
pub mod Padding
pub mod Contents
pub mod Built
