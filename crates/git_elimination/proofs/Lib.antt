pub mod Eliminating
pub mod Progressing
