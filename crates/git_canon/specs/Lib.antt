pub mod Canons
