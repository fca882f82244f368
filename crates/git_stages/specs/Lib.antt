pub mod Short
pub mod Prepared
pub mod Ranks
pub mod Eliminations
pub mod Stages
pub mod Wide
pub mod Narrow
pub mod Laws
