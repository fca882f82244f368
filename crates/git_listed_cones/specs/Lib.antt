pub use Rattle.git_fan.specs.Fans
pub mod ListedCones
