pub mod InputCones
