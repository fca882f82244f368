pub mod Spelled
pub mod FieldSteps
pub mod LinesSpelled
pub mod Loops
pub mod Many
pub mod Bytes
