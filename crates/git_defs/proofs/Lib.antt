pub mod Lengths
pub mod Linear
pub mod Sums
pub mod Closed
pub mod PlaneRays
pub mod Cuts
