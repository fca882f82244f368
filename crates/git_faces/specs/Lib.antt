pub mod FullFaces
pub mod FaceVerdicts
pub mod Dealing
pub mod Laws
