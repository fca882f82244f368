pub mod FaceAnswers
pub mod Replied
