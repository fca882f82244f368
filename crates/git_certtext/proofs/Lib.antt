pub mod CertSpelled
pub mod CertTexts
