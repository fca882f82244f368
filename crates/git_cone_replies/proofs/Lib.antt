pub mod AllAnswers
