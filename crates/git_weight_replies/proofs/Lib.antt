pub mod WeightAnswers
