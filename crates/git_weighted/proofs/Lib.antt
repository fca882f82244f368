pub mod WeightedTexts
