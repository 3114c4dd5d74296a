pub mod ExtractAnswers
