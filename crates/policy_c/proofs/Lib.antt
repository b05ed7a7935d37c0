pub mod OrderAnswer
