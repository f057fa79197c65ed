pub mod Laws
pub mod Passes
pub mod Answers
