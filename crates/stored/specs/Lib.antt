pub mod Stored
pub mod Tally
