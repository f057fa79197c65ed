pub mod Filled
pub mod Refused
