pub mod Reached
pub mod Promise
pub mod Filling
pub mod Allowed
