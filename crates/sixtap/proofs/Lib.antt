pub mod Table
pub mod Sizes
