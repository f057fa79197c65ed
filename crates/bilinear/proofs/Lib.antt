pub mod Mean
mod Copies
