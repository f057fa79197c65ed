pub mod Weights
pub mod Blend
