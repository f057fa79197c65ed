pub mod Samples
pub mod Vector
pub mod Plane
pub mod Filter
pub mod Prediction
pub mod Refusals
pub mod Ceiled
pub mod Internal
