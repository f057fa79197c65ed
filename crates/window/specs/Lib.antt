pub mod Layout
pub mod Frames
pub mod Refusals
pub mod Internal
