pub mod Refusals
pub mod Internal
