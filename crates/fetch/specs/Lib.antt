pub mod Refusals
pub mod Internal
pub mod Square
