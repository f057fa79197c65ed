pub mod Sad
pub mod Search
pub mod Refusals
pub mod Picture
pub mod Allowance
pub mod Internal
