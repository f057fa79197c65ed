pub mod Records
pub mod Internal
