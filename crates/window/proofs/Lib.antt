pub mod Frames
pub mod Lines
mod Scan
pub mod Built
pub mod Caps
