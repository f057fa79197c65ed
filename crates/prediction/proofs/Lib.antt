pub mod Edges
pub mod Ceilings
pub mod Rows
pub mod Worked
mod Cells
