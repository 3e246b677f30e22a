pub mod inside
pub mod Cells
pub mod PartGraph
