-- What only the functions inside the crate are specified by.
pub mod CellPins
pub mod Cells
pub mod Levels
pub mod LoopedSoFar
pub mod Wiring
