-- What only the functions inside the crate are specified by.
pub mod CellPins
pub mod Cells
pub mod PortGraph
pub mod Ports
pub mod PortsOfParts
pub mod Reached
pub mod Readings
