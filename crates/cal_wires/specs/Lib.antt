pub mod NodeOrder
pub mod Nodes
pub mod Readings
pub mod WireGraphs
