-- What only the functions inside the crate are specified by.
pub mod Destinations
pub mod Flattening
pub mod NoGuards
pub mod Settled
pub mod Wires
