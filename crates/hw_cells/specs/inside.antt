-- What only the functions inside the crate are specified by.
pub mod Copies
pub mod Words
pub mod Pairs
pub mod Parts
pub mod Told
pub mod Ports
