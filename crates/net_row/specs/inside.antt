-- What only the functions inside the crate are specified by.
pub mod Compiling
pub mod Ports
