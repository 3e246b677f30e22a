-- What only the functions inside the crate are specified by.
pub mod Inputs
pub mod Offsets
pub mod Reading
pub mod Refusal
