-- What only the functions inside the crate are specified by.
pub mod Reading
pub mod Refusal
pub mod Inputs
