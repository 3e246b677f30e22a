-- What only the functions inside the crate are specified by.
pub mod Lines
pub mod Pins
pub mod Reading
pub mod Refusal
