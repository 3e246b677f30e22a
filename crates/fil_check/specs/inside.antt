-- What only the functions inside the crate are specified by.
pub mod FirstComponent
pub mod Weights
