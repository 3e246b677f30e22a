-- What only the functions inside the crate are specified by.
pub mod Body
pub mod Frames
pub mod Planning
