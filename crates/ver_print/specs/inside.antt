-- What only the functions inside the crate are specified by.
pub mod Drivers
pub mod Pieces
pub mod Putting
pub mod Shapes
pub mod Sides
