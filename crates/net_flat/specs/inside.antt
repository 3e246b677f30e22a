-- What only the functions inside the crate are specified by.
pub mod Levels
pub mod ListingOf
pub mod Placed
pub mod StandFor
