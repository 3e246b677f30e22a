-- What only the functions inside the crate are specified by.
pub mod Ends
pub mod Renaming
pub mod Showing
