-- What only the functions inside the crate are specified by.
pub mod Components
pub mod Search
pub mod Unread
