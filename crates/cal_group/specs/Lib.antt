pub mod inside
pub mod Expands
pub mod RemovesGroups
