pub mod inside
pub mod Levels
